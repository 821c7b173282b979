use Rattle.std.proofs.Common.{◌≡◌, ◌+◌, ◌-◌, length, refl, arith}
use Rattle.pg_grammar.specs.declared.fault.Fault.TheVariants.{Syntax}
use Rattle.pg_grammar.specs.Answers.{read, failed}
use Rattle.pg_grammar.specs.Parts.{seen}
use Rattle.pg_grammar.proofs.Leading.{leads_on}
use Rattle.pg_parse_expr.specs.Behind.{behind_comparison, behind_concatenation}
use Rattle.pg_parse_expr.specs.Grammar.{operation, concatenation, factor}
use Rattle.pg_parse_expr.specs.Levels.{step_at, before_at}
use Rattle.pg_parse_expr.specs.Operators.{compare_op}
use Rattle.pg_parse_expr.specs.Rest.{distinct_operand}
use Rattle.pg_parse_expr.specs.Tree.{height, binary}
use Rattle.pg_parse_expr.proofs.Bracketing.{chain_concat, chain_or, conjunction_at, closed_refused, closed_last, closed_turn, closed_failed}
use Rattle.pg_parse_expr.proofs.Factors.{factor_deep}
use Rattle.pg_parse_expr.proofs.Leaves.{literal_low}
use Rattle.pg_parse_expr.proofs.Steps.{joined_reads, step_deep, step_failed, step_read, chain_turn, chain_turn_failed, chain_end, compare_deep, compare_failed, compare_read, comparison_failed, comparison_read}
use Rattle.pg_parse_expr.proofs.Testing.{test_deep, test_not, tested_distinct, distinct_failed, distinct_read, tests_turn, tests_turn_failed, tests_end, negation_deep}
use Rattle.pg_parse_expr.proofs.Weights.{opening_some}
use Rattle.pg_parse_expr.proofs.parse.+expr.Goals as goal

pub expr-returns-in-Some-clause-low : goal.expr-returns-in-Some-clause-low
expr-returns-in-Some-clause-low t c =
    let found = rw c.in-Some.is at c.in_ok-whole.ensures in
    let one = literal_low c.args.tokens.now c.in-Some.whole.rest.now c.in-Some.whole.value found.0 in
    omega (arith, one, c.if-depth-lt-MAX_DEPTH.true)

pub expr-returns-in-Ok-clause-reads : goal.expr-returns-in-Ok-clause-reads
expr-returns-in-Ok-clause-reads t c = chain_or c.args.depth c.args.tokens.now (read c.in-Ok.part.value c.in-Ok.part.rest.now) c.in-Ok.ensures.reads

pub expr-returns-in-Err-clause-reads : goal.expr-returns-in-Err-clause-reads
expr-returns-in-Err-clause-reads t c = chain_or c.args.depth c.args.tokens.now (failed c.in-Err.fault) c.in-Err.ensures.reads

pub behind_conjunction-returns-in-Ok-clause-reads : goal.behind_conjunction-returns-in-Ok-clause-reads
behind_conjunction-returns-in-Ok-clause-reads t c =
    conjunction_at c.args.depth c.args.first.value c.args.first.rest.now (read c.in-Ok.part.value c.in-Ok.part.rest.now) c.in-Ok.ensures.reads

pub behind_conjunction-returns-in-Err-clause-reads : goal.behind_conjunction-returns-in-Err-clause-reads
behind_conjunction-returns-in-Err-clause-reads t c =
    conjunction_at c.args.depth c.args.first.value c.args.first.rest.now (failed c.in-Err.fault) c.in-Err.ensures.reads

pub chain_behind-loop-op-preserved : goal.chain_behind-loop-op-preserved
chain_behind-loop-op-preserved t c = record {
  leads = leads_on c.loop-op.invariant.leads
      (chain_turn c.args.level c.args.depth c.loop-op.left c.in-Ok.part.value c.loop-op.rest.now c.in-Some.behind.now c.in-Ok.part.rest.now c.in-Some.op
      c.in-Some.ensures c.in-Ok.ensures.reads);
  fits = c.in-Ok.ensures.low;
}

pub chain_behind-returns-in-Err-clause-reads : goal.chain_behind-returns-in-Err-clause-reads
chain_behind-returns-in-Err-clause-reads t c =
    c.loop-op.invariant.leads.to (failed c.in-Err.fault)
    (chain_turn_failed c.args.level c.args.depth c.loop-op.left c.loop-op.rest.now c.in-Some.behind.now c.in-Some.op c.in-Err.fault
    c.in-Some.ensures c.in-Err.ensures.reads)

pub chain_behind-returns-clause-reads : goal.chain_behind-returns-clause-reads
chain_behind-returns-clause-reads t c =
    c.loop-op.invariant.leads.to (read c.loop-op.left c.loop-op.rest.now)
    (chain_end c.args.level c.args.depth c.loop-op.left c.loop-op.rest.now c.in_default.ensures)

pub closed-returns-in-None-clause-reads : goal.closed-returns-in-None-clause-reads
closed-returns-in-None-clause-reads t c =
    c.loop-rest.invariant.leads.to (failed (Syntax (length c.loop-rest.whole.rest.now)))
    (closed_refused c.args.depth c.loop-rest.left (length c.loop-rest.whole.rest.now) c.loop-rest.whole.value c.loop-rest.whole.rest.now c.in-None.ensures refl)

pub closed-returns-then-left-eq0-clause-reads : goal.closed-returns-then-left-eq0-clause-reads
closed-returns-then-left-eq0-clause-reads t c =
    c.loop-rest.invariant.leads.to (read c.loop-rest.whole.value c.in-Some.rest.now)
    (closed_last c.args.depth c.loop-rest.left c.loop-rest.whole.value c.loop-rest.whole.value c.loop-rest.whole.rest.now c.in-Some.rest.now
    (omega (arith, c.if-left-eq0.true)) c.in-Some.ensures refl)

pub closed-returns-in-Err-clause-reads : goal.closed-returns-in-Err-clause-reads
closed-returns-in-Err-clause-reads t c =
    c.loop-rest.invariant.leads.to (failed c.in-Err.fault)
    (closed_failed c.args.depth c.loop-rest.left (c.loop-rest.left - 1) c.loop-rest.whole.value c.loop-rest.whole.rest.now c.in-Some.rest.now c.in-Err.fault
    (omega (arith, c.if-left-eq0.false)) c.in-Some.ensures c.in-Err.ensures.reads)

pub closed-loop-rest-preserved : goal.closed-loop-rest-preserved
closed-loop-rest-preserved t c = record {
  leads = leads_on c.loop-rest.invariant.leads
      (closed_turn c.args.depth c.loop-rest.left (c.loop-rest.left - 1) c.loop-rest.whole.value c.in-Ok.whole.value c.loop-rest.whole.rest.now c.in-Some.rest.now c.in-Ok.whole.rest.now
      (omega (arith, c.if-left-eq0.false)) c.in-Some.ensures c.in-Ok.ensures.reads);
  fits = c.in-Ok.ensures.low;
}

pub compared-returns-then-depth-height-ge-MAX_DEPTH-clause-reads : goal.compared-returns-then-depth-height-ge-MAX_DEPTH-clause-reads
compared-returns-then-depth-height-ge-MAX_DEPTH-clause-reads t c =
    let same : c.height.result ≡ height c.args.left = cc c.height.ensures.height in
    compare_deep c.args.depth c.args.left c.args.tokens.now c.args.behind.now c.args.op (length c.args.tokens.now)
    (omega (arith, same, c.if-depth-height-ge-MAX_DEPTH.true)) c.requires.takes refl

pub compared-returns-in-Ok-clause-reads : goal.compared-returns-in-Ok-clause-reads
compared-returns-in-Ok-clause-reads t c =
    let same : c.height.result ≡ height c.args.left = cc c.height.ensures.height in
    joined_reads (operation compare_op (concatenation factor) c.args.depth c.args.left) behind_concatenation c.args.tokens.now c.joined.result
    (binary c.args.op c.args.left c.in-Ok.right.value) c.in-Ok.right.rest.now c.joined.ensures
    (compare_read c.args.depth (c.args.depth + 1) c.args.left c.in-Ok.right.value (binary c.args.op c.args.left c.in-Ok.right.value) c.args.tokens.now c.args.behind.now c.in-Ok.right.rest.now c.args.op
    (omega (arith, same, c.if-depth-height-ge-MAX_DEPTH.false)) c.requires.takes (omega arith)
    (chain_concat (c.args.depth + 1) c.args.behind.now (read c.in-Ok.right.value c.in-Ok.right.rest.now) c.in-Ok.ensures.reads) refl)

pub compared-returns-clause-reads : goal.compared-returns-clause-reads
compared-returns-clause-reads t c =
    let same : c.height.result ≡ height c.args.left = cc c.height.ensures.height in
    compare_failed c.args.depth (c.args.depth + 1) c.args.left c.args.tokens.now c.args.behind.now c.args.op c.in-Err.fault
    (omega (arith, same, c.if-depth-height-ge-MAX_DEPTH.false)) c.requires.takes (omega arith)
    (chain_concat (c.args.depth + 1) c.args.behind.now (failed c.in-Err.fault) c.in-Err.ensures.reads)

pub comparison-returns-in-Ok-clause-reads : goal.comparison-returns-in-Ok-clause-reads
comparison-returns-in-Ok-clause-reads t c =
    comparison_read c.args.depth c.args.tokens.now c.in-Ok.first.rest.now c.in-Ok.first.value (seen c.comparison_behind.result)
    (chain_concat c.args.depth c.args.tokens.now (read c.in-Ok.first.value c.in-Ok.first.rest.now) c.in-Ok.ensures.reads) c.comparison_behind.ensures.reads

pub comparison-returns-in-Err-clause-reads : goal.comparison-returns-in-Err-clause-reads
comparison-returns-in-Err-clause-reads t c =
    comparison_failed c.args.depth c.args.tokens.now c.in-Err.fault (chain_concat c.args.depth c.args.tokens.now (failed c.in-Err.fault) c.in-Err.ensures.reads)

pub distinct_from-returns-in-Ok-clause-reads : goal.distinct_from-returns-in-Ok-clause-reads
distinct_from-returns-in-Ok-clause-reads t c =
    joined_reads (distinct_operand c.args.distinct c.args.depth c.args.left) behind_comparison c.args.tokens.now c.joined.result
    (binary c.args.distinct c.args.left c.in-Ok.right.value) c.in-Ok.right.rest.now c.joined.ensures
    (distinct_read c.args.distinct c.args.depth c.args.left (c.args.depth + 1) c.args.tokens.now c.in-Ok.right.rest.now c.in-Ok.right.value (binary c.args.distinct c.args.left c.in-Ok.right.value)
    (omega arith) (chain_concat (c.args.depth + 1) c.args.tokens.now (read c.in-Ok.right.value c.in-Ok.right.rest.now) c.in-Ok.ensures.reads) refl)

pub distinct_from-returns-in-Err-clause-reads : goal.distinct_from-returns-in-Err-clause-reads
distinct_from-returns-in-Err-clause-reads t c =
    distinct_failed c.args.distinct c.args.depth c.args.left (c.args.depth + 1) c.args.tokens.now c.in-Err.fault
    (omega arith) (chain_concat (c.args.depth + 1) c.args.tokens.now (failed c.in-Err.fault) c.in-Err.ensures.reads)

pub factor-bracketed-requires : goal.factor-bracketed-requires
factor-bracketed-requires t c =
    let o = opening_some c.args.tokens.now c.in-Some.inner.now c.in-Some.ensures in
    (first_of (omega (arith, o), grind (arith, o)), c.requires)

pub factor-returns-then-depth-ge-MAX_DEPTH-clause-reads : goal.factor-returns-then-depth-ge-MAX_DEPTH-clause-reads
factor-returns-then-depth-ge-MAX_DEPTH-clause-reads t c =
    factor_deep c.args.depth (length c.args.tokens.now) c.args.tokens.now c.in-Some-accept_sign.rest.now c.in_default.ensures c.in-Some-accept_sign.ensures
    c.if-depth-ge-MAX_DEPTH.true refl

pub negation-returns-then-depth-ge-MAX_DEPTH-clause-reads : goal.negation-returns-then-depth-ge-MAX_DEPTH-clause-reads
negation-returns-then-depth-ge-MAX_DEPTH-clause-reads t c =
    negation_deep c.args.depth (length c.args.tokens.now) c.args.tokens.now c.in-Some.rest.now (omega (arith, c.if-depth-ge-MAX_DEPTH.true)) c.in-Some.ensures refl

pub operation-returns-then-depth-height-ge-MAX_DEPTH-clause-reads : goal.operation-returns-then-depth-height-ge-MAX_DEPTH-clause-reads
operation-returns-then-depth-height-ge-MAX_DEPTH-clause-reads t c =
    let same : c.height.result ≡ height c.args.left = cc c.height.ensures.height in
    step_deep c.args.level c.args.depth c.args.left c.args.tokens.now c.args.behind.now c.args.op (length c.args.tokens.now)
    (omega (arith, same, c.if-depth-height-ge-MAX_DEPTH.true)) c.requires.takes refl

pub operation-returns-in-Ok-clause-reads : goal.operation-returns-in-Ok-clause-reads
operation-returns-in-Ok-clause-reads t c =
    let same : c.height.result ≡ height c.args.left = cc c.height.ensures.height in
    joined_reads (step_at c.args.level c.args.depth c.args.left) (before_at c.args.level) c.args.tokens.now c.joined.result
    (binary c.args.op c.args.left c.in-Ok.right.value) c.in-Ok.right.rest.now c.joined.ensures
    (step_read c.args.level c.args.depth (c.args.depth + 1) c.args.left c.in-Ok.right.value (binary c.args.op c.args.left c.in-Ok.right.value) c.args.tokens.now c.args.behind.now c.in-Ok.right.rest.now c.args.op
    (omega (arith, same, c.if-depth-height-ge-MAX_DEPTH.false)) c.requires.takes (omega arith) c.in-Ok.ensures.reads refl)

pub operation-returns-clause-reads : goal.operation-returns-clause-reads
operation-returns-clause-reads t c =
    let same : c.height.result ≡ height c.args.left = cc c.height.ensures.height in
    step_failed c.args.level c.args.depth (c.args.depth + 1) c.args.left c.args.tokens.now c.args.behind.now c.args.op c.in-Err.fault
    (omega (arith, same, c.if-depth-height-ge-MAX_DEPTH.false)) c.requires.takes (omega arith) c.in-Err.ensures.reads

pub test-returns-then-depth-height-ge-MAX_DEPTH-clause-reads : goal.test-returns-then-depth-height-ge-MAX_DEPTH-clause-reads
test-returns-then-depth-height-ge-MAX_DEPTH-clause-reads t c =
    let same : c.height.result ≡ height c.args.left = cc c.height.ensures.height in
    test_deep c.args.depth c.args.left (length c.args.tokens.now) c.args.tokens.now c.args.behind.now
    (omega (arith, same, c.if-depth-height-ge-MAX_DEPTH.true)) c.requires.takes refl

pub test-returns-in-Some-clause-reads : goal.test-returns-in-Some-clause-reads
test-returns-in-Some-clause-reads t c =
    let same : c.height.result ≡ height c.args.left = cc c.height.ensures.height in
    test_not c.args.depth c.args.left c.args.tokens.now c.args.behind.now c.in-Some.rest.now (seen c.tested.result)
    (omega (arith, same, c.if-depth-height-ge-MAX_DEPTH.false)) c.requires.takes c.in-Some.ensures c.tested.ensures.reads

pub tested-returns-in-Some-accept_word-2-clause-reads : goal.tested-returns-in-Some-accept_word-2-clause-reads
tested-returns-in-Some-accept_word-2-clause-reads t c =
    tested_distinct c.args.null c.args.distinct c.args.depth c.args.left c.args.tokens.now c.in-Some-accept_word.behind.now c.in-Some-accept_word-2.rest.now (seen c.distinct_from.result)
    c.in-Some-accept_word.ensures c.in-Some-accept_word-2.ensures c.distinct_from.ensures.reads

pub tests_behind-loop-behind-preserved : goal.tests_behind-loop-behind-preserved
tests_behind-loop-behind-preserved t c = record {
  leads = leads_on c.loop-behind.invariant.leads
      (tests_turn c.args.depth c.loop-behind.left c.in-Ok.part.value c.loop-behind.rest.now c.in-Some.behind.now c.in-Ok.part.rest.now
      c.in-Some.ensures c.in-Ok.ensures.reads);
  fits = c.in-Ok.ensures.low;
}

pub tests_behind-returns-in-Err-clause-reads : goal.tests_behind-returns-in-Err-clause-reads
tests_behind-returns-in-Err-clause-reads t c =
    c.loop-behind.invariant.leads.to (failed c.in-Err.fault)
    (tests_turn_failed c.args.depth c.loop-behind.left c.loop-behind.rest.now c.in-Some.behind.now c.in-Err.fault c.in-Some.ensures c.in-Err.ensures.reads)

pub tests_behind-returns-clause-reads : goal.tests_behind-returns-clause-reads
tests_behind-returns-clause-reads t c =
    c.loop-behind.invariant.leads.to (read c.loop-behind.left c.loop-behind.rest.now)
    (tests_end c.args.depth c.loop-behind.left c.loop-behind.rest.now c.in_default.ensures)
