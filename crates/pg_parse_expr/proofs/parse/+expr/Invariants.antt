-- A call's weight: how many nodes may still stand above, and then the level.
use Rattle.std.proofs.Common.{◌+◌, ◌≤◌, suc, length}
use Rattle.pg_grammar.specs.Languages.{more}
use Rattle.pg_grammar.proofs.Leading.{Leads}
use Rattle.pg_parse_expr.specs.Behind.{behind_factor, behind_predicate}
use Rattle.pg_parse_expr.specs.Grammar.{test, factor}
use Rattle.pg_parse_expr.specs.Levels.{behind_at, step_at}
use Rattle.pg_parse_expr.specs.Rest.{closed}
use Rattle.pg_parse_expr.specs.Tree.{height}
use Rattle.pg_parse_expr.proofs.Weights.{weight, rank, opening}
use Rattle.pg_parse_expr.proofs.parse.+expr.Given as goal

abbrev pub decreases-expr : goal.decreases-expr
decreases-expr l = weight l.depth (19 + opening l.tokens.now)

abbrev pub decreases-chain : goal.decreases-chain
decreases-chain l = weight l.depth (suc (rank l.level) + opening l.tokens.now)

abbrev pub decreases-operand : goal.decreases-operand
decreases-operand l = weight l.depth (rank l.level + opening l.tokens.now)

abbrev pub decreases-chain_behind : goal.decreases-chain_behind
decreases-chain_behind l = weight l.depth 1

abbrev pub decreases-operation : goal.decreases-operation
decreases-operation l = weight l.depth 0

abbrev pub decreases-comparison : goal.decreases-comparison
decreases-comparison l = weight l.depth (12 + opening l.tokens.now)

abbrev pub decreases-comparison_behind : goal.decreases-comparison_behind
decreases-comparison_behind l = weight l.depth 1

abbrev pub decreases-compared : goal.decreases-compared
decreases-compared l = weight l.depth 0

abbrev pub decreases-predicate : goal.decreases-predicate
decreases-predicate l = weight l.depth (13 + opening l.tokens.now)

abbrev pub decreases-tests_behind : goal.decreases-tests_behind
decreases-tests_behind l = weight l.depth 3

abbrev pub decreases-test : goal.decreases-test
decreases-test l = weight l.depth 2

abbrev pub decreases-tested : goal.decreases-tested
decreases-tested l = weight l.depth 1

abbrev pub decreases-distinct_from : goal.decreases-distinct_from
decreases-distinct_from l = weight l.depth 0

abbrev pub decreases-negation : goal.decreases-negation
decreases-negation l = weight l.depth (14 + opening l.tokens.now)

abbrev pub decreases-factor : goal.decreases-factor
decreases-factor l = weight l.depth (4 + opening l.tokens.now)

abbrev pub decreases-bracketed : goal.decreases-bracketed
decreases-bracketed l = weight l.depth 42

abbrev pub decreases-closed : goal.decreases-closed
decreases-closed l = weight l.depth 12

abbrev pub decreases-behind_factor : goal.decreases-behind_factor
decreases-behind_factor l = weight l.depth 11

abbrev pub decreases-behind_product : goal.decreases-behind_product
decreases-behind_product l = weight l.depth 10

abbrev pub decreases-behind_sum : goal.decreases-behind_sum
decreases-behind_sum l = weight l.depth 9

abbrev pub decreases-behind_concatenation : goal.decreases-behind_concatenation
decreases-behind_concatenation l = weight l.depth 8

abbrev pub decreases-behind_comparison : goal.decreases-behind_comparison
decreases-behind_comparison l = weight l.depth 7

abbrev pub decreases-behind_predicate : goal.decreases-behind_predicate
decreases-behind_predicate l = weight l.depth 6

abbrev pub decreases-behind_conjunction : goal.decreases-behind_conjunction
decreases-behind_conjunction l = weight l.depth 5

-- what the loops keep: what is left to read leads to the whole
abbrev pub invariant-chain_behind-loop-op : goal.invariant-chain_behind-loop-op
invariant-chain_behind-loop-op l = record {
  leads : Leads (more (step_at l.level l.depth) l.initial.left) l.initial.rest (more (step_at l.level l.depth) l.left) l.rest (behind_at l.level);
  fits : l.depth + height l.left ≤ 64;
}

abbrev pub decreases-chain_behind-loop-op : goal.decreases-chain_behind-loop-op
decreases-chain_behind-loop-op l = length l.rest

abbrev pub invariant-closed-loop-rest : goal.invariant-closed-loop-rest
invariant-closed-loop-rest l = record {
  leads : Leads (closed l.depth l.initial.left l.initial.whole.value) l.initial.whole.rest.now (closed l.depth l.left l.whole.value) l.whole.rest.now behind_factor;
  fits : l.depth + height l.whole.value ≤ 64;
}

abbrev pub decreases-closed-loop-rest : goal.decreases-closed-loop-rest
decreases-closed-loop-rest l = l.left

abbrev pub invariant-tests_behind-loop-behind : goal.invariant-tests_behind-loop-behind
invariant-tests_behind-loop-behind l = record {
  leads : Leads (more (test factor l.depth) l.initial.left) l.initial.rest (more (test factor l.depth) l.left) l.rest behind_predicate;
  fits : l.depth + height l.left ≤ 64;
}

abbrev pub decreases-tests_behind-loop-behind : goal.decreases-tests_behind-loop-behind
decreases-tests_behind-loop-behind l = length l.rest
