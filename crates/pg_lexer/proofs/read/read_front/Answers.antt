use Rattle.std.proofs.Common.{Some, None, length, refl, true-eqb}
use Rattle.std.proofs.lemmas.List.{take_rest, nil_from_length}
use Rattle.pg_lexer.proofs.Lines.{few_tokens_from, read_begins, read_more, read_ends, read_bad, read_less}
use Rattle.pg_lexer.proofs.read.read_front.Goals as goal

pub loop-rest-init : goal.loop-rest-init
loop-rest-init c =
    rw c.in_ok-tokens.ensures
    (read_begins c.args.line.now c.args.from _ c.trimmed-rest.result.now c.requires.after_start c.requires.before_end refl
    (rw take_rest at c.trimmed-rest.ensures))

pub loop-rest-smaller : goal.loop-rest-smaller
loop-rest-smaller c =
    let found = rw c.in-Token.is at c.in_ok-token.ensures in
    read_less _ c.loop-rest.rest.now c.in-Token.length c.trimmed-rest-in-Token.result.now c.in-Token.token found.0 found.1
    (rw take_rest at c.trimmed-rest-in-Token.ensures)

pub loop-rest-preserved : goal.loop-rest-preserved
loop-rest-preserved c =
    let found = rw c.in-Token.is at c.in_ok-token.ensures in
    rw c.in_ok-push-in-Token.ensures.ok
    (read_more c.args.line.now c.args.from _ c.loop-rest.tokens c.loop-rest.rest.now c.trimmed-rest-in-Token.result.now c.in-Token.token c.in-Token.length
    c.loop-rest.invariant found.0 found.1 (rw take_rest at c.trimmed-rest-in-Token.ensures))

pub returns-in-Bad-clause-read : goal.returns-in-Bad-clause-read
returns-in-Bad-clause-read c =
    read_bad c.args.line.now c.args.from _ c.loop-rest.tokens c.loop-rest.rest.now c.in-Bad.bad c.loop-rest.invariant
    (rw c.in-Bad.is at c.in_ok-token.ensures)

pub returns-in-Bad-clause-few : goal.returns-in-Bad-clause-few
returns-in-Bad-clause-few c =
    few_tokens_from c.args.from c.args.line.now c.loop-rest.tokens (Some c.in-Bad.bad) (returns-in-Bad-clause-read c)

pub returns-clause-read : goal.returns-clause-read
returns-clause-read c =
    read_ends c.args.line.now c.args.from _ c.loop-rest.tokens c.loop-rest.rest.now c.loop-rest.invariant
    (nil_from_length c.loop-rest.rest.now (true-eqb (length c.loop-rest.rest.now) 0 c.loop-rest-test.ensures))

pub returns-clause-few : goal.returns-clause-few
returns-clause-few c = few_tokens_from c.args.from c.args.line.now c.loop-rest.tokens None (returns-clause-read c)
