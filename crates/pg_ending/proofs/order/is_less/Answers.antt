-- The test is that of the order: what differs first decides, and equal lists are not less.
use Rattle.std.proofs.Common.{◌∙◌, drop, sym, ap, arith}
use Rattle.std.proofs.lemmas.List.{drop_all}
use Rattle.std.proofs.lemmas.Bool.{false≢true}
use Rattle.pg_ending.specs.Weight.{is_less}
use Rattle.pg_ending.proofs.Less.{less_length, is_less_there, is_less_answer}
use Rattle.pg_ending.proofs.order.is_less.Goals as goal

pub returns-then-first-second : goal.returns-then-first-second
returns-then-first-second c = (λ t. absurd (false≢true t), λ h. absurd (c.if-first-second.true (less_length _ _ h)))

pub returns-then-first-i : goal.returns-then-first-i
returns-then-first-i c =
    is_less_answer _ _ _
    (sym (c.loop-i.invariant.rest ∙ is_less_there c.args.first.now c.args.second.now c.loop-i.i (omega arith) c.loop-i.invariant.same (grind arith)))

pub returns : goal.returns
returns c =
    let a = drop_all c.loop-i.i c.args.first.now (omega arith) in
    is_less_answer _ c.args.first.now c.args.second.now (sym (c.loop-i.invariant.rest ∙ ap (λ xs. is_less xs (drop c.loop-i.i c.args.second.now)) a))
