use Rattle.std.proofs.Common.{length, refl, arith, false-eqb}
use Rattle.pg_lexer.proofs.Quotes.{quoted_push, quoted_nothing, ended_body}
use Rattle.pg_lexer.proofs.quote.body.Goals as goal

pub loop-byte-init : goal.loop-byte-init
loop-byte-init c = rw c.new-value.ensures.items (quoted_nothing c.args.bytes.now)

pub loop-byte-preserved : goal.loop-byte-preserved
loop-byte-preserved c =
    rw (c.in_ok-push.ensures.items, c.split_at.ensures.back)
    (quoted_push c.loop-byte.value.items c.args.bytes.now c.loop-byte.rest.now c.in-Some.byte c.in-Some.written c.in-Some.ensures c.loop-byte.invariant)

pub returns : goal.returns
returns c =
    ended_body c.args.bytes.now c.loop-byte.value.items c.loop-byte.rest.now _ c.loop-byte.invariant c.in_default.ensures
    (omega (arith, false-eqb (length c.loop-byte.rest.now) 0 c.if-is_empty.ensures)) refl
