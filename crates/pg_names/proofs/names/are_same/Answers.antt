use Rattle.std.proofs.Common.{arith, length, sym, ◌∙◌, ap, ◌<◌, refl}
use Rattle.pg_names.proofs.Same.{same_at, same_more}
use Rattle.pg_names.proofs.names.are_same.Goals as goal

pub returns-then-not-is_same_bytes : goal.returns-then-not-is_same_bytes
returns-then-not-is_same_bytes c =
    let within : c.loop-at.at < length c.args.b.now = omega (arith, c.loop-at-test.true, c.loop-at.invariant.0) in (
      λ yes. absurd (cc),
      λ same. c.if-not-is_same_bytes.ensures.1
          (ap (λ bytes. bytes.items) c.index-a-at.is
          ∙ same_at (λ bytes. bytes.items) c.args.a.now c.args.b.now c.loop-at.at _ _ same c.loop-at-test.true within
          ∙ ap (λ bytes. bytes.items) (sym c.index-b-at.is)),
    )

pub loop-at-preserved : goal.loop-at-preserved
loop-at-preserved c =
    let within : c.loop-at.at < length c.args.b.now = omega (arith, c.loop-at-test.true, c.loop-at.invariant.0) in (
      c.loop-at.invariant.0,
      same_more (λ bytes. bytes.items) c.args.a.now c.args.b.now c.loop-at.at c.index-a-at.result c.index-b-at.result
          c.loop-at-test.true within c.loop-at.invariant.1
          (ap (λ bytes. bytes.items) (sym c.index-a-at.is) ∙ c.if-not-is_same_bytes.ensures.0 (refl)
          ∙ ap (λ bytes. bytes.items) c.index-b-at.is),
    )
