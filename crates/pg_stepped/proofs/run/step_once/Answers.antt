use Rattle.std.proofs.Common.{◌≡◌, ◌∙◌, None, Some, sym}
use Rattle.pg_stepped.proofs.run.step_once.Goals as goal

pub unreachable-requires-in-Waiting : goal.unreachable-requires-in-Waiting
unreachable-requires-in-Waiting c =
    let e : None ≡ Some c.in-Waiting.field-0 = sym c.requires.free ∙ (c.step.ensures.waiting c.in-Waiting.field-0).0 c.in-Waiting.is in
    cc e
