use Rattle.pgrc.proofs.TurnedAway.{refused_as_free}
use Rattle.pgrc.proofs.prepare.read_stepped.Goals as goal

pub returns-in-Free : goal.returns-in-Free
returns-in-Free c = refused_as_free _ c.in-Ok.script _ c.in-Ok.ensures c.in-Free.is c.refuse.ensures
