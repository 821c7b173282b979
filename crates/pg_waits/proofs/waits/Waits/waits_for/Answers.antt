use Rattle.pg_waits.proofs.waits.Waits.waits_for.Goals as goal

pub returns-clause-acyclic : goal.returns-clause-acyclic
returns-clause-acyclic c = rw (← c.self.view_is) c.self.invariant.acyclic
