use Rattle.std.proofs.Common.{ap, subst, sym, ◌∙◌}
use Rattle.pg_world.specs.Candidates.{change_candidates}
use Rattle.pg_update.proofs.Planned.{goes_on}
use Rattle.pg_update.specs.Steps.{IsChanging}
use Rattle.pg_update.proofs.change.Change.read_on.Goals as goal

pub returns-in-Ok-candidates_or_error-clause-quiet : goal.returns-in-Ok-candidates_or_error-clause-quiet
returns-in-Ok-candidates_or_error-clause-quiet c =
    λ _.
    rw (← c.self.view_is)
    (goes_on c.args.change.now c.args.tables.now c.args.xacts.now
    (record { running = c.self.inside.running; reading = c.self.inside.reading; staged = c.self.inside.staged })
    c.in-Some.reading c.in-Some.is
    (subst (λ machine. IsChanging c.args.change.now c.args.tables.now c.args.xacts.now machine) (sym c.self.view_is) c.requires.changing)
    c.in-Ok-candidates_or_error.candidates
    (sym c.if-not-is_done.false ∙ c.is_done.ensures)
    (c.in-Ok-candidates_or_error.ensures.ok ∙ c.change_candidates.ensures c.in-Ok-candidates_or_error.ensures.memory
    ∙ ap (change_candidates c.args.change.now) c.seen.ensures))
