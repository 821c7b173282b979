use Rattle.std.proofs.Common.{ap, subst, sym, ◌∙◌}
use Rattle.pg_world.specs.Candidates.{select_candidates}
use Rattle.pg_select.proofs.Planned.{goes_on}
use Rattle.pg_select.specs.Steps.{IsSelecting}
use Rattle.pg_select.proofs.select.Select.step.Goals as goal

pub returns-in-Ok-candidates_or_error-clause-quiet : goal.returns-in-Ok-candidates_or_error-clause-quiet
returns-in-Ok-candidates_or_error-clause-quiet c =
    λ _.
    rw (← c.self.view_is)
    (goes_on c.args.select.now c.args.tables.now c.args.xacts.now (record { running = c.self.inside.running; reading = c.self.inside.reading })
    c.in-Some.reading c.in-Ok-candidates_or_error.candidates c.in-Some.is
    (subst (λ machine. IsSelecting c.args.select.now c.args.tables.now c.args.xacts.now machine) (sym c.self.view_is) c.requires)
    (sym c.if-not-is_done.false ∙ c.is_done.ensures)
    (c.in-Ok-candidates_or_error.ensures.ok ∙ c.select_candidates.ensures c.in-Ok-candidates_or_error.ensures.memory
    ∙ ap (select_candidates c.args.select.now) c.seen.ensures))
