use Rattle.std.proofs.Common.{◌||◌, is_some, ap, ap₂, subst, sym, ◌∙◌}
use Rattle.pg_table.specs.States.{IsTable}
use Rattle.pg_table.proofs.Staged.{free_of_drafts}
use Rattle.pg_table.proofs.table.Table.has_draft.Goals as goal

pub returns-else-placed-clause-free : goal.returns-else-placed-clause-free
returns-else-placed-clause-free c none =
    free_of_drafts c.args.self.now c.args.row (subst (λ state. IsTable state) c.self.view_is c.self.invariant)
    (ap₂ (λ placed staged. placed || staged)
    (ap (λ o. is_some o) (sym c.waiting.ensures) ∙ (sym c.is_some-placed.ensures ∙ c.if-placed.false))
    (ap (λ o. is_some o) (sym c.waiting-2.ensures) ∙ (sym c.is_some-staged.ensures ∙ none)))
