use Rattle.std.proofs.Common.{◌≡◌, Some, subst, sym}
use Rattle.pg_table.proofs.Kept.{table_settled_at}
use Rattle.pg_table.specs.States.{draft_number}
use Rattle.pg_table.specs.declared.placing.DraftKind.TheVariants.{Next}
use Rattle.pg_table.proofs.table.Table.write.Goals as goal

pub invariant_of-self : goal.invariant_of-self
invariant_of-self c =
    rw c.attach.ensures
    (table_settled_at Next (record { store = c.self.inside.rows; placings = c.self.inside.placings.items; locks = c.self.inside.locks }) c.args.row c.in-Some.version
    (subst (λ state. Some c.in-Some.version ≡ draft_number Next state c.args.row) (sym c.self.view_is) c.in-Some.ensures) c.self.invariant)
