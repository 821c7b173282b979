use Rattle.std.proofs.Common.{subst, sym}
use Rattle.pg_table.specs.States.{OwnStandBehind, table_shown}
use Rattle.pg_table.proofs.Kept.{table_undone}
use Rattle.pg_table.proofs.Order.{stand_behind}
use Rattle.pg_table.proofs.table.Table.undo.Goals as goal

pub undo-requires : goal.undo-requires
undo-requires c =
    stand_behind c.args.xact (record { store = c.self.inside.rows; placings = c.self.inside.placings.items; locks = c.self.inside.locks }) c.self.invariant
    (subst (λ state. OwnStandBehind c.args.xact (table_shown state)) (sym c.self.view_is) c.requires)

pub invariant_of-self : goal.invariant_of-self
invariant_of-self c =
    rw (c.undo.ensures, c.end.ensures)
    (table_undone c.args.xact (record { store = c.self.inside.rows; placings = c.self.inside.placings.items; locks = c.self.inside.locks }) c.self.invariant)
