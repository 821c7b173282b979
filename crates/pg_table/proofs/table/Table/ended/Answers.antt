use Rattle.pg_table.proofs.Kept.{table_ended}
use Rattle.pg_table.proofs.table.Table.ended.Goals as goal

pub invariant_of-self : goal.invariant_of-self
invariant_of-self c =
    rw (c.ended.ensures, c.end.ensures)
    (table_ended c.args.xact (record { store = c.self.inside.rows; placings = c.self.inside.placings.items; locks = c.self.inside.locks }) c.self.invariant)
