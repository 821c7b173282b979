use Rattle.pg_table.proofs.Kept.{table_placed}
use Rattle.pg_table.proofs.table.Table.place.Goals as goal

pub invariant_of-self-in-Ok : goal.invariant_of-self-in-Ok
invariant_of-self-in-Ok c =
    rw (
      c.push_reserved.ensures.items,
      c.in_ok-reserve.ensures.items,
      c.in_ok-add_row.ensures.ok,
      c.in-Ok.ensures.placed,
      c.in-Ok.ensures.version,
    )
    (table_placed (record { store = c.self.inside.rows; placings = c.self.inside.placings.items; locks = c.self.inside.locks }) c.args.me c.args.values c.self.invariant)
