use Rattle.std.proofs.Common.{ap, arith, subst, sym}
use Rattle.pg_rows.specs.Stores.{HasNoDraft}
use Rattle.pg_table.proofs.Drafted.{table_erased}
use Rattle.pg_table.proofs.table.Table.erase.Goals as goal

pub invariant_of-self-2 : goal.invariant_of-self-2
invariant_of-self-2 c =
    let drawn = ap (λ state. state.store.drawn) c.self.view_is in
    rw (c.attach.ensures, c.in_ok-version.ensures.drafted, c.in_ok-version.ensures.version)
    (table_erased (record { store = c.self.inside.rows; placings = c.self.inside.placings.items; locks = c.self.inside.locks }) c.args.me c.args.row c.self.invariant
    (c.requires.drawn.0, omega (arith, c.requires.drawn.1, drawn))
    (subst (λ state. HasNoDraft state.store.versions c.args.row) (sym c.self.view_is) c.requires.free))
