use Rattle.pg_table.proofs.Read.{live_none, live_some}
use Rattle.pg_table.proofs.table.Table.committed_row.Goals as goal

pub returns-in-None : goal.returns-in-None
returns-in-None c =
    rw (← c.self.view_is) (live_none c.args.xacts.now c.self.inside.rows.versions c.args.row c.in-None.ensures.number)

pub returns-in_ok-try_copy-in-Some : goal.returns-in_ok-try_copy-in-Some
returns-in_ok-try_copy-in-Some c =
    rw (← c.self.view_is)
    (live_some c.args.xacts.now c.self.inside.rows.versions c.args.row c.in-Some.number c.values.result.now
    c.in_ok-try_copy-in-Some.field-0 c.in-Some.ensures.number c.values.ensures c.in_ok-try_copy-in-Some.ensures)
