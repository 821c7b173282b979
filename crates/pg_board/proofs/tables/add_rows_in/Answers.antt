use Rattle.std.proofs.Common.{sym}
use Rattle.pg_relation.specs.Setup.{rows_added}
use Rattle.pg_relation.proofs.Lists.{each_set}
use Rattle.pg_board.specs.Loaded.{IsLoaded}
use Rattle.pg_board.proofs.Shown.{shown_changed, shown_kept}
use Rattle.pg_board.proofs.tables.add_rows_in.Goals as goal

pub returns-in_ok-add_rows-clause-shown : goal.returns-in_ok-add_rows-clause-shown
returns-in_ok-add_rows-clause-shown c =
    shown_changed (rows_added c.args.candidates.now) c.args.tables.now c.args.table c.in-Some.table.now c.add_rows.new.table
    (sym c.in-Some.ensures.value) c.in_ok-add_rows.ensures.shown

pub returns-in_default-clause-shown : goal.returns-in_default-clause-shown
returns-in_default-clause-shown c =
    shown_kept (rows_added c.args.candidates.now) c.args.tables.now c.args.table (sym c.in_default.ensures.value)

pub returns-in_ok-add_rows-clause-loaded : goal.returns-in_ok-add_rows-clause-loaded
returns-in_ok-add_rows-clause-loaded c =
    each_set (λ number state. IsLoaded state) c.args.tables.now c.args.table c.add_rows.new.table c.requires
    (c.in_ok-add_rows.ensures.loaded (c.requires c.args.table c.in-Some.table.now (sym c.in-Some.ensures.value)))
