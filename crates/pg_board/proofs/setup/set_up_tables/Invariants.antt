-- What is left of setup leads to its outcome.
use Rattle.std.proofs.Common.{◌≡◌, drop}
use Rattle.pg_relation.specs.Setup.{setup_outcome, tables_set_up}
use Rattle.pg_board.specs.Loaded.{AreLoaded}
use Rattle.pg_board.specs.Shown.{tables_shown}
use Rattle.pg_board.proofs.setup.set_up_tables.Given as goal

abbrev pub invariant-loop-setup : goal.invariant-loop-setup
invariant-loop-setup l =
    (tables_set_up (drop l.setup-index l.setup-items) (tables_shown l.tables) ≡ setup_outcome l.script) × AreLoaded l.tables
