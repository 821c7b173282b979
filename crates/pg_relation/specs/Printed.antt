-- The printed text of a journal.
use Rattle.std.specs.Prelude.{ℕ, List, [], map}
use Rattle.pg_values.specs.declared.value.Value.{Value}
use Rattle.pg_heap.specs.Current.{live_rows}
use Rattle.pg_model.specs.declared.journal.Entry.{Entry}
use Rattle.pg_model.specs.declared.script.Script.{Script}
use Rattle.pg_model.specs.Printed.{run_text}
use Rattle.pg_world.specs.Worlds.{World}
use Rattle.pg_relation.specs.Journals.{world_after}

-- the committed rows of each table, in order of row number
abbrev pub tables_of : World → List (List (List Value))
tables_of world = map (λ table. live_rows world.transactions [] table.rows) world.tables

-- the printed text: replies and failures in the order of the journal, then the tables it leaves
abbrev pub printed_text : Script → List Entry → List ℕ
printed_text script journal = run_text script journal (tables_of (world_after script journal))
