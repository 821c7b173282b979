-- What a set of tables becomes once a `&mut` to one of its tables has ended.
use Rattle.std.specs.Prelude.{ℕ, List, Option}
use Rattle.std.specs.Borrow.{Fml, MutBor, Lends, LendsIf}
use Rattle.pg_lists.specs.Numbered.{with_item}
use Rattle.pg_table.specs.States.{TableState}
use Rattle.pg_table.specs.contracts.table.Table as one
use Rattle.pg_table.specs.contracts.set.TableSet as all

-- the table of that number is the last that was written through `table`
abbrev pub LendsTable : MutBor (List TableState) → ℕ → MutBor TableState → Fml
LendsTable tables number table =
    Lends all.the_row one.the_row tables table (λ value. with_item tables.now number value)

-- the same where there is such a table, and else the set stays as it was
abbrev pub LendsTableIf : MutBor (List TableState) → ℕ → Option (MutBor TableState) → Fml
LendsTableIf tables number table =
    LendsIf all.the_row one.the_row tables table
    (λ value. with_item tables.now number value) tables.now
