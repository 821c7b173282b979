-- Two entries with one line are one entry.
use lib.Signed.{mag}
use Rattle.std.specs.Prelude.{ℕ, ◌≡◌, ◌<◌, ◌≤◌, ◌^◌, true, List, [], ◌∷◌, length}
use Rattle.std.specs.List.{list_all, All}
use Rattle.pg_values.specs.declared.value.Value.{Value}
use Rattle.pg_values.specs.declared.value.Value.TheVariants as value
use Rattle.pg_names.specs.Names.{is_name}
use Rattle.pg_model.specs.declared.error.SqlError.{SqlError}
use Rattle.pg_model.specs.declared.error.SqlError.TheVariants as error
use Rattle.pg_model.specs.declared.journal.Entry.{Entry}
use Rattle.pg_model.specs.declared.journal.EntryAct.{EntryAct}
use Rattle.pg_model.specs.declared.journal.EntryAct.TheVariants as act
use Rattle.pg_model.specs.declared.journal.Tag.{Tag}
use Rattle.pg_model.specs.declared.journal.Tag.TheVariants as tag
use Rattle.pg_model.specs.declared.script.Script.{Script}
use Rattle.pg_model.specs.Printed.{entry_line}
use Rattle.pg_model.specs.Scripts.{IsScript}

-- a number of 64 bits
abbrev pub IsNumber : ℕ → Type 0
IsNumber number = number < 2 ^ 64

-- a value as replies hold it: an integer is kept as a bigint, which has 64 bits
abbrev pub IsWidened : Value → Type 0
IsWidened value.Null = Unit {0}
IsWidened (value.Bool truth) = Unit {0}
IsWidened (value.Int number) = ⊥
IsWidened (value.Big number) = mag number ≤ 2 ^ 63
IsWidened (value.Text bytes) = Unit {0}

-- rows that hold no 32-bit integer
abbrev pub AreWidened : List (List Value) → Type 0
AreWidened rows = All (λ row. All IsWidened row) rows

-- a tag counts rows in 64 bits
abbrev pub IsTag : Tag → Type 0
IsTag (tag.Insert rows) = IsNumber rows
IsTag (tag.Update rows) = IsNumber rows
IsTag (tag.Delete rows) = IsNumber rows
IsTag (tag.Select rows) = IsNumber rows
IsTag other = Unit {0}

-- the names that an error names
abbrev pub names_in : SqlError → List (List ℕ)
names_in (error.NoRelation name) = name ∷ []
names_in (error.SameAlias name) = name ∷ []
names_in (error.NoColumn name) = name ∷ []
names_in (error.ColumnTwice name) = name ∷ []
names_in (error.SetTwice name) = name ∷ []
names_in (error.Ambiguous name) = name ∷ []
names_in (error.RelationExists name) = name ∷ []
names_in (error.Deadlock names) = names
names_in other = []

-- what an act names exists: its session and its table are among so many, its numbers have 64 bits, its rows are as
-- replies hold them, and what its error names are names
abbrev pub IsActOf : ℕ → ℕ → EntryAct → Type 0
IsActOf sessions tables (act.Snapped commits) = IsNumber commits
IsActOf sessions tables (act.Found number) = IsNumber number
IsActOf sessions tables (act.Locked table row strength) = (table < tables) × IsNumber row
IsActOf sessions tables (act.Placed table row) = (table < tables) × IsNumber row
IsActOf sessions tables (act.Inserted table row) = (table < tables) × IsNumber row
IsActOf sessions tables (act.Updated table row) = (table < tables) × IsNumber row
IsActOf sessions tables (act.Deleted table row) = (table < tables) × IsNumber row
IsActOf sessions tables (act.Waits session) = session < sessions
IsActOf sessions tables (act.Replied reply) = IsTag reply.tag × AreWidened reply.rows
IsActOf sessions tables (act.Failed error) = list_all is_name (names_in error) ≡ true
IsActOf sessions tables other = Unit {0}

-- an entry of a session of the script
pub record IsEntryOf (script : Script) (entry : Entry) : Type 0 where
  pub session : entry.session < length script.sessions
  pub act : IsActOf (length script.sessions) (length script.catalogue) entry.act

-- over each script, entries with one line are one entry
abbrev pub OneEntryForEachLine : Type 0
OneEntryForEachLine =
    (script : Script) → IsScript script.sessions script.catalogue script.setup script.lines →
    (a b : Entry) → IsEntryOf script a → IsEntryOf script b → entry_line script a ≡ entry_line script b → a ≡ b
