-- What was collected from the pieces of a table, as the rows that a statement sees.
use Rattle.std.specs.Prelude.{ℕ, ◌≡◌, nat_eq, false, List, filter, flat_map, Some}
use Rattle.pg_xacts.specs.declared.me.Me.{Me}
use Rattle.pg_xacts.specs.Transactions.{Transactions, is_among_commits}
use Rattle.pg_world.specs.declared.candidate.SeenRow.{SeenRow}
use Rattle.pg_world.specs.declared.placed.PlacedRow.{PlacedRow}
use Rattle.pg_world.specs.Tables.{placed_at}
use Rattle.pg_table.specs.States.{TableState, staged_at, table_shown}
use Rattle.pg_rows.specs.declared.scan.SeenVersion.{SeenVersion}
use Rattle.pg_rows.specs.Scans.{numbers_from}

-- the row with the version that is seen of it
abbrev pub seen_row_of : SeenVersion → SeenRow
seen_row_of seen = record { row = seen.row; version = seen.version }

-- those of one row
abbrev pub of_row : ℕ → List SeenRow → List SeenRow
of_row row seen = filter (λ one. nat_eq one.row row) seen

-- in order of row number, of which so many were drawn
abbrev pub in_row_order : ℕ → List SeenRow → List SeenRow
in_row_order drawn seen = flat_map (λ row. of_row row seen) (numbers_from 1 drawn)

-- a statement sees nothing that the transaction writes: it is not its own, and not among the
-- commits that its snapshot sees
pub record IsUnseen (transactions : Transactions) (commits : ℕ) (me : Me) (xact : ℕ) : Type 0 where
  pub other : nat_eq xact me.xact ≡ false
  pub late : is_among_commits transactions commits xact ≡ false

-- what waits under a row number, if anything does, is of a transaction that the statement does not
-- see
abbrev pub IsPlacedUnseen : Transactions → ℕ → Me → TableState → ℕ → Type 0
IsPlacedUnseen transactions commits me state row =
    (placed : PlacedRow) → placed_at (table_shown state).placed row ≡ Some placed →
    IsUnseen transactions commits me placed.me.xact

-- what is staged for a row, if anything is, is of a transaction that the statement does not see
abbrev pub IsStagedUnseen : Transactions → ℕ → Me → TableState → ℕ → Type 0
IsStagedUnseen transactions commits me state row =
    (staged : PlacedRow) → staged_at state row ≡ Some staged →
    IsUnseen transactions commits me staged.me.xact

-- the same transactions are among so many commits
abbrev pub KeepCommits : ℕ → Transactions → Transactions → Type 0
KeepCommits commits before after =
    (number : ℕ) → is_among_commits after commits number ≡ is_among_commits before commits number
