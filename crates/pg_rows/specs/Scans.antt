-- What a statement sees of a store, by version number: a row shows one version, or none.
use Rattle.std.specs.Prelude.{ℕ, zero, suc, ◌+◌, ◌-◌, Bool, false, if◌then◌else◌, nat_eq, List, [], ◌∷◌, filter_map, length, Option, None, Some, option_and_then}
use Rattle.std.specs.List.{cons_option}
use Rattle.pg_xacts.specs.declared.me.Me.{Me}
use Rattle.pg_xacts.specs.Transactions.{Transactions}
use Rattle.pg_heap.specs.Pieces.{piece_from}
use Rattle.pg_rows.specs.declared.scan.SeenVersion.{SeenVersion}
use Rattle.pg_rows.specs.Stores.{Stored, seen_number, stored_of}

-- whether the number, if there is one, is that
abbrev pub is_number : Option ℕ → ℕ → Bool
is_number None number = false
is_number (Some found) number = nat_eq found number

-- a version with its number and its row, where it is the one that the statement sees of the row
abbrev pub seen_stored : Transactions → ℕ → Me → List Stored → ℕ → Stored → Option SeenVersion
seen_stored transactions commits me versions number stored =
    if is_number (seen_number transactions commits me versions stored.row) number then
    Some (record { row = stored.row; number = number; version = stored.version })
    else None

-- the version of that number, where it is the one that the statement sees of its row
abbrev pub seen_at : Transactions → ℕ → Me → List Stored → ℕ → Option SeenVersion
seen_at transactions commits me versions number =
    option_and_then (seen_stored transactions commits me versions number)
    (stored_of versions number)

-- what was found, as a list
abbrev pub found_items : {X : Type 0} → Option X → List X
found_items found = cons_option found []

-- the numbers from `first` on, so many
abbrev pub numbers_from : ℕ → ℕ → List ℕ
numbers_from first zero = []
numbers_from first (suc count) = first ∷ numbers_from (first + 1) count

-- what the statement sees among the version numbers from `first` on, so many
abbrev pub seen_among : Transactions → ℕ → Me → List Stored → ℕ → ℕ → List SeenVersion
seen_among transactions commits me versions first count =
    filter_map (seen_at transactions commits me versions) (numbers_from first count)

-- what the statement sees in the piece of version numbers from a number on
abbrev pub seen_in_piece : Transactions → ℕ → Me → List Stored → ℕ → List SeenVersion
seen_in_piece transactions commits me versions from =
    let piece = piece_from (length versions) from in
    seen_among transactions commits me versions piece.first piece.count

-- what the statement sees among the version numbers below one
abbrev pub seen_below : Transactions → ℕ → Me → List Stored → ℕ → List SeenVersion
seen_below transactions commits me versions number =
    seen_among transactions commits me versions 1 (number - 1)

-- the number behind a piece, or behind all versions where nothing is left
abbrev pub number_behind : List Stored → Option ℕ → ℕ
number_behind versions (Some next) = next
number_behind versions None = length versions + 1
