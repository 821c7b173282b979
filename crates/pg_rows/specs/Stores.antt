-- What a row store shows: its versions by number, and the rows that they make.
use Rattle.std.specs.Prelude.{ℕ, zero, suc, ◌≡◌, ◌≢◌, ◌+◌, ◌<◌, ◌≤◌, ◌++◌, ◌&&◌, Bool, true, false, not, if◌then◌else◌, nat_eq, List, [], ◌∷◌, filter, length, map, Option, None, Some, is_some, option_map}
use Rattle.std.specs.Option.{option_map_or}
use Rattle.pg_values.specs.declared.value.Value.{Value}
use Rattle.pg_xacts.specs.declared.me.Me.{Me}
use Rattle.pg_xacts.specs.Transactions.{Transactions, is_running_beside}
use Rattle.pg_heap.specs.declared.version.Version.{Version}
use Rattle.pg_heap.specs.declared.slot.State.{State}
use Rattle.pg_heap.specs.declared.slot.State.TheVariants.{Placed, Settled, Dead}
use Rattle.pg_heap.specs.declared.row.Row.{Row}
use Rattle.pg_heap.specs.Rows.{is_written_by, values_of}
use Rattle.pg_heap.specs.Current.{is_live}
use Rattle.pg_heap.specs.Seen.{is_seen}
use Rattle.pg_lists.specs.Numbered.{with_changed_nth_item, nth_item}

-- a version with its row and its state: placed as a draft, settled in its row, or dead
pub record Stored : Type 0 where
  pub row : ℕ
  pub version : Version
  pub state : State

-- how many row numbers were drawn, and the versions by number, from 1
pub record StoreView : Type 0 where
  pub drawn : ℕ
  pub versions : List Stored

-- nothing was drawn
abbrev pub empty_store : StoreView
empty_store = record { drawn = 0; versions = [] }

-- the version of that number with its row and its state, if the number was drawn
abbrev pub stored_of : List Stored → ℕ → Option Stored
stored_of versions number = nth_item versions number

-- the version of that number
abbrev pub version_of : List Stored → ℕ → Option Version
version_of versions number = option_map (λ stored. stored.version) (stored_of versions number)

-- the state of the version of that number
abbrev pub state_of : List Stored → ℕ → Option State
state_of versions number = option_map (λ stored. stored.state) (stored_of versions number)

-- whether a version is settled
abbrev pub is_settled : State → Bool
is_settled Settled = true
is_settled Placed = false
is_settled Dead = false

-- whether a version is placed, and not yet one of its row
abbrev pub is_placed : State → Bool
is_placed Placed = true
is_placed Settled = false
is_placed Dead = false

-- whether a version is one of a row
abbrev pub is_version_of : ℕ → Stored → Bool
is_version_of row stored = is_settled stored.state && nat_eq stored.row row

-- the versions of a row, oldest first
abbrev pub versions_of : ℕ → List Stored → List Version
versions_of row versions = map (λ stored. stored.version) (filter (is_version_of row) versions)

-- the row of that number, with its versions
abbrev pub row_in : List Stored → ℕ → Row
row_in versions number = record { number = number; versions = versions_of number versions }

-- the rows with the numbers from `first` on, so many
abbrev pub rows_from : ℕ → ℕ → List Stored → List Row
rows_from first zero versions = []
rows_from first (suc count) versions = row_in versions first ∷ rows_from (first + 1) count versions

-- the rows that a store keeps: one for each number drawn
abbrev pub rows_of : StoreView → List Row
rows_of store = rows_from 1 store.drawn store.versions

-- whether the version of that number passes a test
abbrev pub passes : (Stored → Bool) → List Stored → ℕ → Bool
passes test versions number = option_map_or test (stored_of versions number) false

-- the last number, up to a given one, that passes a test
abbrev pub last_number : (ℕ → Bool) → ℕ → Option ℕ
last_number test zero = None
last_number test (suc before) = if test (suc before) then Some (suc before) else last_number test before

-- the number of the newest version of a row
abbrev pub newest_number : List Stored → ℕ → Option ℕ
newest_number versions row = last_number (passes (is_version_of row) versions) (length versions)

-- the number of the last version of a row that passes a test
abbrev pub last_accepted : (Version → Bool) → List Stored → ℕ → Option ℕ
last_accepted accepts versions row =
    last_number (passes (λ stored. is_version_of row stored && accepts stored.version) versions) (length versions)

-- a number, where the version of that number has values
abbrev pub with_values : List Stored → Option ℕ → Option ℕ
with_values versions None = None
with_values versions (Some number) =
    if is_some (values_of (version_of versions number)) then Some number else None

-- whether no other running transaction wrote a version
abbrev pub is_current_for : Transactions → ℕ → Version → Bool
is_current_for transactions xact version = not (is_running_beside transactions xact version.writer)

-- the number of a row's current version for a transaction, unless the row is gone
abbrev pub current_number : Transactions → ℕ → List Stored → ℕ → Option ℕ
current_number transactions xact versions row =
    with_values versions (last_accepted (is_current_for transactions xact) versions row)

-- the number of the version of a row that a statement sees, unless it sees none, or one that is gone
abbrev pub seen_number : Transactions → ℕ → Me → List Stored → ℕ → Option ℕ
seen_number transactions commits me versions row =
    with_values versions (last_accepted (is_seen transactions commits me) versions row)

-- the number of the last version of a row whose writer has committed, unless there is none, or one
-- that is gone
abbrev pub live_number : Transactions → List Stored → ℕ → Option ℕ
live_number transactions versions row =
    with_values versions (last_accepted (is_live transactions []) versions row)

-- the version of that number has values
abbrev pub HasValues : List Stored → ℕ → Type 0
HasValues versions number = is_some (values_of (version_of versions number)) ≡ true

-- a version that is placed for a row
abbrev pub draft_of : Me → ℕ → Option (List Value) → Stored
draft_of me row values =
    record {
      row = row;
      version = record { values = values; writer = me.xact; command = me.command };
      state = Placed;
    }

-- the next row number is drawn, with a draft of the row
abbrev pub row_placed : StoreView → Me → List Value → StoreView
row_placed store me values =
    record { drawn = store.drawn + 1; versions = store.versions ++ draft_of me (store.drawn + 1) (Some values) ∷ [] }

-- a version is placed for a row that was drawn
abbrev pub version_drafted : StoreView → Me → ℕ → Option (List Value) → StoreView
version_drafted store me row values =
    record store { versions = store.versions ++ draft_of me row values ∷ [] }

-- the version of that number is in another state
abbrev pub with_version_state : StoreView → ℕ → State → StoreView
with_version_state store number state =
    record store { versions = with_changed_nth_item (λ stored. record stored { state = state }) store.versions number }

-- the state of a version once its writer was rolled back, where that is its writer
abbrev pub undone_state : Bool → State → State
undone_state true state = Dead
undone_state false state = state

-- a version once a transaction was rolled back: what that wrote is dead
abbrev pub undone_version : ℕ → Stored → Stored
undone_version xact stored =
    record stored { state = undone_state (is_written_by xact stored.version) stored.state }

-- all versions of a transaction are dead
abbrev pub store_without : StoreView → ℕ → StoreView
store_without store xact =
    record store { versions = map (undone_version xact) store.versions }

-- the state of a version once its writer has committed, where that is its writer: a draft is dead
abbrev pub ended_state : Bool → State → State
ended_state true Placed = Dead
ended_state true Settled = Settled
ended_state true Dead = Dead
ended_state false state = state

-- a version once a transaction has committed: the drafts of that are dead
abbrev pub ended_version : ℕ → Stored → Stored
ended_version xact stored =
    record stored { state = ended_state (is_written_by xact stored.version) stored.state }

-- the version of that number is given up, where it is a draft
abbrev pub with_given_up : StoreView → ℕ → StoreView
with_given_up store number =
    record store {
      versions = with_changed_nth_item
          (λ stored. record stored { state = ended_state true stored.state }) store.versions number;
    }

-- whether a transaction wrote the version of that number
abbrev pub is_number_of : ℕ → List Stored → ℕ → Bool
is_number_of xact versions number =
    passes (λ stored. is_written_by xact stored.version) versions number

-- the last of the first versions, so many, that a transaction wrote
abbrev pub last_written_by : ℕ → List Stored → ℕ → Option ℕ
last_written_by xact versions count = last_number (is_number_of xact versions) count

-- all drafts of a transaction are dead
abbrev pub store_ended : StoreView → ℕ → StoreView
store_ended store xact = record store { versions = map (ended_version xact) store.versions }

-- in each row the versions of a transaction stand behind all others
abbrev pub StandBehind : ℕ → List Stored → Type 0
StandBehind xact versions =
    (own other : ℕ) (one more : Stored) →
    stored_of versions own ≡ Some one → stored_of versions other ≡ Some more →
    is_version_of one.row one ≡ true → is_version_of one.row more ≡ true →
    is_written_by xact one.version ≡ true → is_written_by xact more.version ≡ false →
    other < own

-- no draft of that row waits
abbrev pub HasNoDraft : List Stored → ℕ → Type 0
HasNoDraft versions row =
    (number : ℕ) (stored : Stored) → stored_of versions number ≡ Some stored → stored.row ≡ row →
    stored.state ≢ Placed

-- each version is for a row that was drawn
abbrev pub AreWithin : StoreView → Type 0
AreWithin store =
    (number : ℕ) (stored : Stored) → stored_of store.versions number ≡ Some stored →
    (0 < stored.row) × (stored.row ≤ store.drawn)

-- no version of the row has a number behind a given one
abbrev pub StandsLast : List Stored → ℕ → ℕ → Type 0
StandsLast versions number row =
    (other : ℕ) (more : Stored) → number < other → stored_of versions other ≡ Some more →
    is_version_of row more ≡ false
