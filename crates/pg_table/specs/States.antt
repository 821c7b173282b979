-- What a table keeps: its versions by number, the last draft of each row, and the locks on each row;
-- and the part of the world that this is.
use Rattle.std.specs.Prelude.{ℕ, ◌≡◌, ◌+◌, ◌++◌, ◌<◌, if◌then◌else◌, nat_eq, List, [], ◌∷◌, length, slice_get, Option, None, Some, option_and_then, option_map}
use Rattle.std.specs.List.{cons_option}
use Rattle.pg_values.specs.declared.value.Value.{Value}
use Rattle.pg_xacts.specs.declared.me.Me.{Me}
use Rattle.pg_lists.specs.Numbered.{nth_item, with_changed_nth_item}
use Rattle.pg_locks.specs.Locks.{locks_ended, locks_held, locks_of_row_added}
use Rattle.pg_multi.specs.declared.row_lock.RowLock.{RowLock}
use Rattle.pg_multi.specs.declared.strength.Strength.{Strength}
use Rattle.pg_heap.specs.declared.row.Row.{Row}
use Rattle.pg_heap.specs.declared.slot.State.TheVariants.{Dead, Placed, Settled}
use Rattle.pg_heap.specs.declared.version.Version.{Version}
use Rattle.pg_heap.specs.Rows.{row_of}
use Rattle.pg_rows.specs.Stores.{AreWithin, Stored, StoreView, empty_store, is_placed, row_placed as store_placed, rows_of, store_ended, store_without, stored_of, version_drafted, with_version_state}
use Rattle.pg_world.specs.declared.placed.PlacedRow.{PlacedRow}
use Rattle.pg_world.specs.declared.table.TableView.{TableView}
use Rattle.pg_world.specs.Tables.{placed_at}
use Rattle.pg_table.specs.declared.placing.DraftKind.{DraftKind}
use Rattle.pg_table.specs.declared.placing.DraftKind.TheVariants.{First, Next}
use Rattle.pg_table.specs.declared.placing.Placing.{Placing}

-- the versions by number, for each row number the last draft with values that was made for it, and
-- the locks on each row
pub record TableState : Type 0 where
  pub store : StoreView
  pub placings : List Placing
  pub locks : List (List RowLock)

-- a table of which no row number was drawn
abbrev pub empty_state : TableState
empty_state = record { store = empty_store; placings = []; locks = [] }

-- what is read of a draft, where it is of that kind
abbrev pub of_kind : {X : Type 0} → DraftKind → DraftKind → Option X → Option X
of_kind First First read = read
of_kind Next Next read = read
of_kind First Next read = None
of_kind Next First read = None

-- what waits under a row number, where that version is a draft with values
abbrev pub waiting_row : ℕ → Placing → Stored → Option PlacedRow
waiting_row row placing stored =
    if is_placed stored.state then
    option_map
    (λ values.
    record {
      row = row;
      me = record {
        session = placing.session;
        xact = stored.version.writer;
        command = stored.version.command;
      };
      values = values;
    })
    stored.version.values
    else None

-- the draft that waits under a row number, if one does
abbrev pub draft_under : List Stored → ℕ → Placing → Option PlacedRow
draft_under versions row placing =
    option_and_then (waiting_row row placing) (stored_of versions placing.version)

-- what is placed under a row number, if anything is
abbrev pub placed_under : List Stored → ℕ → Placing → Option PlacedRow
placed_under versions row placing = of_kind First placing.kind (draft_under versions row placing)

-- what is placed under the row numbers from `first` on
abbrev pub placed_from : ℕ → List Placing → List Stored → List PlacedRow
placed_from first [] versions = []
placed_from first (placing ∷ placings) versions =
    cons_option (placed_under versions first placing) (placed_from (first + 1) placings versions)

-- the part of the world that a table is: its rows, what is placed there in order of row number, which
-- is the order in which it was placed, and the locks on its rows
abbrev pub table_shown : TableState → TableView
table_shown state =
    record {
      rows = rows_of state.store;
      placed = placed_from 1 state.placings state.store.versions;
      locks = state.locks;
    }

-- what is staged for a row, if anything is: who is to write it, and the values
abbrev pub staged_at : TableState → ℕ → Option PlacedRow
staged_at state row =
    option_and_then
    (λ placing. of_kind Next placing.kind (draft_under state.store.versions row placing))
    (nth_item state.placings row)

-- what is staged by other transactions
abbrev pub staged_by_others : Option PlacedRow → ℕ → Option PlacedRow
staged_by_others None xact = None
staged_by_others (Some staged) xact = if nat_eq staged.me.xact xact then None else Some staged

-- the version number of a draft that waits, where it does
abbrev pub waiting_version : List Stored → Placing → Option ℕ
waiting_version versions placing =
    option_and_then (λ stored. if is_placed stored.state then Some placing.version else None)
    (stored_of versions placing.version)

-- the version number of the draft of that kind that waits under a row number, if one does
abbrev pub draft_number : DraftKind → TableState → ℕ → Option ℕ
draft_number kind state row =
    option_and_then
    (λ placing. of_kind kind placing.kind (waiting_version state.store.versions placing))
    (nth_item state.placings row)

-- the version number of what is placed under a row number, if anything is
abbrev pub waiting_number : TableState → ℕ → Option ℕ
waiting_number state row = draft_number First state row

-- the version number of what is staged for a row, if anything is
abbrev pub staged_number : TableState → ℕ → Option ℕ
staged_number state row = draft_number Next state row

-- a row number is drawn for a proposed row, whose values wait there
abbrev pub row_placed_in : TableState → Me → List Value → TableState
row_placed_in state me values =
    record {
      store = store_placed state.store me values;
      placings = state.placings
          ++ record {
            session = me.session;
            version = length state.store.versions + 1;
            kind = First;
          }
          ∷ [];
      locks = locks_of_row_added state.locks;
    }

-- the version of that number, if one is given, is its row's newest
abbrev pub version_settled_in : TableState → Option ℕ → TableState
version_settled_in state None = state
version_settled_in state (Some number) =
    record state { store = with_version_state state.store number Settled }

-- what is placed under a row number, if anything is, is the row's first version
abbrev pub row_inserted_in : TableState → ℕ → TableState
row_inserted_in state row = version_settled_in state (waiting_number state row)

-- a row is drawn and stored at once
abbrev pub row_added_in : TableState → Me → List Value → TableState
row_added_in state me values =
    row_inserted_in (row_placed_in state me values) (state.store.drawn + 1)

-- new values of a row are staged: they are a draft of the row, which nobody sees
abbrev pub row_staged_in : TableState → Me → ℕ → List Value → TableState
row_staged_in state me row values =
    record state {
      store = version_drafted state.store me row (Some values);
      placings = with_changed_nth_item
          (λ placing.
          record {
            session = me.session;
            version = length state.store.versions + 1;
            kind = Next;
          })
          state.placings row;
    }

-- what is staged for a row, if anything is, is the row's newest version
abbrev pub row_written_in : TableState → ℕ → TableState
row_written_in state row = version_settled_in state (staged_number state row)

-- the row's newest version says that it is gone
abbrev pub row_erased_in : TableState → Me → ℕ → TableState
row_erased_in state me row =
    record state {
      store = with_version_state (version_drafted state.store me row None)
          (length state.store.versions + 1) Settled;
    }

-- the transaction holds the row at that strength too
abbrev pub row_held_in : TableState → ℕ → ℕ → Strength → TableState
row_held_in state xact row strength =
    record state { locks = locks_held state.locks xact row strength }

-- a transaction is rolled back: all that it wrote, placed or staged is dead, and its locks end
abbrev pub state_undone : ℕ → TableState → TableState
state_undone xact state =
    record state {
      store = store_without state.store xact;
      locks = locks_ended xact state.locks;
    }

-- a transaction has committed: what it placed or staged and did not store is dead, and its locks end
abbrev pub state_ended : ℕ → TableState → TableState
state_ended xact state =
    record state {
      store = store_ended state.store xact;
      locks = locks_ended xact state.locks;
    }

-- what is placed under a row number, if anything is, was placed by that command
abbrev pub IsPlacedBy : TableState → Me → ℕ → Type 0
IsPlacedBy state me row =
    (placed : PlacedRow) → placed_at (table_shown state).placed row ≡ Some placed → placed.me ≡ me

-- in each row the versions of a transaction stand behind all others
abbrev pub OwnStandBehind : ℕ → TableView → Type 0
OwnStandBehind xact table =
    (number earlier later : ℕ) (row : Row) (one other : Version) →
    row_of table.rows number ≡ Some row → earlier < later →
    slice_get row.versions earlier ≡ Some one → slice_get row.versions later ≡ Some other →
    one.writer ≡ xact → other.writer ≡ xact

-- a version of that number was drawn for the row, and has values
pub record IsDrawnFor (versions : List Stored) (row number : ℕ) : Type 0 where
  pub stored : Stored
  pub values : List Value
  pub is : stored_of versions number ≡ Some stored
  pub row_is : stored.row ≡ row
  pub values_are : stored.version.values ≡ Some values

-- no version stands behind a draft of its row but dead ones
abbrev pub DraftsStandLast : List Stored → Type 0
DraftsStandLast versions =
    (draft other : ℕ) (stored more : Stored) → stored_of versions draft ≡ Some stored →
    stored.state ≡ Placed → stored_of versions other ≡ Some more → more.row ≡ stored.row →
    draft < other → more.state ≡ Dead

-- Each row number that was drawn has the locks on it, and its placing, which names a version of the
-- row with values. Each draft that waits is the one that the placing of its row names, and stands
-- behind the versions of that row.
pub record IsTable (state : TableState) : Type 0 where
  pub count : length state.placings ≡ state.store.drawn
  pub locked : length state.locks ≡ state.store.drawn
  pub within : AreWithin state.store
  pub named : (row : ℕ) (placing : Placing) → nth_item state.placings row ≡ Some placing →
      IsDrawnFor state.store.versions row placing.version
  pub waits : (number : ℕ) (stored : Stored) →
      stored_of state.store.versions number ≡ Some stored → stored.state ≡ Placed →
      option_map (λ placing. placing.version) (nth_item state.placings stored.row) ≡ Some number
  pub last : DraftsStandLast state.store.versions
