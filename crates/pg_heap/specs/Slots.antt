-- The versions of a heap, numbered from 1 in the order in which they were placed, with their links.
use Rattle.std.specs.Prelude.{ℕ, ◌≡◌, ◌+◌, ◌++◌, Bool, true, false, if◌then◌else◌, List, [], ◌∷◌, Option, None, Some, option_and_then, option_map}
use Rattle.std.specs.Option.{option_map_or}
use Rattle.pg_values.specs.declared.value.Value.{Value}
use Rattle.pg_xacts.specs.declared.me.Me.{Me}
use Rattle.pg_heap.specs.declared.version.Version.{Version}
use Rattle.pg_heap.specs.declared.slot.Slot.{Slot}
use Rattle.pg_heap.specs.declared.slot.State.{State}
use Rattle.pg_heap.specs.declared.slot.State.TheVariants.{Placed, Settled, Dead}
use Rattle.pg_heap.specs.Rows.{is_written_by}
use Rattle.pg_lists.specs.Numbered.{with_changed_nth_item, nth_item}

-- the version of that number with its links, if the number was drawn
abbrev pub slot_of : List Slot → ℕ → Option Slot
slot_of slots number = nth_item slots number

-- the version of that number
abbrev pub version_of : List Slot → ℕ → Option Version
version_of slots number = option_map (λ slot. slot.version) (slot_of slots number)

-- the row that a version is for
abbrev pub row_of_version : List Slot → ℕ → Option ℕ
row_of_version slots number = option_map (λ slot. slot.row) (slot_of slots number)

-- what has become of a version
abbrev pub state_of : List Slot → ℕ → Option State
state_of slots number = option_map (λ slot. slot.state) (slot_of slots number)

-- whether a version in that state is not dead
abbrev pub is_living_state : State → Bool
is_living_state Placed = true
is_living_state Settled = true
is_living_state Dead = false

-- whether a version was drawn and is not dead
abbrev pub is_living : List Slot → ℕ → Bool
is_living slots number = option_map_or is_living_state (state_of slots number) false

-- the version before another in its row, where they are linked
abbrev pub predecessor_of : List Slot → ℕ → Option ℕ
predecessor_of slots number = option_and_then (λ slot. slot.before) (slot_of slots number)

-- the version after another in its row, where they are linked
abbrev pub successor_of : List Slot → ℕ → Option ℕ
successor_of slots number = option_and_then (λ slot. slot.after) (slot_of slots number)

-- whether a transaction wrote the version of that number
abbrev pub is_number_written_by : ℕ → List Slot → ℕ → Bool
is_number_written_by xact slots number =
    option_map_or (λ slot. is_written_by xact slot.version) (slot_of slots number) false

-- the version that is placed, without links
abbrev pub first_slot : ℕ → Option (List Value) → Me → Slot
first_slot row values writer =
    record {
      row = row;
      version = record { values = values; writer = writer.xact; command = writer.command };
      state = Placed;
      before = None;
      after = None;
    }

-- a version is placed behind all others
abbrev pub version_placed : List Slot → ℕ → Option (List Value) → Me → List Slot
version_placed slots row values writer = slots ++ first_slot row values writer ∷ []

-- the version of that number is in another state
abbrev pub with_state : List Slot → ℕ → State → List Slot
with_state slots number state =
    with_changed_nth_item (λ slot. record slot { state = state }) slots number

-- the link from a version to the one before it is as given
abbrev pub with_predecessor : List Slot → ℕ → Option ℕ → List Slot
with_predecessor slots number before =
    with_changed_nth_item (λ slot. record slot { before = before }) slots number

-- the link from a version to the one after it is as given
abbrev pub with_successor : List Slot → ℕ → Option ℕ → List Slot
with_successor slots number after =
    with_changed_nth_item (λ slot. record slot { after = after }) slots number

-- the second version may become the successor of the first: neither is dead, the first has no
-- successor, and the second no link
pub record CanLink (slots : List Slot) (first second : ℕ) : Type 0 where
  pub living_first : is_living slots first ≡ true
  pub living_second : is_living slots second ≡ true
  pub last : successor_of slots first ≡ None
  pub unlinked_before : predecessor_of slots second ≡ None
  pub unlinked_after : successor_of slots second ≡ None

-- two versions are linked, the second as the successor of the first
abbrev pub versions_linked : List Slot → ℕ → ℕ → List Slot
versions_linked slots before after =
    with_predecessor (with_successor slots before (Some after)) after (Some before)

-- a dead version, without links
abbrev pub dead_slot : Slot → Slot
dead_slot slot = record slot { state = Dead; before = None; after = None }

-- a link, or none where it leads to one of the given versions
abbrev pub link_outside : (ℕ → Bool) → Option ℕ → Option ℕ
link_outside test None = None
link_outside test (Some number) = if test number then None else Some number

-- a version once the given ones are dead: it is dead itself, or has no link to one of them
abbrev pub slot_without : (ℕ → Bool) → ℕ → Slot → Slot
slot_without test number slot =
    if test number then dead_slot slot
    else
    record slot { before = link_outside test slot.before; after = link_outside test slot.after }

-- the same of all versions, where the first has the number `first`
abbrev pub slots_without : (ℕ → Bool) → ℕ → List Slot → List Slot
slots_without test first [] = []
slots_without test first (slot ∷ slots) =
    slot_without test first slot ∷ slots_without test (first + 1) slots

-- all versions of a transaction are dead, and no link leads to them or from them
abbrev pub versions_undone : List Slot → ℕ → List Slot
versions_undone slots xact = slots_without (is_number_written_by xact slots) 1 slots

-- the version of that number, if one is given, has no link to the one after it
abbrev pub without_successor : Option ℕ → List Slot → List Slot
without_successor None slots = slots
without_successor (Some number) slots = with_successor slots number None

-- the version of that number, if one is given, has no link to the one before it
abbrev pub without_predecessor : Option ℕ → List Slot → List Slot
without_predecessor None slots = slots
without_predecessor (Some number) slots = with_predecessor slots number None

-- one version is dead, and no link leads to it or from it
abbrev pub version_undone : List Slot → ℕ → List Slot
version_undone slots number =
    without_predecessor (successor_of slots number)
    (without_successor (predecessor_of slots number) (with_changed_nth_item dead_slot slots number))

-- each link leads both ways
pub record AreLinked (slots : List Slot) : Type 0 where
  pub back : (first second : ℕ) → successor_of slots first ≡ Some second →
      predecessor_of slots second ≡ Some first
  pub forth : (first second : ℕ) → predecessor_of slots second ≡ Some first →
      successor_of slots first ≡ Some second
