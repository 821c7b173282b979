-- What holds of the heap and of the list of newest versions that a store keeps.
use Rattle.std.specs.Prelude.{ℕ, ◌≡◌, ◌≢◌, ◌+◌, ◌-◌, ◌<◌, ◌≤◌, ◌&&◌, Bool, not, nat_lt, List, length, map, slice_get, Option, None, Some}
use Rattle.pg_heap.specs.declared.slot.Slot.{Slot}
use Rattle.pg_heap.specs.declared.slot.State.TheVariants.{Placed, Settled, Dead}
use Rattle.pg_heap.specs.Slots.{AreLinked, is_number_written_by, slot_of, versions_linked, with_state}
use Rattle.pg_rows.specs.Stores.{Stored, is_version_of, last_number, newest_number, passes}

-- a version of the heap, without its links
abbrev pub stored_slot : Slot → Stored
stored_slot slot = record { row = slot.row; version = slot.version; state = slot.state }

-- the versions of a heap, without their links
abbrev pub stored_slots : List Slot → List Stored
stored_slots slots = map stored_slot slots

-- a version is linked to the newest of its row, if there is one, and settled
abbrev pub attached_slots : List Slot → Option ℕ → ℕ → List Slot
attached_slots slots None version = with_state slots version Settled
attached_slots slots (Some last) version = with_state (versions_linked slots last version) version Settled

-- for each row its newest version is known; from there links lead to the versions before; a version that
-- is not settled has no link, and a draft stands behind all versions of its row
pub record AreChained (slots : List Slot) (newest : List (Option ℕ)) : Type 0 where
  pub linked : AreLinked slots
  pub newest_of : (row : ℕ) → row < length newest →
      slice_get newest row ≡ Some (newest_number (stored_slots slots) (row + 1))
  pub drawn : (number : ℕ) (slot : Slot) → slot_of slots number ≡ Some slot →
      (0 < slot.row) × (slot.row ≤ length newest)
  pub before : (number : ℕ) (slot : Slot) → slot_of slots number ≡ Some slot → slot.state ≡ Settled →
      slot.before ≡ last_number (passes (is_version_of slot.row) (stored_slots slots)) (number - 1)
  pub loose : (number : ℕ) (slot : Slot) → slot_of slots number ≡ Some slot → slot.state ≢ Settled →
      (slot.before ≡ None) × (slot.after ≡ None)
  pub behind : (draft other : ℕ) (slot more : Slot) → slot_of slots draft ≡ Some slot → slot.state ≡ Placed →
      slot_of slots other ≡ Some more → more.row ≡ slot.row → draft < other → more.state ≡ Dead

-- whether a version is one of a row, but none of a transaction's with a greater number than one
abbrev pub is_left : List Slot → ℕ → ℕ → ℕ → ℕ → Bool
is_left slots xact floor row number =
    passes (is_version_of row) (stored_slots slots) number
    && not (is_number_written_by xact slots number && nat_lt floor number)

-- for each row its newest version is known, but for those of a transaction with greater numbers than
-- one
pub record AreUnwound (slots : List Slot) (xact floor : ℕ) (old newest : List (Option ℕ)) : Type 0 where
  pub count : length newest ≡ length old
  pub newest_of : (row : ℕ) → row < length newest →
      slice_get newest row ≡ Some (last_number (is_left slots xact floor (row + 1)) (length slots))
