-- Which versions a transaction wrote, from the last of them back.
use Rattle.std.specs.Prelude.{ℕ, zero, suc, ◌≡◌, true, if◌then◌else◌, nat_eq, List, length, slice_get, Option, None, Some}
use Rattle.std.specs.Map.{lookup}
use Rattle.pg_heap.specs.declared.slot.Slot.{Slot}
use Rattle.pg_heap.specs.Slots.{is_number_written_by}

-- the last of the first versions, so many, that a transaction wrote
abbrev pub latest_by : ℕ → List Slot → ℕ → Option ℕ
latest_by xact slots zero = None
latest_by xact slots (suc before) =
    if is_number_written_by xact slots (suc before) then Some (suc before)
    else latest_by xact slots before

-- `last` has the last version of each transaction, and `earlier` leads from each version to the one
-- that its writer wrote before it
pub record AreWritten (slots : List Slot) (earlier : List (Option ℕ)) (last : List (ℕ × ℕ)) :
    Type 0 where
  pub count : length earlier ≡ length slots
  pub last_of : (xact : ℕ) → lookup (nat_eq xact) last ≡ latest_by xact slots (length slots)
  pub earlier_of : (xact before : ℕ) → is_number_written_by xact slots (suc before) ≡ true →
      slice_get earlier before ≡ Some (latest_by xact slots before)
