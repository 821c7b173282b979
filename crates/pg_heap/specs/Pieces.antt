-- The pieces in which the version numbers of a heap are gone over.
use Rattle.std.specs.Prelude.{ℕ, ◌+◌, ◌-◌, min, max, if◌then◌else◌, nat_le, Option, None, Some}
use Rattle.pg_heap.specs.declared.piece.Piece.{Piece}

-- how many numbers stand in a piece from `first` on, where the last number is `last`: at most 64
abbrev pub piece_count : ℕ → ℕ → ℕ
piece_count last first = min 64 (last + 1 - first)

-- the piece from a number on, where the last number is `last`; the numbers begin with 1
abbrev pub piece_from : ℕ → ℕ → Piece
piece_from last from =
    record {
      first = max 1 from;
      count = piece_count last (max 1 from);
      next = next_in last (max 1 from + piece_count last (max 1 from));
    }
  where
    next_in : ℕ → ℕ → Option ℕ
    next_in last after = if nat_le after last then Some after else None
