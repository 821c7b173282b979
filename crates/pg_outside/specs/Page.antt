-- A page in memory as a sink: what was taken, how much more fits, and which writes fail.
use Rattle.std.specs.Prelude.{◌==◌, ℕ, ◌-◌, Bool, ◌||◌, List, ◌++◌, take, Result, Ok, Err}
use Rattle.pg_outside.specs.Causes.{count_after_fault}
use Rattle.pg_outside.specs.Bytes.{is_failing}

-- the bytes taken, how many more have room, how many a call takes at most, the numbers of the calls that fail,
-- the number of the next call, and how many calls have failed
pub record PageView : Type 0 where
  pub taken : List ℕ
  pub room : ℕ
  pub most : ℕ
  pub fails : List ℕ
  pub next : ℕ
  pub faults : ℕ

-- the next call fails: by its number, or for want of room
abbrev pub is_refusing : PageView → Bool
is_refusing view = is_failing view.fails view.next || (view.room == 0)

-- after a write: the next call, with a front of the piece taken or one fault more
abbrev pub after_write : {E : Type 0} → PageView → List ℕ → Result ℕ E → PageView
after_write view piece (Ok count) =
    record view { taken = view.taken ++ take count piece; room = view.room - count; next = count_after_fault view.next }
after_write view piece (Err _) = record view { next = count_after_fault view.next; faults = count_after_fault view.faults }
