-- Bytes in memory as a source: what is left, and which reads fail.
use Rattle.std.specs.Prelude.{◌==◌, ℕ, Bool, List, drop, Result, Ok, Err}
use Rattle.std.specs.List.{list_any}
use Rattle.pg_outside.specs.Causes.{count_after_fault}

-- the bytes left, the numbers of the calls that fail, the number of the next call, and how many calls have failed
pub record BytesView : Type 0 where
  pub left : List ℕ
  pub fails : List ℕ
  pub next : ℕ
  pub faults : ℕ

-- the call of this number is one of those that fail
abbrev pub is_failing : List ℕ → ℕ → Bool
is_failing fails call = list_any (λ number. number == call) fails

-- after a read: the next call, with fewer bytes left or one fault more
abbrev pub after_read : {E : Type 0} → BytesView → Result ℕ E → BytesView
after_read view (Ok count) = record view { left = drop count view.left; next = count_after_fault view.next }
after_read view (Err _) = record view { next = count_after_fault view.next; faults = count_after_fault view.faults }
