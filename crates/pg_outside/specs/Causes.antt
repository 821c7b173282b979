-- Counts of faults, and refusals that have a fault as their cause.
use Rattle.std.specs.Prelude.{ℕ, ◌+◌, ◌-◌, ◌^◌, ◌≤◌, min, Result, OnErr}

-- a count of 64 bits raised by one: at its last value it stands still
abbrev pub count_after_fault : ℕ → ℕ
count_after_fault count = min (count + 1) (2 ^ 64 - 1)

-- a count of faults has risen, or stands at its last value
abbrev pub Rose : ℕ → ℕ → Type 0
Rose before now = count_after_fault before ≤ now

-- a count of faults has not fallen, and a refusal comes only where it rose
pub record HasCause {T E : Type 0} (before now : ℕ) (result : Result T E) : Type 0 where
  pub later : before ≤ now
  pub failed : OnErr result (Rose before now)
