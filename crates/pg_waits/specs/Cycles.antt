-- Waits form no cycle.
use Rattle.std.specs.Prelude.{ℕ, ◌≤◌, List, Option, length}
use Rattle.pg_xacts.specs.declared.on.On.{On}
use Rattle.pg_waits.specs.Chains.{Leads}

-- no session's waits lead back to itself
abbrev pub HasNoCycle : List (Option On) → Type 0
HasNoCycle slots = (session : ℕ) → Leads slots session session → ⊥

-- what is kept of waits: there are at most 32 sessions, and the waits form no cycle
pub record AreWaits (slots : List (Option On)) : Type 0 where
  pub few : length slots ≤ 32
  pub acyclic : HasNoCycle slots
