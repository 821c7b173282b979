-- Legal and complete journals, and the world that a journal leaves.
use Rattle.std.specs.Prelude.{ℕ, ◌≡◌, ◌<◌, ◌==◌, Bool, true, false, List, [], ◌∷◌, filter, length, map, Option, None, Some}
use Rattle.pg_model.specs.declared.journal.Entry.{Entry}
use Rattle.pg_model.specs.declared.journal.EntryAct.{EntryAct}
use Rattle.pg_model.specs.declared.journal.EntryAct.TheVariants as entry
use Rattle.pg_model.specs.declared.script.Script.{Script}
use Rattle.pg_world.specs.Worlds.{World}
use Rattle.pg_relation.specs.Effect.{effect}
use Rattle.pg_relation.specs.Lines.{statements_of}
use Rattle.pg_relation.specs.Moves.{IsPermitted}
use Rattle.pg_relation.specs.Setup.{first_world}

-- the world that entries leave of a world
unfoldable pub world_from : Script → World → List Entry → World
world_from script world [] = world
world_from script world (entry ∷ entries) = world_from script (effect script world entry) entries

-- the world that a journal leaves of the world after setup
abbrev pub world_after : Script → List Entry → World
world_after script journal = world_from script (first_world script) journal

-- each entry is permitted in the world left by the entries before
unfoldable pub IsLegalFrom : Script → World → List Entry → Type 0
IsLegalFrom script world [] = Unit {0}
IsLegalFrom script world (entry ∷ entries) =
    IsPermitted script world entry × IsLegalFrom script (effect script world entry) entries

-- from the world after setup, each entry is a move that Read Committed permits
abbrev pub IsLegal : Script → List Entry → Type 0
IsLegal script journal = IsLegalFrom script (first_world script) journal

-- a reply to a statement, or its failure, which is its reply
abbrev pub is_reply : EntryAct → Bool
is_reply (entry.Replied reply) = true
is_reply (entry.Failed error) = true
is_reply (entry.Snapped commits) = false
is_reply (entry.Found candidate) = false
is_reply (entry.Placed table row) = false
is_reply (entry.Locked table row strength) = false
is_reply (entry.Inserted table row) = false
is_reply (entry.Updated table row) = false
is_reply (entry.Deleted table row) = false
is_reply entry.Passed = false
is_reply (entry.Waits other) = false
is_reply entry.Committed = false
is_reply entry.RolledBack = false
is_reply entry.Closed = false

-- what a session did, in order
abbrev pub acts_of : ℕ → List Entry → List EntryAct
acts_of number journal =
    map (λ entry. entry.act) (filter (λ entry. entry.session == number) journal)

-- the replies that a session got, in order
abbrev pub replies_of : ℕ → List Entry → List EntryAct
replies_of number journal = filter is_reply (acts_of number journal)

-- the last of a list
abbrev pub last_of : {X : Type 0} → List X → Option X
last_of [] = None
last_of (item ∷ []) = Some item
last_of (_ ∷ item ∷ items) = last_of (item ∷ items)

-- each statement of each session has exactly one reply, and each session ends with Closed
pub record IsComplete (script : Script) (journal : List Entry) : Type 0 where
  pub replies : (number : ℕ) → number < length script.sessions →
      length (replies_of number journal) ≡ length (statements_of script number)
  pub closed : (number : ℕ) → number < length script.sessions →
      last_of (acts_of number journal) ≡ Some entry.Closed
