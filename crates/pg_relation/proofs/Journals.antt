-- A journal with one entry more, and what holds of the world that it leaves.
use Rattle.std.proofs.Common.{◌≡◌, List, [], ◌∷◌, ◌++◌, Contains, Some, refl, arith}
use Rattle.pg_model.specs.declared.journal.Entry.{Entry}
use Rattle.pg_model.specs.declared.script.Script.{Script}
use Rattle.pg_world.specs.Worlds.{World}
use Rattle.pg_relation.specs.Effect.{effect}
use Rattle.pg_relation.specs.Journals.{IsLegalFrom, world_from}
use Rattle.pg_relation.specs.Moves.{IsPermitted}
use Rattle.pg_relation.specs.Stepped.{first_of_list}

-- the world behind one entry more
pub world_from-more : (script : Script) (world : World) (entries : List Entry) (entry : Entry) →
    world_from script world (entries ++ entry ∷ []) ≡ effect script (world_from script world entries) entry
unfolding world_from
world_from-more script world [] entry = refl
world_from-more script world (first ∷ entries) entry =
    world_from-more script (effect script world first) entries entry

-- a legal journal stays legal by a permitted entry
pub legal_from_more : (script : Script) (world : World) (entries : List Entry) (entry : Entry) →
    IsLegalFrom script world entries → IsPermitted script (world_from script world entries) entry →
    IsLegalFrom script world (entries ++ entry ∷ [])
unfolding IsLegalFrom world_from
legal_from_more script world [] entry legal permitted = (permitted, tt)
legal_from_more script world (first ∷ entries) entry legal permitted =
    (legal.0, legal_from_more script (effect script world first) entries entry legal.1 permitted)

-- what holds of a world and is kept by each permitted entry holds of the world that a legal journal
-- leaves
pub holds_from : (script : Script) (Holds : World → Type 0) →
    ((world : World) (entry : Entry) → Holds world → IsPermitted script world entry → Holds (effect script world entry)) →
    (world : World) (entries : List Entry) → Holds world → IsLegalFrom script world entries →
    Holds (world_from script world entries)
unfolding IsLegalFrom world_from
holds_from script Holds kept world [] holds legal = holds
holds_from script Holds kept world (entry ∷ entries) holds legal =
    holds_from script Holds kept (effect script world entry) entries (kept world entry holds legal.0) legal.1

-- the first of a list is in it
pub first_contained : {X : Type 0} (xs : List X) (x : X) → first_of_list xs ≡ Some x → Contains xs x
first_contained [] x is = absurd (cc)
first_contained (y ∷ ys) x is = (0, omega arith, cc)
