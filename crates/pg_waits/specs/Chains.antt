-- Where waits lead: from a session to the one that it waits for, and on from that one.
use Rattle.std.specs.Prelude.{ℕ, zero, suc, ◌≡◌, nat_eq, List, [], ◌∷◌, length, Option, None, Some, option_map, if◌then◌else◌}
use Rattle.std.specs.Option.{option_map_or}
use Rattle.pg_xacts.specs.declared.on.On.{On}
use Rattle.pg_waits.specs.Slots.{waits_for}

-- the first session waits for the first of those between, each of them for the next, and the last of
-- them for the last session
abbrev pub IsChain : List (Option On) → ℕ → List ℕ → ℕ → Type 0
IsChain slots first [] last = waits_for slots first ≡ Some last
IsChain slots first (next ∷ between) last =
    (waits_for slots first ≡ Some next) × IsChain slots next between last

-- the waits lead from one session to another
abbrev pub Leads : List (Option On) → ℕ → ℕ → Type 0
Leads slots first last = (between : List ℕ) × IsChain slots first between last

-- the ring that `me` would close by a wait for another session: `me`, that session, and so on, each
-- of which waits for the next, and the last of them for `me`
abbrev pub IsRing : List (Option On) → ℕ → ℕ → List ℕ → Type 0
IsRing slots me other ring =
    (between : List ℕ) × (ring ≡ me ∷ other ∷ between) × IsChain slots other between me

-- the sessions between two, where the waits lead from the first to the last in so many steps at most
abbrev pub chain_within : List (Option On) → ℕ → ℕ → ℕ → Option (List ℕ)
chain_within slots zero first last = None
chain_within slots (suc steps) first last =
    option_map_or
    (λ next.
    if nat_eq next last then Some []
    else option_map (λ between. next ∷ between) (chain_within slots steps next last))
    (waits_for slots first) None

-- the ring that `me` would close by a wait for another session, if it would: a chain has no more
-- steps than there are sessions
abbrev pub ring_of : List (Option On) → ℕ → ℕ → Option (List ℕ)
ring_of slots me other =
    option_map (λ between. me ∷ other ∷ between) (chain_within slots (length slots) other me)
