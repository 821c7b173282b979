-- The ring that a wait would close: it is found where there is one, and where the walk has come so far.
use Rattle.std.proofs.Common.{◌≡◌, ◌≢◌, ◌<◌, ◌≤◌, ◌-◌, ◌++◌, ℕ, suc, List, [], ◌∷◌, length, Option, None, Some, option_map, refl, ap, sym, ◌∙◌, arith, ne_eqb, append_assoc}
use Rattle.pg_xacts.specs.declared.on.On.{On}
use Rattle.pg_waits.specs.Slots.{waits_for}
use Rattle.pg_waits.specs.Chains.{IsRing, Leads, chain_within, ring_of}
use Rattle.pg_waits.proofs.Lists.{count_all, count_fewer}
use Rattle.pg_waits.proofs.Chains.{chain_complete, chain_short, chain_sound}

-- a ring that is named is one
pub ring_sound : (slots : List (Option On)) (me other : ℕ) (ring : List ℕ) → ring_of slots me other ≡ Some ring →
    IsRing slots me other ring
ring_sound slots me other ring is = at (chain_within slots (length slots) other me) refl is
  where
    at : (o : Option (List ℕ)) → chain_within slots (length slots) other me ≡ o →
        option_map (λ between. me ∷ other ∷ between) o ≡ Some ring → IsRing slots me other ring
    at None found some = absurd (cc some)
    at (Some between) found some =
        let e : me ∷ other ∷ between ≡ ring = cc some in
        (between, sym e, chain_sound (length slots) slots other me between found)

-- each ring is named
pub ring_complete : (slots : List (Option On)) (me other : ℕ) (ring : List ℕ) → waits_for slots me ≡ None →
    IsRing slots me other ring → ring_of slots me other ≡ Some ring
ring_complete slots me other ring idle is =
    let short = chain_short is.0 slots other me idle is.2 in
    let all = count_all slots in
    rw (chain_complete is.0 (length slots) slots other me idle is.2 (omega (arith, short, all)))
    (ap (λ x. Some x) (sym is.1))

-- where none is named, the waits do not lead back
pub none_leads : (slots : List (Option On)) (me other : ℕ) → waits_for slots me ≡ None →
    ring_of slots me other ≡ None → Leads slots other me → ⊥
none_leads slots me other idle none leads =
    let found = ring_complete slots me other (me ∷ other ∷ leads.0) idle (leads.0, refl, leads.1) in
    let e : None ≡ Some (me ∷ other ∷ leads.0) = sym none ∙ found in
    absurd (cc)

pub leads_is_ring : (slots : List (Option On)) (me other : ℕ) → (Leads slots other me → ⊥) →
    ring_of slots me other ≡ None
leads_is_ring slots me other free = at (ring_of slots me other) refl
  where
    at : (o : Option (List ℕ)) → ring_of slots me other ≡ o → ring_of slots me other ≡ None
    at None is = is
    at (Some ring) is = let there = ring_sound slots me other ring is in absurd (free (there.0, there.2))

-- a ring has no more sessions than there are
pub ring_short : (slots : List (Option On)) (me other : ℕ) (ring : List ℕ) → me < length slots →
    waits_for slots me ≡ None → IsRing slots me other ring → length ring ≤ length slots
ring_short slots me other ring within idle is =
    let short = chain_short is.0 slots other me idle is.2 in
    let fewer = count_fewer slots me within idle in
    let l : length ring ≡ suc (suc (length is.0)) = ap length is.1 in
    omega (arith, short, fewer, l)

-- one step less is enough, since `me` does not wait
pub chain_fewer : (slots : List (Option On)) (me other : ℕ) → me < length slots → waits_for slots me ≡ None →
    chain_within slots (length slots) other me ≡ chain_within slots (length slots - 1) other me
chain_fewer slots me other within idle =
    at (chain_within slots (length slots) other me) refl (chain_within slots (length slots - 1) other me) refl
  where
    at : (o : Option (List ℕ)) → chain_within slots (length slots) other me ≡ o →
        (p : Option (List ℕ)) → chain_within slots (length slots - 1) other me ≡ p →
        chain_within slots (length slots) other me ≡ chain_within slots (length slots - 1) other me
    at None all None less = all ∙ sym less
    at (Some between) all p less =
        let chain = chain_sound (length slots) slots other me between all in
        let short = chain_short between slots other me idle chain in
        let fewer = count_fewer slots me within idle in
        all ∙ sym (chain_complete between (length slots - 1) slots other me idle chain (omega (arith, short, fewer)))
    at None all (Some between) less =
        let chain = chain_sound (length slots - 1) slots other me between less in
        let short = chain_short between slots other me idle chain in
        let every = count_all slots in
        let found = chain_complete between (length slots) slots other me idle chain (omega (arith, short, every)) in
        let e : None ≡ Some between = sym all ∙ found in
        absurd (cc)

-- what is still to be found once the walk has come to a session, behind those that it has passed
abbrev pub ring_from : List (Option On) → List ℕ → ℕ → ℕ → ℕ → Option (List ℕ)
ring_from slots passed last steps me =
    option_map (λ between. passed ++ last ∷ between) (chain_within slots steps last me)

pub ring_begins : (slots : List (Option On)) (me other steps : ℕ) → me < length slots → waits_for slots me ≡ None →
    steps ≡ length slots - 1 → ring_from slots (me ∷ []) other steps me ≡ ring_of slots me other
ring_begins slots me other steps within idle is =
    rw (is, chain_fewer slots me other within idle) refl

pub ring_goes_on : (slots : List (Option On)) (passed : List ℕ) (last next me steps left : ℕ) → steps ≡ suc left →
    waits_for slots last ≡ Some next → next ≢ me →
    ring_from slots passed last steps me ≡ ring_from slots (passed ++ last ∷ []) next left me
ring_goes_on slots passed last next me steps left more waits other =
    rw (more, waits, ne_eqb next me other) (at (chain_within slots left next me))
  where
    at : (o : Option (List ℕ)) →
        option_map (λ between. passed ++ last ∷ between) (option_map (λ between. next ∷ between) o)
        ≡ option_map (λ between. (passed ++ last ∷ []) ++ next ∷ between) o
    at None = refl
    at (Some between) = ap (λ x. Some x) (sym (append_assoc passed (last ∷ []) (next ∷ between)))
