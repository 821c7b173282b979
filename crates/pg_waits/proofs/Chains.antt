-- Chains of waits: there is one at most that ends at a session which does not wait, and it has no more
-- steps than there are sessions that wait.
use Rattle.std.proofs.Common.{◌≡◌, ◌≢◌, ◌<◌, ◌++◌, ◌⊎◌, inl, inr, ℕ, zero, suc, Bool, true, false, cond, nat_eq, List, [], ◌∷◌, length, Option, None, Some, option_map, slice_set, refl, ap, ap₂, subst, sym, ◌∙◌, arith, eq-eqb, ne_eqb}
use Rattle.std.specs.Option.{option_map_or}
use Rattle.std.proofs.lemmas.Bool.{cases_eq, eqb-true}
use Rattle.pg_xacts.specs.declared.on.On.{On}
use Rattle.pg_waits.specs.Slots.{waits_for}
use Rattle.pg_waits.specs.Chains.{IsChain, Leads, chain_within}
use Rattle.pg_waits.proofs.Lists.{count_emptied, count_some, wait_emptied, wait_other, waiting_count}

-- the first session of a chain waits
pub chain_waits : (slots : List (Option On)) (first last : ℕ) (between : List ℕ) → IsChain slots first between last →
    waits_for slots first ≢ None
chain_waits slots first last [] is none = let e : None ≡ Some last = sym none ∙ is in absurd (cc)
chain_waits slots first last (next ∷ between) chain none = let e : None ≡ Some next = sym none ∙ chain.0 in absurd (cc)

-- chains in a row are one chain
pub chain_joined : (slots : List (Option On)) (first middle last : ℕ) (front back : List ℕ) →
    IsChain slots first front middle → IsChain slots middle back last →
    IsChain slots first (front ++ middle ∷ back) last
chain_joined slots first middle last [] back one two = (one, two)
chain_joined slots first middle last (next ∷ front) back one two =
    (one.0, chain_joined slots next middle last front back one.1 two)

pub leads_on : (slots : List (Option On)) (first middle last : ℕ) → Leads slots first middle → Leads slots middle last →
    Leads slots first last
leads_on slots first middle last one two =
    (one.0 ++ middle ∷ two.0, chain_joined slots first middle last one.0 two.0 one.1 two.1)

-- what holds of the waits that make up a chain holds of the chain
pub chain_kept : (slots new : List (Option On)) (first last : ℕ) (between : List ℕ) →
    ((session other : ℕ) → waits_for slots session ≡ Some other → waits_for new session ≡ Some other) →
    IsChain slots first between last → IsChain new first between last
chain_kept slots new first last [] kept is = kept first last is
chain_kept slots new first last (next ∷ between) kept chain =
    (kept first next chain.0, chain_kept slots new next last between kept chain.1)

-- from one session there is one chain to another, if that does not wait
pub chain_one : (slots : List (Option On)) (first last : ℕ) (one other : List ℕ) → waits_for slots last ≡ None →
    IsChain slots first one last → IsChain slots first other last → one ≡ other
chain_one slots first last [] [] idle a b = refl
chain_one slots first last [] (next ∷ other) idle a b =
    let e : Some last ≡ Some next = sym a ∙ b.0 in
    let same : last ≡ next = cc in
    absurd (chain_waits slots next last other b.1 (rw (← same) idle))
chain_one slots first last (next ∷ one) [] idle a b =
    let e : Some last ≡ Some next = sym b ∙ a.0 in
    let same : last ≡ next = cc in
    absurd (chain_waits slots next last one a.1 (rw (← same) idle))
chain_one slots first last (next ∷ one) (also ∷ other) idle a b =
    let e : Some next ≡ Some also = sym a.0 ∙ b.0 in
    let same : next ≡ also = cc in
    ap₂ (λ x xs. x ∷ xs) same (chain_one slots next last one other idle a.1 (rw same b.1))

-- a shorter chain to the same session does not pass the first one again
chain_apart : (slots : List (Option On)) (first last : ℕ) (whole : List ℕ) → waits_for slots last ≡ None →
    IsChain slots first whole last → (session : ℕ) (between : List ℕ) → IsChain slots session between last →
    length between < length whole → session ≢ first
chain_apart slots first last whole idle all session between chain shorter same =
    let e : between ≡ whole = chain_one slots first last between whole idle (rw (← same) chain) all in
    let l : length between ≡ length whole = ap length e in
    omega (arith, l, shorter)

chain_without : (slots : List (Option On)) (first last : ℕ) (whole : List ℕ) → waits_for slots last ≡ None →
    IsChain slots first whole last → (session : ℕ) (between : List ℕ) → IsChain slots session between last →
    length between < length whole → IsChain (slice_set slots first None) session between last
chain_without slots first last whole idle all session [] chain shorter =
    ap (λ slot. option_map (λ on. on.session) slot)
    (wait_other slots first session None (chain_apart slots first last whole idle all session [] chain shorter))
    ∙ chain
chain_without slots first last whole idle all session (next ∷ between) chain shorter = (
  ap (λ slot. option_map (λ on. on.session) slot)
      (wait_other slots first session None (chain_apart slots first last whole idle all session (next ∷ between) chain shorter))
      ∙ chain.0,
  chain_without slots first last whole idle all next between chain.1 (omega (arith, shorter)),
)

-- who does not wait does not wait where another slot was emptied
idle_without : (slots : List (Option On)) (first last : ℕ) → waits_for slots last ≡ None →
    waits_for (slice_set slots first None) last ≡ None
idle_without slots first last idle = at (cases_eq last first)
  where
    at : (last ≡ first) ⊎ (last ≡ first → ⊥) → waits_for (slice_set slots first None) last ≡ None
    at (inl same) = rw same (ap (λ slot. option_map (λ on. on.session) slot) (wait_emptied slots first))
    at (inr apart) = ap (λ slot. option_map (λ on. on.session) slot) (wait_other slots first last None apart) ∙ idle

pub chain_short : (between : List ℕ) (slots : List (Option On)) (first last : ℕ) → waits_for slots last ≡ None →
    IsChain slots first between last → length between < waiting_count slots
chain_short [] slots first last idle chain = count_some slots first last chain
chain_short (next ∷ between) slots first last idle chain =
    let fewer = count_emptied slots first next chain.0 in
    let short = chain_short between (slice_set slots first None) next last (idle_without slots first last idle)
    (chain_without slots first last (next ∷ between) idle chain next between chain.1 (omega arith)) in
    omega (arith, fewer, short)

-- what is found in some steps is a chain
pub chain_sound : (steps : ℕ) (slots : List (Option On)) (first last : ℕ) (between : List ℕ) →
    chain_within slots steps first last ≡ Some between → IsChain slots first between last
chain_sound zero slots first last between is = absurd (cc is)
chain_sound (suc steps) slots first last between is =
    at (waits_for slots first) refl is
    (λ next rest found. chain_sound steps slots next last rest found)
  where
    at : (o : Option ℕ) → waits_for slots first ≡ o →
        option_map_or (λ next. cond (nat_eq next last) (Some []) (option_map (λ between. next ∷ between) (chain_within slots steps next last))) o None ≡ Some between →
        ((next : ℕ) (rest : List ℕ) → chain_within slots steps next last ≡ Some rest → IsChain slots next rest last) →
        IsChain slots first between last
    at None waits some more = absurd (cc some)
    at (Some next) waits some more = by_test (nat_eq next last) refl some
      where
        by_rest : (o : Option (List ℕ)) → chain_within slots steps next last ≡ o →
            option_map (λ between. next ∷ between) o ≡ Some between → IsChain slots first between last
        by_rest None found some = absurd (cc some)
        by_rest (Some rest) found some =
            let e : next ∷ rest ≡ between = cc some in
            subst (λ between. IsChain slots first between last) e (waits, more next rest found)

        by_test : (b : Bool) → nat_eq next last ≡ b →
            cond b (Some []) (option_map (λ between. next ∷ between) (chain_within slots steps next last)) ≡ Some between →
            IsChain slots first between last
        by_test true test some =
            let e : [] ≡ between = cc some in
            let same = eqb-true next last test in
            subst (λ between. IsChain slots first between last) e (waits ∙ ap (λ x. Some x) same)
        by_test false test some = by_rest (chain_within slots steps next last) refl some

-- a chain to a session that does not wait is found in as many steps as it has
pub chain_complete : (between : List ℕ) (steps : ℕ) (slots : List (Option On)) (first last : ℕ) →
    waits_for slots last ≡ None → IsChain slots first between last → length between < steps →
    chain_within slots steps first last ≡ Some between
chain_complete between zero slots first last idle chain enough = absurd (omega (arith, enough))
chain_complete [] (suc steps) slots first last idle chain enough = rw (chain, eq-eqb last last refl) refl
chain_complete (next ∷ between) (suc steps) slots first last idle chain enough =
    let other : next ≢ last = λ same. chain_waits slots next last between chain.1 (rw same idle) in
    rw (chain.0, ne_eqb next last other, chain_complete between steps slots next last idle chain.1 (omega (arith, enough)))
    refl
