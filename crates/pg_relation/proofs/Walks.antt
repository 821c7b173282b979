-- Where waits lead: to a session that does not wait, which has not ended.
use Rattle.std.proofs.Common.{◌≡◌, ◌≤◌, ◌⊎◌, ℕ, zero, suc, List, [], ◌∷◌, Option, Some, None, option_map, slice_set, refl, sym, ap, ◌∙◌, subst, inl, inr, arith}
use Rattle.std.proofs.lemmas.Bool.{cases_eq}
use Rattle.pg_xacts.specs.declared.on.On.{On}
use Rattle.pg_waits.specs.Chains.{IsChain, Leads}
use Rattle.pg_waits.specs.Cycles.{HasNoCycle}
use Rattle.pg_waits.specs.Slots.{wait_of, waits_for}
use Rattle.pg_waits.proofs.Acyclic.{fewer_acyclic}
use Rattle.pg_waits.proofs.Chains.{chain_kept, leads_on}
use Rattle.pg_waits.proofs.Lists.{count_emptied, count_some, wait_emptied, wait_other, waiting_count}
use Rattle.pg_world.specs.Worlds.{World}
use Rattle.pg_relation.specs.Sound.{HasOpen, HasSoundWaits}

-- the waits of a session end: it does not wait, or they lead to one that does not
abbrev pub Ends : List (Option On) → ℕ → Type 0
Ends slots number =
    (waits_for slots number ≡ None) ⊎ ((last : ℕ) × Leads slots number last × (waits_for slots last ≡ None))

emptied_fewer : (slots : List (Option On)) (number session other : ℕ) → waits_for (slice_set slots number None) session ≡ Some other →
    waits_for slots session ≡ Some other
emptied_fewer slots number session other is = at (cases_eq session number)
  where
    at : (session ≡ number) ⊎ (session ≡ number → ⊥) → waits_for slots session ≡ Some other
    at (inl same) =
        absurd (let e : None ≡ Some other = sym (rw same (ap (λ w. option_map (λ on. on.session) w) (wait_emptied slots number))) ∙ is in cc e)
    at (inr apart) = sym (ap (λ w. option_map (λ on. on.session) w) (wait_other slots number session None apart)) ∙ is

walk : (steps : ℕ) (slots : List (Option On)) (number : ℕ) → waiting_count slots ≤ steps → HasNoCycle slots → Ends slots number
walk zero slots number within acyclic = at (waits_for slots number) refl
  where
    at : (o : Option ℕ) → waits_for slots number ≡ o → Ends slots number
    at None is = inl is
    at (Some next) is = let some = count_some slots number next is in absurd (omega (arith, some, within))
walk (suc steps) slots number within acyclic = at (waits_for slots number) refl
    (λ next fewer. walk steps (slice_set slots number None) next fewer
    (fewer_acyclic slots (slice_set slots number None) (emptied_fewer slots number) acyclic))
  where
    up : (first last : ℕ) → Leads (slice_set slots number None) first last → Leads slots first last
    up first last leads =
        (leads.0, chain_kept (slice_set slots number None) slots first last leads.0 (emptied_fewer slots number) leads.1)

    idle_up : (last : ℕ) → (last ≡ number → ⊥) → waits_for (slice_set slots number None) last ≡ None → waits_for slots last ≡ None
    idle_up last apart idle = sym (ap (λ w. option_map (λ on. on.session) w) (wait_other slots number last None apart)) ∙ idle

    behind : (next : ℕ) → waits_for slots number ≡ Some next → Ends (slice_set slots number None) next → Ends slots number
    behind next is (inl idle) = here (cases_eq next number)
      where
        here : (next ≡ number) ⊎ (next ≡ number → ⊥) → Ends slots number
        here (inl same) = absurd (acyclic number ([], is ∙ ap (λ n. Some n) same))
        here (inr apart) = inr (next, ([], is), idle_up next apart idle)
    behind next is (inr far) = here (cases_eq far.0 number)
      where
        leads : Leads slots number far.0
        leads = leads_on slots number next far.0 ([], is) (up next far.0 far.1)

        here : (far.0 ≡ number) ⊎ (far.0 ≡ number → ⊥) → Ends slots number
        here (inl same) = absurd (acyclic number (subst (λ n. Leads slots number n) same leads))
        here (inr apart) = inr (far.0, leads, idle_up far.0 apart far.2)

    at : (o : Option ℕ) → waits_for slots number ≡ o →
        ((next : ℕ) → waiting_count (slice_set slots number None) ≤ steps → Ends (slice_set slots number None) next) → Ends slots number
    at None is more = inl is
    at (Some next) is more =
        let fewer = count_emptied slots number next is in behind next is (more next (omega (arith, fewer, within)))

-- the waits of each session end
pub walk_ends : (slots : List (Option On)) → HasNoCycle slots → (number : ℕ) → Ends slots number
walk_ends slots acyclic number = walk (waiting_count slots) slots number (omega arith) acyclic

-- who waits for nobody has no wait
pub free_of : (slots : List (Option On)) (number : ℕ) → waits_for slots number ≡ None → wait_of slots number ≡ None
free_of slots number is = at (wait_of slots number) refl
  where
    at : (o : Option On) → wait_of slots number ≡ o → wait_of slots number ≡ None
    at None e = e
    at (Some on) e = absurd (let f = rw e at is in let g : Some on.session ≡ None = f in cc g)

-- the last of a chain has a transaction open
pub last_open : (world : World) → HasSoundWaits world → (first last : ℕ) → Leads world.waits first last → HasOpen world last
last_open world waits first last leads = by leads.0 first leads.1
  where
    one : (session : ℕ) → waits_for world.waits session ≡ Some last → HasOpen world last
    one session is = at (wait_of world.waits session) refl
      where
        at : (o : Option On) → wait_of world.waits session ≡ o → HasOpen world last
        at None e = absurd (let f = rw e at is in let g : None ≡ Some last = f in cc g)
        at (Some on) e =
            let f = rw e at is in
            let g : Some on.session ≡ Some last = f in
            let same : on.session ≡ last = cc in
            subst (λ n. HasOpen world n) same (waits.for_open session on e)

    by : (between : List ℕ) (session : ℕ) → IsChain world.waits session between last → HasOpen world last
    by [] session chain = one session chain
    by (next ∷ between) session chain = by between next chain.1
