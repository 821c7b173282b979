-- Waits form no cycle: a wait that begins closes none unless there is a ring, and one that ends closes none.
use Rattle.std.proofs.Common.{◌≡◌, ◌≢◌, ◌<◌, ◌⊎◌, inl, inr, ℕ, Bool, List, [], ◌∷◌, length, Option, None, Some, option_map, refl, ap, subst, sym, ◌∙◌}
use Rattle.std.proofs.lemmas.Bool.{cases_eq}
use Rattle.pg_xacts.specs.declared.on.On.{On}
use Rattle.pg_waits.specs.Slots.{no_waits, waits_for}
use Rattle.pg_waits.specs.Chains.{IsChain, IsRing, Leads, ring_of}
use Rattle.pg_waits.specs.Cycles.{HasNoCycle}
use Rattle.pg_waits.specs.Effects.{wait_begun, waits_asked, waits_ended, waits_left}
use Rattle.pg_waits.proofs.Lists.{wait_other, wait_written}
use Rattle.pg_waits.proofs.Chains.{chain_kept, chain_waits, leads_on}
use Rattle.pg_waits.proofs.Rings.{none_leads, ring_sound}
use Rattle.pg_waits.proofs.Ends.{ended_fewer, left_fewer, none_waits}

-- none waits, so none leads anywhere
pub none_acyclic : (sessions : ℕ) → HasNoCycle (no_waits sessions)
none_acyclic sessions session leads =
    chain_waits (no_waits sessions) session session leads.0 leads.1
    (ap (λ slot. option_map (λ on. on.session) slot) (none_waits sessions session))

-- fewer waits form no cycle either
pub fewer_acyclic : (slots new : List (Option On)) →
    ((session other : ℕ) → waits_for new session ≡ Some other → waits_for slots session ≡ Some other) →
    HasNoCycle slots → HasNoCycle new
fewer_acyclic slots new fewer acyclic session leads =
    acyclic session (leads.0, chain_kept new slots session session leads.0 fewer leads.1)

pub left_acyclic : (ends : On → Bool) (slots : List (Option On)) → HasNoCycle slots → HasNoCycle (waits_left ends slots)
left_acyclic ends slots acyclic = fewer_acyclic slots (waits_left ends slots) (left_fewer ends slots) acyclic

pub ended_acyclic : (slots : List (Option On)) (session : ℕ) → HasNoCycle slots → HasNoCycle (waits_ended slots session)
ended_acyclic slots session acyclic = fewer_acyclic slots (waits_ended slots session) (ended_fewer slots session) acyclic

-- nobody waits for itself
pub never_itself : (slots : List (Option On)) (session : ℕ) → HasNoCycle slots → waits_for slots session ≢ Some session
never_itself slots session acyclic is = acyclic session ([], is)

module _ (slots : List (Option On)) (me : ℕ) (on : On) where
  -- the wait that begins, and the others
  pub begun_own : me < length slots → waits_for (wait_begun slots me on) me ≡ Some on.session
  begun_own within = ap (λ slot. option_map (λ on. on.session) slot) (wait_written slots me (Some on) within)

  pub begun_other : (session : ℕ) → session ≢ me → waits_for (wait_begun slots me on) session ≡ waits_for slots session
  begun_other session apart = ap (λ slot. option_map (λ on. on.session) slot) (wait_other slots me session (Some on) apart)

  begun_keeps : waits_for slots me ≡ None → (session other : ℕ) → waits_for slots session ≡ Some other →
      waits_for (wait_begun slots me on) session ≡ Some other
  begun_keeps idle session other is =
      begun_other session (λ same. let e : None ≡ Some other = sym idle ∙ subst (λ x. waits_for slots x ≡ Some other) same is in absurd (cc))
      ∙ is

  -- where there is a ring, the wait would close a cycle
  pub ring_is_cycle : (ring : List ℕ) → me < length slots → waits_for slots me ≡ None →
      IsRing slots me on.session ring → Leads (wait_begun slots me on) me me
  ring_is_cycle ring within idle is = (
    on.session ∷ is.0,
    (begun_own within, chain_kept slots (wait_begun slots me on) on.session me is.0 (begun_keeps idle) is.2),
  )

  -- a chain with the wait is one without it, or goes by it
  abbrev pub Reaches : ℕ → ℕ → Type 0
  Reaches first last = (first ≡ last) ⊎ Leads slots first last

  reaches_more : (first next last : ℕ) → waits_for slots first ≡ Some next → Reaches next last → Leads slots first last
  reaches_more first next last is (inl same) = ([], is ∙ ap (λ x. Some x) same)
  reaches_more first next last is (inr leads) = (next ∷ leads.0, (is, leads.1))

  pub begun_chain : me < length slots → (between : List ℕ) (first last : ℕ) →
      IsChain (wait_begun slots me on) first between last →
      Leads slots first last ⊎ (Reaches first me × Reaches on.session last)
  begun_chain within [] first last chain = at (cases_eq first me)
    where
      at : (first ≡ me) ⊎ (first ≡ me → ⊥) → Leads slots first last ⊎ (Reaches first me × Reaches on.session last)
      at (inl same) =
          let e : Some on.session ≡ Some last =
          sym (begun_own within) ∙ subst (λ x. waits_for (wait_begun slots me on) x ≡ Some last) same chain in
          let there : on.session ≡ last = cc in
          inr (inl same, inl there)
      at (inr apart) = inl ([], sym (begun_other first apart) ∙ chain)
  begun_chain within (next ∷ between) first last chain =
      at (cases_eq first me) (begun_chain within between next last chain.1)
    where
      at : (first ≡ me) ⊎ (first ≡ me → ⊥) → Leads slots next last ⊎ (Reaches next me × Reaches on.session last) →
          Leads slots first last ⊎ (Reaches first me × Reaches on.session last)
      at (inl same) rest =
          let e : Some on.session ≡ Some next =
          sym (begun_own within) ∙ subst (λ x. waits_for (wait_begun slots me on) x ≡ Some next) same chain.0 in
          let there : on.session ≡ next = cc in
          by_rest there rest
        where
          by_rest : on.session ≡ next → Leads slots next last ⊎ (Reaches next me × Reaches on.session last) →
              Leads slots first last ⊎ (Reaches first me × Reaches on.session last)
          by_rest there (inl leads) = inr (inl same, inr (subst (λ x. Leads slots x last) (sym there) leads))
          by_rest there (inr by) = inr (inl same, by.1)
      at (inr apart) (inl leads) =
          inl (reaches_more first next last (sym (begun_other first apart) ∙ chain.0) (inr leads))
      at (inr apart) (inr by) =
          inr (inr (reaches_more first next me (sym (begun_other first apart) ∙ chain.0) by.0), by.1)

  -- where there is no ring, it closes none
  pub begun_acyclic : HasNoCycle slots → me < length slots → me ≢ on.session → (Leads slots on.session me → ⊥) →
      HasNoCycle (wait_begun slots me on)
  begun_acyclic acyclic within apart free session leads =
      at (begun_chain within leads.0 session session leads.1)
    where
      by : Reaches on.session session → Reaches session me → ⊥
      by (inl there) (inl here) = apart (sym (there ∙ here))
      by (inl there) (inr leads) = free (subst (λ x. Leads slots x me) (sym there) leads)
      by (inr leads) (inl here) = free (subst (λ x. Leads slots on.session x) here leads)
      by (inr one) (inr two) = free (leads_on slots on.session session me one two)

      at : Leads slots session session ⊎ (Reaches session me × Reaches on.session session) → ⊥
      at (inl leads) = acyclic session leads
      at (inr round) = by round.1 round.0

  -- no ring is named exactly where the wait closes no cycle
  pub none_is_free : HasNoCycle slots → me < length slots → waits_for slots me ≡ None → me ≢ on.session →
      ring_of slots me on.session ≡ None → HasNoCycle (wait_begun slots me on)
  none_is_free acyclic within idle apart none = begun_acyclic acyclic within apart (none_leads slots me on.session idle none)

  pub free_is_none : me < length slots → waits_for slots me ≡ None → HasNoCycle (wait_begun slots me on) →
      ring_of slots me on.session ≡ None
  free_is_none within idle free = at (ring_of slots me on.session) refl
    where
      at : (o : Option (List ℕ)) → ring_of slots me on.session ≡ o → ring_of slots me on.session ≡ None
      at None is = is
      at (Some ring) is =
          absurd (free me (ring_is_cycle ring within idle (ring_sound slots me on.session ring is)))

  -- the waits after a session has asked form no cycle
  pub asked_acyclic : HasNoCycle slots → me < length slots → waits_for slots me ≡ None → me ≢ on.session →
      HasNoCycle (waits_asked slots me on)
  asked_acyclic acyclic within idle apart = at (ring_of slots me on.session) refl
    where
      at : (o : Option (List ℕ)) → ring_of slots me on.session ≡ o → HasNoCycle (waits_asked slots me on)
      at None is = rw is (none_is_free acyclic within idle apart is)
      at (Some ring) is = rw is acyclic
