-- What is left of the waits once some have ended.
use Rattle.std.proofs.Common.{◌≡◌, ◌≢◌, ◌&&◌, ◌⊎◌, inl, inr, ℕ, zero, suc, Bool, true, false, cond, nat_eq, List, [], ◌∷◌, Option, None, Some, option_map, refl, ap, sym, ◌∙◌, eq-eqb, ne_eqb}
use Rattle.std.proofs.lemmas.Bool.{cases_eq}
use Rattle.pg_xacts.specs.declared.on.On.{On}
use Rattle.pg_xacts.specs.declared.on.Until.TheVariants.{Transaction, Candidate}
use Rattle.pg_waits.specs.Slots.{no_waits, wait_of, waits_for}
use Rattle.pg_waits.specs.Effects.{is_for, is_for_candidate_of, slot_left, waits_ended, waits_left, waits_settled}
use Rattle.pg_waits.proofs.Lists.{wait_emptied, wait_other}

-- of so many sessions none waits
pub none_waits : (sessions session : ℕ) → wait_of (no_waits sessions) session ≡ None
none_waits zero session = refl
none_waits (suc sessions) zero = refl
none_waits (suc sessions) (suc session) = none_waits sessions session

-- each slot by itself
pub wait_left : (ends : On → Bool) (slots : List (Option On)) (session : ℕ) →
    wait_of (waits_left ends slots) session ≡ slot_left ends (wait_of slots session)
wait_left ends [] session = refl
wait_left ends (slot ∷ slots) zero = refl
wait_left ends (slot ∷ slots) (suc session) = wait_left ends slots session

pub wait_ended : (slots : List (Option On)) (session me : ℕ) → me ≢ session →
    wait_of (waits_ended slots session) me ≡ slot_left (is_for session) (wait_of slots me)
wait_ended slots session me apart =
    wait_other (waits_left (is_for session) slots) session me None apart ∙ wait_left (is_for session) slots me

pub wait_ended_own : (slots : List (Option On)) (session : ℕ) → wait_of (waits_ended slots session) session ≡ None
wait_ended_own slots session = wait_emptied (waits_left (is_for session) slots) session

-- what waits then waited before, and for the same
slot_fewer : (ends : On → Bool) (slot : Option On) (other : ℕ) →
    option_map (λ on. on.session) (slot_left ends slot) ≡ Some other → option_map (λ on. on.session) slot ≡ Some other
slot_fewer ends None other is = is
slot_fewer ends (Some on) other is = at (ends on) is
  where
    at : (b : Bool) → option_map (λ on. on.session) (cond b None (Some on)) ≡ Some other → Some on.session ≡ Some other
    at true is = absurd (cc is)
    at false is = is

pub left_fewer : (ends : On → Bool) (slots : List (Option On)) (session other : ℕ) →
    waits_for (waits_left ends slots) session ≡ Some other → waits_for slots session ≡ Some other
left_fewer ends slots session other is =
    slot_fewer ends (wait_of slots session) other
    (sym (ap (λ slot. option_map (λ on. on.session) slot) (wait_left ends slots session)) ∙ is)

pub ended_fewer : (slots : List (Option On)) (ended session other : ℕ) →
    waits_for (waits_ended slots ended) session ≡ Some other → waits_for slots session ≡ Some other
ended_fewer slots ended session other is = at (cases_eq session ended)
  where
    at : (session ≡ ended) ⊎ (session ≡ ended → ⊥) → waits_for slots session ≡ Some other
    at (inl same) =
        let none : waits_for (waits_ended slots ended) session ≡ None =
        rw same (ap (λ slot. option_map (λ on. on.session) slot) (wait_ended_own slots ended)) in
        let e : None ≡ Some other = sym none ∙ is in
        absurd (cc)
    at (inr apart) =
        slot_fewer (is_for ended) (wait_of slots session) other
        (sym (ap (λ slot. option_map (λ on. on.session) slot) (wait_ended slots ended session apart)) ∙ is)

-- nobody waits for who has ended
slot_never : (session : ℕ) (slot : Option On) →
    option_map (λ on. on.session) (slot_left (is_for session) slot) ≢ Some session
slot_never session None is = absurd (cc is)
slot_never session (Some on) is = at (nat_eq on.session session) refl is
  where
    at : (b : Bool) → nat_eq on.session session ≡ b → option_map (λ on. on.session) (cond b None (Some on)) ≡ Some session → ⊥
    at true test is = absurd (cc is)
    at false test is =
        let same : on.session ≡ session = cc is in
        let e : nat_eq on.session session ≡ true = eq-eqb on.session session same in
        absurd (cc)

pub nobody_waits : (slots : List (Option On)) (ended session : ℕ) → waits_for (waits_ended slots ended) session ≢ Some ended
nobody_waits slots ended session is = at (cases_eq session ended)
  where
    at : (session ≡ ended) ⊎ (session ≡ ended → ⊥) → ⊥
    at (inl same) =
        let none : waits_for (waits_ended slots ended) session ≡ None =
        rw same (ap (λ slot. option_map (λ on. on.session) slot) (wait_ended_own slots ended)) in
        let e : None ≡ Some ended = sym none ∙ is in
        absurd (cc)
    at (inr apart) =
        slot_never ended (wait_of slots session)
        (sym (ap (λ slot. option_map (λ on. on.session) slot) (wait_ended slots ended session apart)) ∙ is)

-- who waits for another one goes on waiting
slot_stays : (session : ℕ) (slot : Option On) → option_map (λ on. on.session) slot ≢ Some session →
    slot_left (is_for session) slot ≡ slot
slot_stays session None other = refl
slot_stays session (Some on) other =
    rw (ne_eqb on.session session (λ same. other (ap (λ x. Some x) same))) refl

pub ended_stays : (slots : List (Option On)) (ended session : ℕ) → session ≢ ended →
    waits_for slots session ≢ Some ended → wait_of (waits_ended slots ended) session ≡ wait_of slots session
ended_stays slots ended session apart other =
    wait_ended slots ended session apart ∙ slot_stays ended (wait_of slots session) other

candidate_stays : (session : ℕ) (slot : Option On) → option_map (λ on. on.session) slot ≢ Some session →
    slot_left (is_for_candidate_of session) slot ≡ slot
candidate_stays session None other = refl
candidate_stays session (Some on) other =
    rw (ne_eqb on.session session (λ same. other (ap (λ x. Some x) same))) refl

pub settled_stays : (slots : List (Option On)) (settled session : ℕ) → waits_for slots session ≢ Some settled →
    wait_of (waits_settled slots settled) session ≡ wait_of slots session
settled_stays slots settled session other =
    wait_left (is_for_candidate_of settled) slots session ∙ candidate_stays settled (wait_of slots session) other

-- who waits for a transaction waits on when a candidate is done with
and_false : (b : Bool) → (b && false) ≡ false
and_false true = refl
and_false false = refl

slot_transaction : (session other : ℕ) (slot : Option On) → slot ≡ Some (record { session = other; until = Transaction }) →
    slot_left (is_for_candidate_of session) slot ≡ slot
slot_transaction session other slot is = rw (is, and_false (nat_eq other session)) refl

pub transaction_stays : (slots : List (Option On)) (settled session other : ℕ) →
    wait_of slots session ≡ Some (record { session = other; until = Transaction }) →
    wait_of (waits_settled slots settled) session ≡ wait_of slots session
transaction_stays slots settled session other is =
    wait_left (is_for_candidate_of settled) slots session ∙ slot_transaction settled other (wait_of slots session) is

-- who waits for its candidate waits no more
pub candidate_ends : (slots : List (Option On)) (settled session : ℕ) →
    wait_of slots session ≡ Some (record { session = settled; until = Candidate }) →
    wait_of (waits_settled slots settled) session ≡ None
candidate_ends slots settled session is =
    wait_left (is_for_candidate_of settled) slots session
    ∙ ap (λ slot. slot_left (is_for_candidate_of settled) slot) is
    ∙ rw (eq-eqb settled settled refl) refl
