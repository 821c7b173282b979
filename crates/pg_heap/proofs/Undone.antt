-- One version after another becomes dead, and then all of a transaction are.
use Rattle.std.proofs.Common.{◌≡◌, ◌≢◌, ◌+◌, ◌⊎◌, inl, inr, ◌||◌, ℕ, zero, suc, Bool, true, false, cond, List, [], ◌∷◌, Option, Some, None, length, nat_eq, option_map, option_and_then, slice_get, refl, ap, ap₂, sym, ◌∙◌, arith, eq-eqb, ne_eqb}
use Rattle.std.specs.Option.{option_map_or}
use Rattle.std.proofs.lemmas.Bool.{cases_eq}
use Rattle.pg_lists.specs.Numbered.{with_changed_nth_item}
use Rattle.pg_heap.specs.declared.slot.Slot.{Slot}
use Rattle.pg_heap.specs.Slots.{AreLinked, dead_slot, link_outside, predecessor_of, slot_of, slot_without, slots_without, successor_of, version_undone, without_predecessor, without_successor}
use Rattle.pg_heap.proofs.Lists.{changed_here, changed_other, same_items}

-- the version of a number once some are dead
get_without : (test : ℕ → Bool) (first number : ℕ) (slots : List Slot) (i : ℕ) → number ≡ first + i →
    slice_get (slots_without test first slots) i ≡ option_map (slot_without test number) (slice_get slots i)
get_without test first number [] i is = refl
get_without test first number (slot ∷ slots) zero is =
    let e : number ≡ first = omega (arith, is) in rw e refl
get_without test first number (slot ∷ slots) (suc i) is = get_without test (first + 1) number slots i (omega (arith, is))

pub slot_of_without : (test : ℕ → Bool) (slots : List Slot) (number : ℕ) →
    slot_of (slots_without test 1 slots) number ≡ option_map (slot_without test number) (slot_of slots number)
slot_of_without test slots zero = refl
slot_of_without test slots (suc i) = get_without test 1 (suc i) slots i (omega arith)

-- tests that agree leave the same
link_same : (p q : ℕ → Bool) → ((number : ℕ) → p number ≡ q number) → (link : Option ℕ) →
    link_outside p link ≡ link_outside q link
link_same p q same None = refl
link_same p q same (Some number) = rw (same number) refl

pub without_same : (p q : ℕ → Bool) → ((number : ℕ) → p number ≡ q number) → (first : ℕ) (slots : List Slot) →
    slots_without p first slots ≡ slots_without q first slots
without_same p q same first [] = refl
without_same p q same first (slot ∷ slots) =
    ap₂ (λ x xs. x ∷ xs)
    (rw (same first, link_same p q same slot.before, link_same p q same slot.after) refl)
    (without_same p q same (first + 1) slots)

-- where no version is meant, all stays
link_none : (p : ℕ → Bool) → ((number : ℕ) → p number ≡ false) → (link : Option ℕ) → link_outside p link ≡ link
link_none p none None = refl
link_none p none (Some number) = rw (none number) refl

pub without_none : (p : ℕ → Bool) → ((number : ℕ) → p number ≡ false) → (first : ℕ) (slots : List Slot) →
    slots_without p first slots ≡ slots
without_none p none first [] = refl
without_none p none first (slot ∷ slots) =
    ap₂ (λ x xs. x ∷ xs)
    (rw (none first, link_none p none slot.before, link_none p none slot.after) refl)
    (without_none p none (first + 1) slots)

-- a link that leads to a version
abbrev is_link : Option ℕ → ℕ → Bool
is_link link number = option_map_or (nat_eq number) link false

-- a version with one of its links ended, or as it was
abbrev clear_after : Bool → Slot → Slot
clear_after true slot = record slot { after = None }
clear_after false slot = slot

abbrev clear_before : Bool → Slot → Slot
clear_before true slot = record slot { before = None }
clear_before false slot = slot

-- a version that becomes dead, or as it was
abbrev clear_all : Bool → Slot → Slot
clear_all true slot = dead_slot slot
clear_all false slot = slot

same_slot : (o : Option Slot) → o ≡ option_map (λ slot. slot) o
same_slot None = refl
same_slot (Some slot) = refl

-- what one change leaves at each number
at_number : (change : Slot → Slot) (clear : Bool → Slot → Slot) → ((slot : Slot) → clear true slot ≡ change slot) →
    ((slot : Slot) → clear false slot ≡ slot) → (slots : List Slot) (number other : ℕ) →
    slot_of (with_changed_nth_item change slots number) other ≡ option_map (clear (nat_eq other number)) (slot_of slots other)
at_number change clear done kept slots number other = by_case (cases_eq other number)
  where
    changed : (o : Option Slot) → option_map change o ≡ option_map (clear true) o
    changed None = refl
    changed (Some slot) = ap Some (sym (done slot))

    unchanged : (o : Option Slot) → o ≡ option_map (clear false) o
    unchanged None = refl
    unchanged (Some slot) = ap Some (sym (kept slot))

    by_case : (other ≡ number) ⊎ (other ≡ number → ⊥) →
        slot_of (with_changed_nth_item change slots number) other ≡ option_map (clear (nat_eq other number)) (slot_of slots other)
    by_case (inl e) = rw (e, eq-eqb number number refl) (changed_here change slots number ∙ changed (slot_of slots number))
    by_case (inr apart) = rw (ne_eqb other number apart) (changed_other change slots number other apart ∙ unchanged (slot_of slots other))

after_at : (link : Option ℕ) (slots : List Slot) (other : ℕ) →
    slot_of (without_successor link slots) other ≡ option_map (clear_after (is_link link other)) (slot_of slots other)
after_at None slots other = same_slot (slot_of slots other)
after_at (Some number) slots other =
    at_number (λ slot. record slot { after = None }) clear_after (λ slot. refl) (λ slot. refl) slots number other

before_at : (link : Option ℕ) (slots : List Slot) (other : ℕ) →
    slot_of (without_predecessor link slots) other ≡ option_map (clear_before (is_link link other)) (slot_of slots other)
before_at None slots other = same_slot (slot_of slots other)
before_at (Some number) slots other =
    at_number (λ slot. record slot { before = None }) clear_before (λ slot. refl) (λ slot. refl) slots number other

-- a link that does not lead to a version does not lead there outside others
no_link : (p : ℕ → Bool) (theirs : Option ℕ) (m : ℕ) → theirs ≢ Some m → is_link (link_outside p theirs) m ≡ false
no_link p None m apart = refl
no_link p (Some j) m apart = at (p j)
  where
    at : (b : Bool) → is_link (cond b None (Some j)) m ≡ false
    at true = refl
    at false = ne_eqb m j (λ e. apart (ap Some (sym e)))

-- one of two links that go together ends with the version that it leads to
link_ends : (p q : ℕ → Bool) (n m : ℕ) → ((number : ℕ) → q number ≡ (p number || nat_eq number n)) → p m ≡ false →
    (mine theirs : Option ℕ) → (mine ≡ Some n → theirs ≡ Some m) → (theirs ≡ Some m → mine ≡ Some n) →
    cond (is_link (link_outside p theirs) m) None (link_outside p mine) ≡ link_outside q mine
link_ends p q n m more stays None theirs there back = at (is_link (link_outside p theirs) m)
  where
    none : Option ℕ
    none = None

    at : (b : Bool) → cond b none none ≡ none
    at true = refl
    at false = refl
link_ends p q n m more stays (Some k) theirs there back = by_case (cases_eq k n)
  where
    or_true : (b : Bool) → (b || true) ≡ true
    or_true true = refl
    or_true false = refl

    or_false : (b : Bool) → (b || false) ≡ b
    or_false true = refl
    or_false false = refl

    by_case : (k ≡ n) ⊎ (k ≡ n → ⊥) →
        cond (is_link (link_outside p theirs) m) None (link_outside p (Some k)) ≡ link_outside q (Some k)
    by_case (inl e) =
        rw (there (ap Some e), stays, eq-eqb m m refl, more k, eq-eqb k n e, or_true (p k)) refl
    by_case (inr apart) =
        rw (no_link p theirs m (λ is. apart (let s : Some k ≡ Some n = back is in cc s)), more k, ne_eqb k n apart, or_false (p k)) refl

-- the version at a number, where one more version becomes dead
slot_ends : (p z x y : Bool) (slot : Slot) (before_p after_p before_q after_q : Option ℕ) →
    (z ≡ false → p ≡ false → cond x None before_p ≡ before_q) → (z ≡ false → p ≡ false → cond y None after_p ≡ after_q) →
    clear_before x (clear_after y (clear_all z (cond p (dead_slot slot) (record slot { before = before_p; after = after_p }))))
    ≡ cond (p || z) (dead_slot slot) (record slot { before = before_q; after = after_q })
slot_ends true z x y slot bp apart bq aq befores afters = at x y z
  where
    at : (x y z : Bool) → clear_before x (clear_after y (clear_all z (dead_slot slot))) ≡ dead_slot slot
    at true true true = refl
    at true true false = refl
    at true false true = refl
    at true false false = refl
    at false true true = refl
    at false true false = refl
    at false false true = refl
    at false false false = refl
slot_ends false true x y slot bp apart bq aq befores afters = at x y
  where
    at : (x y : Bool) → clear_before x (clear_after y (dead_slot slot)) ≡ dead_slot slot
    at true true = refl
    at true false = refl
    at false true = refl
    at false false = refl
slot_ends false false x y slot bp apart bq aq befores afters =
    at x y ∙ ap₂ (λ b a. record slot { before = b; after = a }) (befores refl refl) (afters refl refl)
  where
    at : (x y : Bool) →
        clear_before x (clear_after y (record slot { before = bp; after = apart }))
        ≡ record slot { before = cond x None bp; after = cond y None apart }
    at true true = refl
    at true false = refl
    at false true = refl
    at false false = refl

-- one more version becomes dead
pub one_more : (p q : ℕ → Bool) (slots : List Slot) (n : ℕ) (slot : Slot) → slot_of slots n ≡ Some slot → p n ≡ false →
    ((number : ℕ) → q number ≡ (p number || nat_eq number n)) → AreLinked slots →
    version_undone (slots_without p 1 slots) n ≡ slots_without q 1 slots
one_more p q slots n slot is fresh more linked = same_items _ _ (λ i. at (suc i))
  where
    left : List Slot
    left = slots_without p 1 slots

    here : slot_of left n ≡ Some (record slot { before = link_outside p slot.before; after = link_outside p slot.after })
    here = slot_of_without p slots n ∙ rw (is, fresh) refl

    before : predecessor_of left n ≡ link_outside p slot.before
    before = ap (λ o. option_and_then (λ s. s.before) o) here

    after : successor_of left n ≡ link_outside p slot.after
    after = ap (λ o. option_and_then (λ s. s.after) o) here

    steps : (m : ℕ) → slot_of (version_undone left n) m
        ≡ option_map (clear_before (is_link (link_outside p slot.after) m))
        (option_map (clear_after (is_link (link_outside p slot.before) m))
        (option_map (clear_all (nat_eq m n)) (option_map (slot_without p m) (slot_of slots m))))
    steps m =
        rw (before, after)
        (before_at (link_outside p slot.after) (without_successor (link_outside p slot.before) (with_changed_nth_item dead_slot left n)) m
        ∙ ap (λ o. option_map (clear_before (is_link (link_outside p slot.after) m)) o)
        (after_at (link_outside p slot.before) (with_changed_nth_item dead_slot left n) m
        ∙ ap (λ o. option_map (clear_after (is_link (link_outside p slot.before) m)) o)
        (at_number dead_slot clear_all (λ s. refl) (λ s. refl) left n m
        ∙ ap (λ o. option_map (clear_all (nat_eq m n)) o) (slot_of_without p slots m))))

    pred : (m : ℕ) (s : Slot) → slot_of slots m ≡ Some s → predecessor_of slots m ≡ s.before
    pred m s there = ap (λ o. option_and_then (λ x. x.before) o) there

    succ : (m : ℕ) (s : Slot) → slot_of slots m ≡ Some s → successor_of slots m ≡ s.after
    succ m s there = ap (λ o. option_and_then (λ x. x.after) o) there

    back_of : (m : ℕ) (s : Slot) → slot_of slots m ≡ Some s → s.before ≡ Some n → slot.after ≡ Some m
    back_of m s there e = sym (succ n slot is) ∙ linked.forth n m (pred m s there ∙ e)

    forth_of : (m : ℕ) (s : Slot) → slot_of slots m ≡ Some s → slot.after ≡ Some m → s.before ≡ Some n
    forth_of m s there e = sym (pred m s there) ∙ linked.back n m (succ n slot is ∙ e)

    after_of : (m : ℕ) (s : Slot) → slot_of slots m ≡ Some s → s.after ≡ Some n → slot.before ≡ Some m
    after_of m s there e = sym (pred n slot is) ∙ linked.back m n (succ m s there ∙ e)

    before_of : (m : ℕ) (s : Slot) → slot_of slots m ≡ Some s → slot.before ≡ Some m → s.after ≡ Some n
    before_of m s there e = sym (succ m s there) ∙ linked.forth m n (pred n slot is ∙ e)

    read : (m : ℕ) (o : Option Slot) → slot_of slots m ≡ o →
        option_map (clear_before (is_link (link_outside p slot.after) m))
        (option_map (clear_after (is_link (link_outside p slot.before) m))
        (option_map (clear_all (nat_eq m n)) (option_map (slot_without p m) o)))
        ≡ option_map (slot_without q m) o
    read m None there = refl
    read m (Some s) there =
        rw (more m)
        (ap Some (slot_ends (p m) (nat_eq m n) (is_link (link_outside p slot.after) m) (is_link (link_outside p slot.before) m) s
        (link_outside p s.before) (link_outside p s.after) (link_outside q s.before) (link_outside q s.after)
        (λ apart stays. link_ends p q n m more stays s.before slot.after (back_of m s there) (forth_of m s there))
        (λ apart stays. link_ends p q n m more stays s.after slot.before (after_of m s there) (before_of m s there))))

    at : (m : ℕ) → slot_of (version_undone left n) m ≡ slot_of (slots_without q 1 slots) m
    at m = steps m ∙ (read m (slot_of slots m) refl ∙ sym (slot_of_without q slots m))

-- the link of a version once the given ones are dead
link_left : (p : ℕ → Bool) (read : Option Slot → Option ℕ) → read None ≡ None → (m : ℕ) →
    ((slot : Slot) → read (Some (slot_without p m slot)) ≡ cond (p m) None (link_outside p (read (Some slot)))) →
    (o : Option Slot) → read (option_map (slot_without p m) o) ≡ cond (p m) None (link_outside p (read o))
link_left p read nothing m some None = rw nothing (at (p m))
  where
    none : Option ℕ
    none = None

    at : (b : Bool) → none ≡ cond b none none
    at true = refl
    at false = refl
link_left p read nothing m some (Some slot) = some slot

-- a link that is left was there before, and neither of its versions is among those
link_was : (p : ℕ → Bool) (b : Bool) (link : Option ℕ) (n : ℕ) → cond b None (link_outside p link) ≡ Some n →
    (b ≡ false) × ((link ≡ Some n) × (p n ≡ false))
link_was p true link n is = absurd (cc is)
link_was p false None n is = absurd (cc is)
link_was p false (Some k) n is = at (p k) refl is
  where
    at : (b : Bool) → p k ≡ b → cond b None (Some k) ≡ Some n → (false ≡ false) × ((Some k ≡ Some n) × (p n ≡ false))
    at true there is = absurd (cc is)
    at false there is = let e : k ≡ n = cc is in (refl, (is, rw (← e) there))

-- links still lead both ways
pub linked_without : (p : ℕ → Bool) (slots : List Slot) → AreLinked slots → AreLinked (slots_without p 1 slots)
linked_without p slots linked = record {
  back = λ first second is.
      let was = link_was p (p first) (successor_of slots first) second (sym (after first) ∙ is) in
      before second ∙ rw (was.1.1, linked.back first second was.1.0, was.0) refl;
  forth = λ first second is.
      let was = link_was p (p second) (predecessor_of slots second) first (sym (before second) ∙ is) in
      after first ∙ rw (was.1.1, linked.forth first second was.1.0, was.0) refl;
}
  where
    before_of : (m : ℕ) (slot : Slot) (b : Bool) →
        (cond b (dead_slot slot) (record slot { before = link_outside p slot.before; after = link_outside p slot.after })).before
        ≡ cond b None (link_outside p slot.before)
    before_of m slot true = refl
    before_of m slot false = refl

    after_of : (m : ℕ) (slot : Slot) (b : Bool) →
        (cond b (dead_slot slot) (record slot { before = link_outside p slot.before; after = link_outside p slot.after })).after
        ≡ cond b None (link_outside p slot.after)
    after_of m slot true = refl
    after_of m slot false = refl

    before : (m : ℕ) → predecessor_of (slots_without p 1 slots) m ≡ cond (p m) None (link_outside p (predecessor_of slots m))
    before m =
        ap (λ o. option_and_then (λ slot. slot.before) o) (slot_of_without p slots m)
        ∙ link_left p (λ o. option_and_then (λ slot. slot.before) o) refl m (λ slot. before_of m slot (p m)) (slot_of slots m)

    after : (m : ℕ) → successor_of (slots_without p 1 slots) m ≡ cond (p m) None (link_outside p (successor_of slots m))
    after m =
        ap (λ o. option_and_then (λ slot. slot.after) o) (slot_of_without p slots m)
        ∙ link_left p (λ o. option_and_then (λ slot. slot.after) o) refl m (λ slot. after_of m slot (p m)) (slot_of slots m)

-- no version more or less
pub length_without : (p : ℕ → Bool) (first : ℕ) (slots : List Slot) → length (slots_without p first slots) ≡ length slots
length_without p first [] = refl
length_without p first (slot ∷ slots) = ap suc (length_without p (first + 1) slots)
