-- The versions that a transaction wrote, from the last of them back.
use Rattle.std.proofs.Common.{◌≡◌, ◌<◌, ◌≤◌, ◌+◌, ◌-◌, ◌++◌, ◌⊎◌, inl, inr, ◌&&◌, ◌||◌, ℕ, zero, suc, Bool, true, false, cond, List, [], ◌∷◌, Option, Some, None, IfSome, length, nat_eq, nat_lt, option_map, unwrap_or, slice_get, refl, ap, sym, ◌∙◌, arith, eq-eqb, ne_eqb, lt-ltb, le-ltb, length-append, add-one}
use Rattle.std.specs.Option.{option_map_or}
use Rattle.std.specs.Map.{lookup}
use Rattle.std.proofs.lemmas.Bool.{cases_eq, cases_order, eqb-true}
use Rattle.std.proofs.lemmas.Option.{slice_get_within}
use Rattle.pg_lists.specs.Numbered.{with_changed_nth_item}
use Rattle.pg_xacts.proofs.Lists.{get_append_other, length_changed_from_one}
use Rattle.pg_heap.specs.declared.slot.Slot.{Slot}
use Rattle.pg_heap.specs.Rows.{is_written_by}
use Rattle.pg_heap.specs.Slots.{AreLinked, dead_slot, is_number_written_by, link_outside, slot_of, slot_without, slots_without, version_undone, versions_undone}
use Rattle.pg_heap.specs.Written.{AreWritten, latest_by}
use Rattle.pg_heap.proofs.Lists.{get_before, get_behind, read_kept}
use Rattle.pg_heap.proofs.Undone.{length_without, one_more, slot_of_without, without_none, without_same}

-- the last version of a transaction is one of its versions
pub latest_written : (xact : ℕ) (slots : List Slot) (count n : ℕ) → latest_by xact slots count ≡ Some n →
    is_number_written_by xact slots n ≡ true
latest_written xact slots zero n is = absurd (cc is)
latest_written xact slots (suc before) n is =
    at (λ e. latest_written xact slots before n e) (is_number_written_by xact slots (suc before)) refl is
  where
    at : (latest_by xact slots before ≡ Some n → is_number_written_by xact slots n ≡ true) → (b : Bool) →
        is_number_written_by xact slots (suc before) ≡ b →
        cond b (Some (suc before)) (latest_by xact slots before) ≡ Some n → is_number_written_by xact slots n ≡ true
    at behind true wrote is = let e : suc before ≡ n = cc is in rw (← e) wrote
    at behind false wrote is = behind is

-- it is among those that were looked at
pub latest_within : (xact : ℕ) (slots : List Slot) (count : ℕ) → unwrap_or (latest_by xact slots count) 0 ≤ count
latest_within xact slots zero = omega arith
latest_within xact slots (suc before) =
    at (latest_within xact slots before) (is_number_written_by xact slots (suc before))
  where
    at : unwrap_or (latest_by xact slots before) 0 ≤ before → (b : Bool) →
        unwrap_or (cond b (Some (suc before)) (latest_by xact slots before)) 0 ≤ suc before
    at behind true = omega arith
    at behind false = omega (arith, behind)

-- a number that is at most another, and not that
below : (m before : ℕ) → m ≤ suc before → (m ≡ suc before → ⊥) → m ≤ before
below m before le apart = omega (arith, le, apart)

-- and no later one is the transaction's
pub latest_most : (xact : ℕ) (slots : List Slot) (m count : ℕ) → is_number_written_by xact slots m ≡ true → m ≤ count →
    m ≤ unwrap_or (latest_by xact slots count) 0
latest_most xact slots m zero wrote le = omega (arith, le)
latest_most xact slots m (suc before) wrote le =
    at (λ less. latest_most xact slots m before wrote less) (is_number_written_by xact slots (suc before)) refl
  where
    at : (m ≤ before → m ≤ unwrap_or (latest_by xact slots before) 0) → (b : Bool) →
        is_number_written_by xact slots (suc before) ≡ b →
        m ≤ unwrap_or (cond b (Some (suc before)) (latest_by xact slots before)) 0
    at behind true there = omega (arith, le)
    at behind false there = behind (by_case (cases_eq m (suc before)))
      where
        by_case : (m ≡ suc before) ⊎ (m ≡ suc before → ⊥) → m ≤ before
        by_case (inl e) = absurd (cc (wrote, e, there))
        by_case (inr apart) = below m before le apart

-- the versions of a transaction with greater numbers than one
abbrev pub is_above : ℕ → List Slot → ℕ → ℕ → Bool
is_above xact slots floor number = is_number_written_by xact slots number && nat_lt floor number

-- a version that a transaction wrote was drawn
pub written_slot : (xact : ℕ) (slots : List Slot) (n : ℕ) → is_number_written_by xact slots n ≡ true →
    (slot : Slot) × (slot_of slots n ≡ Some slot)
written_slot xact slots n wrote = at (slot_of slots n) refl wrote
  where
    at : (o : Option Slot) → slot_of slots n ≡ o → option_map_or (λ slot. is_written_by xact slot.version) o false ≡ true →
        (slot : Slot) × (slot_of slots n ≡ Some slot)
    at None is wrote = absurd (cc wrote)
    at (Some slot) is wrote = (slot, is)

-- and has a number up to their count, from 1
pub written_within : (xact : ℕ) (slots : List Slot) (n : ℕ) → is_number_written_by xact slots n ≡ true →
    (0 < n) × (n ≤ length slots)
written_within xact slots zero wrote = absurd (cc wrote)
written_within xact slots (suc before) wrote =
    let slot = written_slot xact slots (suc before) wrote in
    let h = slice_get_within slots before slot.0 slot.1 in (omega arith, omega (arith, h))

-- how far the versions of a transaction are dead, from the last of them back
pub record AreBuried (xact : ℕ) (old slots : List Slot) (next : Option ℕ) : Type 0 where
  pub dead : slots ≡ slots_without (is_above xact old (unwrap_or next 0)) 1 old
  pub written : IfSome next (λ n. is_number_written_by xact old n ≡ true)

-- at first none is
pub buried_none : (xact : ℕ) (slots : List Slot) (next : Option ℕ) → next ≡ latest_by xact slots (length slots) →
    AreBuried xact slots slots next
buried_none xact slots next is = record {
  dead = sym (without_none (is_above xact slots (unwrap_or next 0)) none 1 slots);
  written = wrote next is;
}
  where
    wrote : (next : Option ℕ) → next ≡ latest_by xact slots (length slots) →
        IfSome next (λ n. is_number_written_by xact slots n ≡ true)
    wrote None is = tt
    wrote (Some n) is = latest_written xact slots (length slots) n (sym is)

    at : (number : ℕ) (b : Bool) → is_number_written_by xact slots number ≡ b → (b && nat_lt (unwrap_or next 0) number) ≡ false
    at number false there = refl
    at number true there =
        le-ltb (unwrap_or next 0) number
        (rw is (latest_most xact slots number (length slots) there (written_within xact slots number there).1))

    none : (number : ℕ) → is_above xact slots (unwrap_or next 0) number ≡ false
    none number = at number (is_number_written_by xact slots number) refl

-- at last all are
pub buried_all : (xact : ℕ) (old slots : List Slot) → AreBuried xact old slots None → slots ≡ versions_undone old xact
buried_all xact old slots buried =
    buried.dead ∙ without_same (is_above xact old 0) (is_number_written_by xact old) same 1 old
  where
    right : (b : Bool) → (b && true) ≡ b
    right true = refl
    right false = refl

    same : (number : ℕ) → is_above xact old 0 number ≡ is_number_written_by xact old number
    same zero = refl
    same (suc before) = rw (lt-ltb 0 (suc before) (omega arith)) (right (is_number_written_by xact old (suc before)))

-- one more is
pub buried_more : (xact : ℕ) (old slots : List Slot) (n : ℕ) (next : Option ℕ) → AreLinked old →
    AreBuried xact old slots (Some n) → next ≡ latest_by xact old (n - 1) →
    AreBuried xact old (version_undone slots n) next
buried_more xact old slots n next linked buried is = record {
  dead =
      rw buried.dead
      (one_more (is_above xact old n) (is_above xact old (unwrap_or next 0)) old n slot.0 slot.1 fresh more linked);
  written = wrote next is;
}
  where
    slot : (slot : Slot) × (slot_of old n ≡ Some slot)
    slot = written_slot xact old n buried.written

    within : (0 < n) × (n ≤ length old)
    within = written_within xact old n buried.written

    wrote : (next : Option ℕ) → next ≡ latest_by xact old (n - 1) → IfSome next (λ n. is_number_written_by xact old n ≡ true)
    wrote None is = tt
    wrote (Some k) is = latest_written xact old (n - 1) k (sym is)

    and_false : (b : Bool) → (b && false) ≡ false
    and_false true = refl
    and_false false = refl

    or_false : (b : Bool) → (b || false) ≡ b
    or_false true = refl
    or_false false = refl

    or_true : (b : Bool) → (b || true) ≡ true
    or_true true = refl
    or_true false = refl

    fresh : is_above xact old n n ≡ false
    fresh = rw (le-ltb n n (omega arith)) (and_false (is_number_written_by xact old n))

    less : unwrap_or next 0 < n
    less = let h = latest_within xact old (n - 1) in let w = within.0 in rw is (omega (arith, h, w))

    below_it : (number : ℕ) → number < n → (b : Bool) → is_number_written_by xact old number ≡ b →
        (b && nat_lt (unwrap_or next 0) number) ≡ false
    below_it number lt false there = refl
    below_it number lt true there =
        le-ltb (unwrap_or next 0) number (rw is (latest_most xact old number (n - 1) there (omega (arith, lt))))

    more : (number : ℕ) → is_above xact old (unwrap_or next 0) number ≡ (is_above xact old n number || nat_eq number n)
    more number = at (cases_order number n)
      where
        at : (number ≡ n) ⊎ ((number < n) ⊎ (n < number)) →
            is_above xact old (unwrap_or next 0) number ≡ (is_above xact old n number || nat_eq number n)
        at (inl e) =
            rw (e, buried.written, lt-ltb (unwrap_or next 0) n less, eq-eqb n n refl) (sym (or_true (nat_lt n n)))
        at (inr (inl lt)) =
            rw (below_it number lt (is_number_written_by xact old number) refl, le-ltb n number (omega (arith, lt)), ne_eqb number n (λ e. omega (arith, e, lt)), and_false (is_number_written_by xact old number))
            refl
        at (inr (inr gt)) =
            rw (lt-ltb n number gt, lt-ltb (unwrap_or next 0) number (let h = less in omega (arith, h, gt)), ne_eqb number n (λ e. omega (arith, e, gt)))
            (sym (or_false (is_number_written_by xact old number && true)))

-- where the same versions are the same transactions', so are the last of them
latest_same : (xact : ℕ) (slots more : List Slot) (count : ℕ) →
    ((m : ℕ) → m ≤ count → is_number_written_by xact more m ≡ is_number_written_by xact slots m) →
    latest_by xact more count ≡ latest_by xact slots count
latest_same xact slots more zero same = refl
latest_same xact slots more (suc before) same =
    rw (same (suc before) (omega arith), latest_same xact slots more before (λ m le. same m (omega (arith, le)))) refl

-- what each transaction wrote stays known, where the versions stay the same transactions'
pub written_by : (slots more : List Slot) (earlier : List (Option ℕ)) (last : List (ℕ × ℕ)) →
    length more ≡ length slots →
    ((xact m : ℕ) → is_number_written_by xact more m ≡ is_number_written_by xact slots m) →
    AreWritten slots earlier last → AreWritten more earlier last
written_by slots more earlier last count same written = record {
  count = written.count ∙ sym count;
  last_of = λ xact. written.last_of xact ∙ (sym (latest_same xact slots more (length slots) (λ m le. same xact m)) ∙ ap (latest_by xact more) (sym count));
  earlier_of = λ xact before wrote.
      written.earlier_of xact before (sym (same xact (suc before)) ∙ wrote)
      ∙ ap Some (sym (latest_same xact slots more before (λ m le. same xact m)));
}

-- so it does by a change of one
pub written_changed : (change : Slot → Slot) (slots : List Slot) (number : ℕ) (earlier : List (Option ℕ)) (last : List (ℕ × ℕ)) →
    ((slot : Slot) → (change slot).version ≡ slot.version) → AreWritten slots earlier last →
    AreWritten (with_changed_nth_item change slots number) earlier last
written_changed change slots number earlier last versions written =
    written_by slots (with_changed_nth_item change slots number) earlier last (length_changed_from_one change slots number)
    (λ xact m. read_kept (λ o. option_map_or (λ slot. is_written_by xact slot.version) o false) change slots number m (same xact)) written
  where
    same : (xact : ℕ) (o : Option Slot) →
        option_map_or (λ slot. is_written_by xact slot.version) (option_map change o) false
        ≡ option_map_or (λ slot. is_written_by xact slot.version) o false
    same xact None = refl
    same xact (Some slot) = rw (versions slot) refl

-- who wrote the versions in front of the one that is placed
placed_before : (slots : List Slot) (slot : Slot) (xact m : ℕ) → m ≤ length slots →
    is_number_written_by xact (slots ++ slot ∷ []) m ≡ is_number_written_by xact slots m
placed_before slots slot xact zero le = refl
placed_before slots slot xact (suc i) le =
    ap (λ o. option_map_or (λ slot. is_written_by xact slot.version) o false)
    (get_append_other slots slot i (λ e. omega (arith, e, le)))

-- one more version is placed
pub written_placed : (slots : List Slot) (slot : Slot) (earlier : List (Option ℕ)) (last more : List (ℕ × ℕ)) →
    AreWritten slots earlier last →
    ((xact : ℕ) → lookup (nat_eq xact) more ≡ cond (nat_eq slot.version.writer xact) (Some (length slots + 1)) (lookup (nat_eq xact) last)) →
    AreWritten (slots ++ slot ∷ []) (earlier ++ lookup (nat_eq slot.version.writer) last ∷ []) more
written_placed slots slot earlier last more written puts = record {
  count = let h = written.count in let l = length-append slots (slot ∷ []) in let e = length-append earlier (lookup (nat_eq slot.version.writer) last ∷ []) in omega (arith, h, l, e);
  last_of = λ xact. rw (length_more, here xact, ← add-one (length slots)) (puts xact ∙ ap (λ rest. cond (nat_eq slot.version.writer xact) (Some (length slots + 1)) rest) (written.last_of xact ∙ sym (front xact (length slots) (omega arith))));
  earlier_of = λ xact before wrote. earlier_at xact before wrote (cases_eq before (length slots));
}
  where
    length_more : length (slots ++ slot ∷ []) ≡ suc (length slots)
    length_more = let l = length-append slots (slot ∷ []) in omega (arith, l)

    here : (xact : ℕ) → is_number_written_by xact (slots ++ slot ∷ []) (suc (length slots)) ≡ nat_eq slot.version.writer xact
    here xact = ap (λ o. option_map_or (λ slot. is_written_by xact slot.version) o false) (get_behind slots slot)

    front : (xact count : ℕ) → count ≤ length slots → latest_by xact (slots ++ slot ∷ []) count ≡ latest_by xact slots count
    front xact count le = latest_same xact slots (slots ++ slot ∷ []) count (λ m less. placed_before slots slot xact m (omega (arith, less, le)))

    earlier_at : (xact before : ℕ) → is_number_written_by xact (slots ++ slot ∷ []) (suc before) ≡ true →
        (before ≡ length slots) ⊎ (before ≡ length slots → ⊥) →
        slice_get (earlier ++ lookup (nat_eq slot.version.writer) last ∷ []) before ≡ Some (latest_by xact (slots ++ slot ∷ []) before)
    earlier_at xact before wrote (inl e) =
        let w = eqb-true slot.version.writer xact (sym (here xact) ∙ (ap (λ n. is_number_written_by xact (slots ++ slot ∷ []) (suc n)) (sym e) ∙ wrote)) in
        rw (e, front xact (length slots) (omega arith), ← w)
        (ap (slice_get (earlier ++ lookup (nat_eq slot.version.writer) last ∷ [])) (sym written.count)
        ∙ (get_behind earlier (lookup (nat_eq slot.version.writer) last) ∙ ap Some (written.last_of slot.version.writer)))
    earlier_at xact before wrote (inr apart) =
        let within = (written_within xact (slots ++ slot ∷ []) (suc before) wrote).1 in
        let le : suc before ≤ length slots = lower length_more within apart in
        let there = written.earlier_of xact before (sym (placed_before slots slot xact (suc before) le) ∙ wrote) in
        get_before earlier (lookup (nat_eq slot.version.writer) last ∷ []) before (latest_by xact slots before) there
        ∙ ap Some (sym (front xact before (omega (arith, le))))
      where
        lower : length (slots ++ slot ∷ []) ≡ suc (length slots) → suc before ≤ length (slots ++ slot ∷ []) →
            (before ≡ length slots → ⊥) → suc before ≤ length slots
        lower is within apart = omega (arith, is, within, apart)

-- what the version of a transaction leads to is the one that it wrote before
pub earlier_is : (xact : ℕ) (slots : List Slot) (earlier : List (Option ℕ)) (last : List (ℕ × ℕ)) (n : ℕ) (next : Option ℕ) →
    AreWritten slots earlier last → is_number_written_by xact slots n ≡ true → slice_get earlier (n - 1) ≡ Some next →
    next ≡ latest_by xact slots (n - 1)
earlier_is xact slots earlier last zero next written wrote is = absurd (cc wrote)
earlier_is xact slots earlier last (suc before) next written wrote is =
    let e : suc before - 1 ≡ before = omega arith in
    let there = written.earlier_of xact before wrote in
    let here : slice_get earlier before ≡ Some next = rw (← e) is in
    rw e (cc (there, here))

-- so the numbers fall
pub earlier_less : (xact : ℕ) (slots : List Slot) (n : ℕ) (next : Option ℕ) → is_number_written_by xact slots n ≡ true →
    next ≡ latest_by xact slots (n - 1) → unwrap_or next 0 < n
earlier_less xact slots n next wrote is =
    let within = written_within xact slots n wrote in
    let most = latest_within xact slots (n - 1) in rw is (omega (arith, within.0, most))

-- what each transaction wrote stays known when some versions are dead
pub written_without : (p : ℕ → Bool) (slots : List Slot) (earlier : List (Option ℕ)) (last : List (ℕ × ℕ)) →
    AreWritten slots earlier last → AreWritten (slots_without p 1 slots) earlier last
written_without p slots earlier last written =
    written_by slots (slots_without p 1 slots) earlier last (length_without p 1 slots) same written
  where
    writer : (xact m : ℕ) (slot : Slot) (b : Bool) →
        is_written_by xact (cond b (dead_slot slot) (record slot { before = link_outside p slot.before; after = link_outside p slot.after })).version
        ≡ is_written_by xact slot.version
    writer xact m slot true = refl
    writer xact m slot false = refl

    at : (xact m : ℕ) (o : Option Slot) →
        option_map_or (λ slot. is_written_by xact slot.version) (option_map (slot_without p m) o) false
        ≡ option_map_or (λ slot. is_written_by xact slot.version) o false
    at xact m None = refl
    at xact m (Some slot) = writer xact m slot (p m)

    same : (xact m : ℕ) → is_number_written_by xact (slots_without p 1 slots) m ≡ is_number_written_by xact slots m
    same xact m =
        ap (λ o. option_map_or (λ slot. is_written_by xact slot.version) o false) (slot_of_without p slots m)
        ∙ at xact m (slot_of slots m)
