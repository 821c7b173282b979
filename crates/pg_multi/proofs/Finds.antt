-- The first element that passes a test, in a list that was filtered or put together.
use Rattle.std.proofs.Common.{◌≡◌, ◌++◌, Bool, true, false, cond, List, [], ◌∷◌, None, Some, filter, find, refl}

module _ {X : Type 0} (p q : X → Bool) where
  -- where the filter keeps all that pass
  pub find_kept : (xs : List X) → ((x : X) → p x ≡ true → q x ≡ true) → find p (filter q xs) ≡ find p xs
  find_kept [] kept = refl
  find_kept (x ∷ xs) kept = at (p x) (q x) refl refl (kept x) (find_kept xs kept)
    where
      at : (b c : Bool) → p x ≡ b → q x ≡ c → (p x ≡ true → q x ≡ true) → find p (filter q xs) ≡ find p xs →
          find p (cond (q x) (x ∷ filter q xs) (filter q xs)) ≡ cond (p x) (Some x) (find p xs)
      at true true is keeps given behind = rw (keeps, is) refl
      at false true is keeps given behind = rw (keeps, is) behind
      at true false is keeps given behind = let e = given is in absurd (cc)
      at false false is keeps given behind = rw (keeps, is) behind

  -- where the filter keeps none of them
  pub find_dropped : (xs : List X) → ((x : X) → p x ≡ true → q x ≡ false) → find p (filter q xs) ≡ None
  find_dropped [] dropped = refl
  find_dropped (x ∷ xs) dropped = at (p x) (q x) refl refl (dropped x) (find_dropped xs dropped)
    where
      at : (b c : Bool) → p x ≡ b → q x ≡ c → (p x ≡ true → q x ≡ false) → find p (filter q xs) ≡ None →
          find p (cond (q x) (x ∷ filter q xs) (filter q xs)) ≡ None
      at b false is keeps given behind = rw keeps behind
      at true true is keeps given behind = let e = given is in absurd (cc)
      at false true is keeps given behind = rw (keeps, is) behind

  -- where none passes at all
  pub find_none : (xs : List X) → find p xs ≡ None → find p (filter q xs) ≡ None
  find_none [] none = refl
  find_none (x ∷ xs) none = at (p x) (q x) refl refl none (λ behind. find_none xs behind)
    where
      at : (b c : Bool) → p x ≡ b → q x ≡ c → cond (p x) (Some x) (find p xs) ≡ None →
          (find p xs ≡ None → find p (filter q xs) ≡ None) →
          find p (cond (q x) (x ∷ filter q xs) (filter q xs)) ≡ None
      at true c is keeps some more = let e : Some x ≡ None = rw is at some in absurd (cc)
      at false true is keeps some more = rw (keeps, is) (more (rw is at some))
      at false false is keeps some more = rw keeps (more (rw is at some))

-- behind a list where none passes
pub find_behind : {X : Type 0} (p : X → Bool) (xs ys : List X) → find p xs ≡ None → find p (xs ++ ys) ≡ find p ys
find_behind p [] ys none = refl
find_behind {X} p (x ∷ xs) ys none = at (p x) refl none (λ behind. find_behind p xs ys behind)
  where
    at : (b : Bool) → p x ≡ b → cond (p x) (Some x) (find p xs) ≡ None →
        (find p xs ≡ None → find p (xs ++ ys) ≡ find p ys) →
        cond (p x) (Some x) (find p (xs ++ ys)) ≡ find p ys
    at true is some more = let e : Some x ≡ None = rw is at some in absurd (cc)
    at false is some more = rw is (more (rw is at some))

-- in front of a list, where one passes
pub find_front : {X : Type 0} (p : X → Bool) (xs ys : List X) (y : X) → find p xs ≡ Some y → find p (xs ++ ys) ≡ Some y
find_front p [] ys y some = absurd (cc some)
find_front {X} p (x ∷ xs) ys y some = at (p x) refl some (λ behind. find_front p xs ys y behind)
  where
    at : (b : Bool) → p x ≡ b → cond (p x) (Some x) (find p xs) ≡ Some y →
        (find p xs ≡ Some y → find p (xs ++ ys) ≡ Some y) →
        cond (p x) (Some x) (find p (xs ++ ys)) ≡ Some y
    at true is found more = rw is (rw is at found)
    at false is found more = rw is (more (rw is at found))

-- what is found passes
pub find_passes : {X : Type 0} (p : X → Bool) (xs : List X) (y : X) → find p xs ≡ Some y → p y ≡ true
find_passes p [] y some = absurd (cc some)
find_passes {X} p (x ∷ xs) y some = at (p x) refl some (λ behind. find_passes p xs y behind)
  where
    at : (b : Bool) → p x ≡ b → cond (p x) (Some x) (find p xs) ≡ Some y → (find p xs ≡ Some y → p y ≡ true) → p y ≡ true
    at true is found more =
        let e : Some x ≡ Some y = rw is at found in
        let same : x ≡ y = cc in
        rw (← same) is
    at false is found more = more (rw is at found)

-- where one is found that passes another test, that test finds one too
pub find_some : {X : Type 0} (p q : X → Bool) (xs : List X) (y : X) → find p xs ≡ Some y → q y ≡ true → find q xs ≡ None → ⊥
find_some p q [] y some passes none = absurd (cc some)
find_some {X} p q (x ∷ xs) y some passes none =
    at (p x) (q x) refl refl some none (λ some none. find_some p q xs y some passes none)
  where
    at : (b c : Bool) → p x ≡ b → q x ≡ c → cond (p x) (Some x) (find p xs) ≡ Some y →
        cond (q x) (Some x) (find q xs) ≡ None → (find p xs ≡ Some y → find q xs ≡ None → ⊥) → ⊥
    at b true is other found none more = let e : Some x ≡ None = rw other at none in absurd (cc)
    at false false is other found none more = more (rw is at found) (rw other at none)
    at true false is other found none more =
        let e : Some x ≡ Some y = rw is at found in
        let same : x ≡ y = cc in
        let fails : q y ≡ false = rw (← same) other in
        absurd (cc)

-- what is found among those that were kept was kept
pub find_was_kept : {X : Type 0} (p q : X → Bool) (xs : List X) (y : X) → find p (filter q xs) ≡ Some y → q y ≡ true
find_was_kept p q [] y some = absurd (cc some)
find_was_kept {X} p q (x ∷ xs) y some = at (p x) (q x) refl refl some (λ some. find_was_kept p q xs y some)
  where
    at : (b c : Bool) → p x ≡ b → q x ≡ c → find p (cond (q x) (x ∷ filter q xs) (filter q xs)) ≡ Some y →
        (find p (filter q xs) ≡ Some y → q y ≡ true) → q y ≡ true
    at b false is keeps found more = more (rw keeps at found)
    at true true is keeps found more =
        let e : Some x ≡ Some y = rw (keeps, is) at found in
        let same : x ≡ y = cc in
        rw (← same) keeps
    at false true is keeps found more = more (rw (keeps, is) at found)

-- the first stays the first where it is kept
pub find_stays : {X : Type 0} (p q : X → Bool) (xs : List X) (y : X) → find p xs ≡ Some y → q y ≡ true →
    find p (filter q xs) ≡ Some y
find_stays p q [] y some keeps = absurd (cc some)
find_stays {X} p q (x ∷ xs) y some keeps = at (p x) (q x) refl refl some (λ some. find_stays p q xs y some keeps)
  where
    at : (b c : Bool) → p x ≡ b → q x ≡ c → cond (p x) (Some x) (find p xs) ≡ Some y →
        (find p xs ≡ Some y → find p (filter q xs) ≡ Some y) →
        find p (cond (q x) (x ∷ filter q xs) (filter q xs)) ≡ Some y
    at true true is kept found more = rw (kept, is) (rw is at found)
    at false true is kept found more = rw (kept, is) (more (rw is at found))
    at false false is kept found more = rw kept (more (rw is at found))
    at true false is kept found more =
        let e : Some x ≡ Some y = rw is at found in
        let same : x ≡ y = cc in
        let fails : q y ≡ false = rw (← same) kept in
        absurd (cc)
