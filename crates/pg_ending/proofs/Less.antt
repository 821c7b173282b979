-- The order of weights.
use Rattle.std.proofs.Common.{◌≡◌, ◌<◌, ◌+◌, ◌-◌, get_or, drop, length-drop, ◌⊎◌, ℕ, suc, Bool, true, false, ◌&&◌, ◌==◌, List, [], ◌∷◌, ◌++◌, length, refl, sym, ap, ◌∙◌, subst, inl, inr, arith, length-append}
use Rattle.std.specs.Prelude.{◌↔◌, nat_lt, IsTrue}
use Rattle.std.proofs.lemmas.List.{drop_more}
use Rattle.std.proofs.lemmas.Bool.{cases_Bool, ltb-true, lt-ltb, le-ltb, eqb-true, eq-eqb, and_parts, and_from, ne_eqb, cond-true, cond-false, false≢true}
use Rattle.pg_ending.specs.Weight.{IsLess, is_less}

-- lists that are compared have one length
pub less_length : (xs ys : List ℕ) → IsLess xs ys → length xs ≡ length ys
less_length [] ys h = absurd h
less_length (x ∷ xs) [] h = absurd h
less_length (x ∷ xs) (y ∷ ys) (inl h) = ap suc h.1
less_length (x ∷ xs) (y ∷ ys) (inr h) = ap suc (less_length xs ys h.1)

-- the test holds where the list is less
pub is_less_from : (xs ys : List ℕ) → IsLess xs ys → is_less xs ys ≡ true
is_less_from [] ys h = absurd h
is_less_from (x ∷ xs) [] h = absurd h
is_less_from (x ∷ xs) (y ∷ ys) (inl h) = cond-true (nat_lt x y) _ _ (lt-ltb x y h.0) ∙ eq-eqb (length xs) (length ys) h.1
is_less_from (x ∷ xs) (y ∷ ys) (inr h) =
    cond-false (nat_lt x y) _ _ (le-ltb x y (omega (arith, h.0))) ∙ and_from (x == y) (is_less xs ys) (eq-eqb x y h.0) (is_less_from xs ys h.1)

-- and only there
pub is_less_true : (xs ys : List ℕ) → is_less xs ys ≡ true → IsLess xs ys
is_less_true [] ys h = absurd (false≢true h)
is_less_true (x ∷ xs) [] h = absurd (false≢true h)
is_less_true (x ∷ xs) (y ∷ ys) h = go (cases_Bool (nat_lt x y)) (is_less_true xs ys)
  where
    go : ((nat_lt x y ≡ true) ⊎ (nat_lt x y ≡ false)) → (is_less xs ys ≡ true → IsLess xs ys) → IsLess (x ∷ xs)
        (y ∷ ys)
    go (inl t) ih = inl (ltb-true x y t, eqb-true (length xs) (length ys) (sym (cond-true (nat_lt x y) _ _ t) ∙ h))
    go (inr f) ih =
        let both = and_parts (x == y) (is_less xs ys) (sym (cond-false (nat_lt x y) _ _ f) ∙ h) in
        inr (eqb-true x y both.0, ih both.1)

-- the test decides the order
pub is_less_decides : (xs ys : List ℕ) → (is_less xs ys ≡ true) ↔ IsLess xs ys
is_less_decides xs ys = (is_less_true xs ys, is_less_from xs ys)

-- at the first number that differs, that number decides
pub is_less_there : (xs ys : List ℕ) (i : ℕ) → i < length xs → length xs ≡ length ys →
    (get_or xs i 0 ≡ get_or ys i 0 → ⊥) → is_less (drop i xs) (drop i ys) ≡ nat_lt (get_or xs i 0) (get_or ys i 0)
is_less_there xs ys i h l n = rw (dx, dy) (go (cases_Bool (nat_lt x y)))
  where
    x : ℕ
    x = get_or xs i 0

    y : ℕ
    y = get_or ys i 0

    dx : drop i xs ≡ x ∷ drop (i + 1) xs
    dx = drop_more xs i 0 h

    dy : drop i ys ≡ y ∷ drop (i + 1) ys
    dy = drop_more ys i 0 (omega (arith, l))

    same : length (drop (i + 1) xs) == length (drop (i + 1) ys) ≡ true
    same = eq-eqb _ _ (length-drop (i + 1) xs ∙ (ap (λ m. m - (i + 1)) l ∙ sym (length-drop (i + 1) ys)))

    go : ((nat_lt x y ≡ true) ⊎ (nat_lt x y ≡ false)) → is_less (x ∷ drop (i + 1) xs)
        (y ∷ drop (i + 1) ys) ≡ nat_lt x y
    go (inl t) = cond-true (nat_lt x y) _ _ t ∙ (same ∙ sym t)
    go (inr f) = cond-false (nat_lt x y) _ _ f ∙ (ap (λ b. b && is_less (drop (i + 1) xs) (drop (i + 1) ys)) (ne_eqb x y n) ∙ sym f)

-- a test that is this one decides the order
pub is_less_answer : (b : Bool) (xs ys : List ℕ) → b ≡ is_less xs ys → IsTrue b ↔ IsLess xs ys
is_less_answer b xs ys e = rw e (is_less_decides xs ys)
