-- Lists: the longest front that passes a test, and two ways to cut one list.
use Rattle.std.proofs.Common.{◌≡◌, ℕ, suc, ◌+◌, Bool, true, false, List, [], ◌∷◌, ◌++◌, take, drop, ◌⊎◌, inl, inr, ⊎_elim, sym, refl, ◌∙◌, one-add}
use Rattle.std.specs.List.{list_all, prefix_len}
use Rattle.std.proofs.lemmas.Bool.{cases_Bool, and_left, and_right, cond-true, cond-false}

-- one more byte that passes
pub prefix_len_more : (p : ℕ → Bool) (x : ℕ) (xs : List ℕ) → p x ≡ true → prefix_len p (x ∷ xs) ≡ suc (prefix_len p xs)
prefix_len_more p x xs pass = cond-true (p x) (1 + prefix_len p xs) 0 pass ∙ one-add (prefix_len p xs)

-- a first byte that fails
pub prefix_len_none : (p : ℕ → Bool) (x : ℕ) (xs : List ℕ) → p x ≡ false → prefix_len p (x ∷ xs) ≡ 0
prefix_len_none p x xs fail = cond-false (p x) (1 + prefix_len p xs) 0 fail

-- the front passes
pub passes : (p : ℕ → Bool) (xs : List ℕ) → list_all p (take (prefix_len p xs) xs) ≡ true
passes p [] = refl
passes p (x ∷ xs) = ⊎_elim
    (λ pass. let at : prefix_len p (x ∷ xs) ≡ suc (prefix_len p xs) = prefix_len_more p x xs pass in rw (at, pass) (passes p xs))
    (λ fail. let at : prefix_len p (x ∷ xs) ≡ 0 = prefix_len_none p x xs fail in rw at)
    (cases_Bool (p x))

-- what comes behind it does not
pub stops : (p : ℕ → Bool) (xs : List ℕ) (c : ℕ) (rest : List ℕ) → drop (prefix_len p xs) xs ≡ c ∷ rest → p c ≡ false
stops p [] c rest e = cc
stops p (x ∷ xs) c rest e = ⊎_elim
    (λ pass. let at : prefix_len p (x ∷ xs) ≡ suc (prefix_len p xs) = prefix_len_more p x xs pass in stops p xs c rest (rw at at e))
    (λ fail. let at : prefix_len p (x ∷ xs) ≡ 0 = prefix_len_none p x xs fail in let same : x ∷ xs ≡ c ∷ rest = rw at at e in let head : x ≡ c = cc in rw (← head) fail)
    (cases_Bool (p x))

-- a list with a member that fails
pub fails : (p : ℕ → Bool) (xs : List ℕ) (c : ℕ) (rest : List ℕ) → p c ≡ false → list_all p (xs ++ c ∷ rest) ≡ false
fails p [] c rest fail = and_left (p c) (list_all p rest) fail
fails p (x ∷ xs) c rest fail = and_right (p x) (list_all p (xs ++ c ∷ rest)) (fails p xs c rest fail)

-- one list cut twice: one front is the beginning of the other
pub aligned : {A : Type 0} (xs ys us vs : List A) → xs ++ us ≡ ys ++ vs
    → ((more : List A) × (ys ≡ xs ++ more) × (us ≡ more ++ vs)) ⊎ ((more : List A) × (xs ≡ ys ++ more) × (vs ≡ more ++ us))
aligned [] ys us vs e = inl (ys, refl, e)
aligned (x ∷ xs) [] us vs e = inr (x ∷ xs, refl, sym e)
aligned (x ∷ xs) (y ∷ ys) us vs e =
    let head : x ≡ y = cc in
    let tail : xs ++ us ≡ ys ++ vs = cc in
    ⊎_elim
    (λ w. inl (w.0, (let first = w.1 in cc), w.2))
    (λ w. inr (w.0, (let first = w.1 in cc), w.2))
    (aligned xs ys us vs tail)
