-- Tokens are at most one word of a grammar, or have at most one fault.
use Rattle.std.proofs.Common.{◌≡◌, ◌<◌, ℕ, suc, List, [], ◌∷◌, ◌++◌, length, Option, Some, None, refl, sym, ap, ◌∙◌, subst, arith, append_assoc, length-append}
use Rattle.pg_grammar.specs.Limits.{Limit}
use Rattle.pg_grammar.specs.Languages.{Lang}
use Rattle.pg_grammar.specs.Answers.{next, IsFault, IsWhole, ends}

-- of two splits of a list the one with less behind has more in front
record Longer {T : Type 0} (front rest front' rest' : List T) : Type 0 where
  pub first : T
  pub more : List T
  pub longer : front ≡ front' ++ (first ∷ more)
  pub behind : rest' ≡ (first ∷ more) ++ rest

longer : {T : Type 0} (front rest front' rest' : List T) → front ++ rest ≡ front' ++ rest' →
    length rest < length rest' → Longer front rest front' rest'
longer [] rest [] rest' e l = let n = ap length e in absurd (omega (arith, n, l))
longer (x ∷ front) rest [] rest' e l = record { first = x; more = front; longer = refl; behind = sym e }
longer [] rest (y ∷ front') rest' e l =
    let n = ap length e ∙ ap suc (length-append front' rest') in absurd (omega (arith, n, l))
longer (x ∷ front) rest (y ∷ front') rest' e l =
    let head : x ≡ y = cc in
    let below : front ++ rest ≡ front' ++ rest' = cc in
    let q = longer front rest front' rest' below l in
    record {
      first = q.first;
      more = q.more;
      longer = ap (λ z. z ∷ front) head ∙ ap (λ zs. y ∷ zs) q.longer;
      behind = q.behind;
    }

-- two splits with as much behind are the same
pub same_split : {T : Type 0} (front rest front' rest' : List T) → front ++ rest ≡ front' ++ rest' →
    length rest ≡ length rest' → (front ≡ front') × (rest ≡ rest')
same_split [] rest [] rest' e l = (refl, e)
same_split (x ∷ front) rest [] rest' e l =
    let n = ap suc (sym (length-append front rest)) ∙ ap length e in absurd (omega (arith, n, l))
same_split [] rest (y ∷ front') rest' e l =
    let n = ap length e ∙ ap suc (length-append front' rest') in absurd (omega (arith, n, l))
same_split (x ∷ front) rest (y ∷ front') rest' e l =
    let head : x ≡ y = cc in
    let below : front ++ rest ≡ front' ++ rest' = cc in
    let q = same_split front rest front' rest' below l in
    (ap (λ z. z ∷ front) head ∙ ap (λ zs. y ∷ zs) q.0, q.1)

next_some : {T : Type 0} (xs : List T) (t : T) → next xs ≡ Some t → 0 < length xs
next_some [] t e = absurd (cc)
next_some (x ∷ xs) t e = omega arith

next_more : {T : Type 0} (xs ys : List T) (t : T) → next xs ≡ Some t → next (xs ++ ys) ≡ Some t
next_more [] ys t e = absurd (cc)
next_more (x ∷ xs) ys t e = e

pub one_value : {T V : Type 0} (L : Lang T V) (xs : List T) (v w : V) → IsWhole L xs v → IsWhole L xs w → v ≡ w
one_value L xs v w a b = b.only (λ k. 0) v a.spelled

-- what is a word of the grammar has no fault
pub no_fault : {T V : Type 0} (over : Option Limit) (L : Lang T V) (xs : List T) (v : V) (n : ℕ) → IsWhole L xs v →
    IsFault over L ends xs n → ⊥
no_fault {T} {V} over L xs v n a f =
    f.none (λ k. 0) f.rest [] v below refl (subst (λ ys. L (λ k. 0) ys v []) f.split a.spelled) refl
  where
    below : (k : Limit) → over ≡ Some k → 0 < length f.rest
    below k e = let g = f.goes_on k e in next_some f.rest g.0 g.1

-- no fault stands before another
before : {T V : Type 0} (over over' : Option Limit) (L : Lang T V) (xs : List T) (n n' : ℕ) →
    IsFault over L ends xs n → IsFault over' L ends xs n' → n < n' → ⊥
before {T} {V} over over' L xs n n' f g less =
    g.none (λ k. length whole) (q.first ∷ (q.more ++ whole)) [] f.value wide following word refl
  where
    whole : List T
    whole = f.tail ++ []

    q : Longer f.front f.rest g.front g.rest
    q = let l = f.left in let m = g.left in
        longer f.front f.rest g.front g.rest (sym f.split ∙ g.split) (omega (arith, l, m, less))

    wide : (k : Limit) → over' ≡ Some k → length whole < length (q.first ∷ (q.more ++ whole))
    wide k e = let n = length-append q.more whole in omega (arith, n)

    following : next (q.first ∷ (q.more ++ whole)) ≡ next g.rest
    following = sym (ap next q.behind)

    flat : f.front ++ whole ≡ g.front ++ (q.first ∷ (q.more ++ whole))
    flat = ap (λ ys. ys ++ whole) q.longer ∙ append_assoc g.front (q.first ∷ q.more) whole

    word : L (λ k. length whole) (g.front ++ (q.first ∷ (q.more ++ whole))) f.value []
    word = subst (λ ys. L (λ k. length whole) ys f.value []) flat
        (f.completed (λ k. length whole) [] (λ k. omega arith))

-- all faults of tokens stand at one place
pub one_place : {T V : Type 0} (over over' : Option Limit) (L : Lang T V) (xs : List T) (n n' : ℕ) →
    IsFault over L ends xs n → IsFault over' L ends xs n' → n ≡ n'
one_place over over' L xs n n' f g =
    let least : n < n' → ⊥ = before over over' L xs n n' f g in
    let most : n' < n → ⊥ = before over' over L xs n' n g f in
    grind (arith, least, most)

-- where a limit is the cause, the next token would go on but for the limit
pub no_other : {T V : Type 0} (k : Limit) (L : Lang T V) (xs : List T) (n n' : ℕ) → IsFault None L ends xs n →
    IsFault (Some k) L ends xs n' → ⊥
no_other {T} {V} k L xs n n' f g =
    f.none (λ j. length whole) whole [] g.value (λ j e. absurd (cc e)) following word refl
  where
    whole : List T
    whole = g.tail ++ []

    same : (f.front ≡ g.front) × (f.rest ≡ g.rest)
    same = same_split f.front f.rest g.front g.rest (sym f.split ∙ g.split)
        (f.left ∙ one_place None (Some k) L xs n n' f g ∙ sym g.left)

    following : next whole ≡ next f.rest
    following = let t = g.goes_on k refl in next_more g.tail [] t.0 t.2 ∙ sym t.1 ∙ sym (ap next same.1)

    word : L (λ j. length whole) (f.front ++ whole) g.value []
    word = subst (λ ys. L (λ j. length whole) (ys ++ whole) g.value []) (sym same.0)
        (g.completed (λ j. length whole) [] (λ j. omega arith))
