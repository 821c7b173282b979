-- Texts that end where a byte of another kind stands.
use Rattle.std.proofs.Common.{arith, ◌≡◌, refl, sym, ◌∙◌, ap, ap₂, ℕ, zero, suc, ◌+◌, ◌*◌, ◌<◌, ◌%◌, ◌^◌, ◌==◌, Bool, true, false, true≢false, ◌&&◌, List, [], ◌∷◌, ◌++◌, decimal, take}
use Rattle.std.specs.List.{list_all}
use Rattle.std.proofs.lemmas.Fmt.{decimal_by_steps}
use Rattle.std.proofs.lemmas.List.Folds.{list_all-append}
use Rattle.std.proofs.lemmas.Bool.Decides.{Decides-eqb, not_from_Decides}

pub left_holds : (a b : Bool) → (a && b) ≡ true → a ≡ true
left_holds true b e = refl
left_holds false b e = e

pub right_holds : (a b : Bool) → (a && b) ≡ true → b ≡ true
right_holds true b e = e
right_holds false b e = absurd (true≢false (sym e))

pub both : {a b : Bool} → a ≡ true → b ≡ true → (a && b) ≡ true
both {b = b} l r = ap (λ z. z && b) l ∙ r

-- a byte is not of both kinds
pub differ : (p : ℕ → Bool) (x y : ℕ) → p x ≡ true → p y ≡ false → x ≡ y → ⊥
differ p x y here absent same = true≢false (sym here ∙ ap p same ∙ absent)

-- the text is at its end, or goes on with a byte of another kind
abbrev pub Stops : (ℕ → Bool) → List ℕ → Type 0
Stops p [] = Unit {0}
Stops p (c ∷ s) = p c ≡ false

-- bytes of one kind end where the first of another kind stands
pub fronts : (p : ℕ → Bool) (xs ys s t : List ℕ) → list_all p xs ≡ true → list_all p ys ≡ true → Stops p s →
    Stops p t → xs ++ s ≡ ys ++ t → (xs ≡ ys) × (s ≡ t)
fronts p [] [] s t xp yp ss ts e = (refl, e)
fronts p [] (y ∷ ys) [] t xp yp ss ts e = absurd (cc)
fronts p [] (y ∷ ys) (c ∷ s) t xp yp ss ts e =
    absurd (differ p y c (left_holds (p y) (list_all p ys) yp) ss (cc))
fronts p (x ∷ xs) [] s [] xp yp ss ts e = absurd (cc)
fronts p (x ∷ xs) [] s (c ∷ t) xp yp ss ts e =
    absurd (differ p x c (left_holds (p x) (list_all p xs) xp) ts (cc))
fronts p (x ∷ xs) (y ∷ ys) s t xp yp ss ts e =
    let rest = fronts p xs ys s t (right_holds (p x) (list_all p xs) xp) (right_holds (p y) (list_all p ys) yp) ss ts (cc) in
    (ap₂ (λ z zs. z ∷ zs) (cc) rest.0, rest.1)

-- the bytes of a number are of a kind that has all digits
pub decimal_all : (p : ℕ → Bool) → ((n : ℕ) → n < 10 → p (48 + n) ≡ true) → (n : ℕ) → n < 2 ^ 64 →
    list_all p (decimal n) ≡ true
decimal_all p digit n small =
    decimal_by_steps (λ n ds. list_all p ds ≡ true) (λ n low. both (digit n low) refl)
    (λ n ds high front. list_all-append p ds _ ∙ both front (both (digit (n % 10) (omega arith)) refl)) n small

-- a kind of bytes that has all digits
pub each_digit : (p : ℕ → Bool) → p 48 ≡ true → p 49 ≡ true → p 50 ≡ true → p 51 ≡ true → p 52 ≡ true →
    p 53 ≡ true → p 54 ≡ true → p 55 ≡ true → p 56 ≡ true → p 57 ≡ true → (n : ℕ) → n < 10 → p (48 + n) ≡ true
each_digit p a b c d e f g h i j zero low = a
each_digit p a b c d e f g h i j (suc zero) low = b
each_digit p a b c d e f g h i j (suc (suc zero)) low = c
each_digit p a b c d e f g h i j (suc (suc (suc zero))) low = d
each_digit p a b c d e f g h i j (suc (suc (suc (suc zero)))) low = e
each_digit p a b c d e f g h i j (suc (suc (suc (suc (suc zero))))) low = f
each_digit p a b c d e f g h i j (suc (suc (suc (suc (suc (suc zero)))))) low = g
each_digit p a b c d e f g h i j (suc (suc (suc (suc (suc (suc (suc zero))))))) low = h
each_digit p a b c d e f g h i j (suc (suc (suc (suc (suc (suc (suc (suc zero)))))))) low = i
each_digit p a b c d e f g h i j (suc (suc (suc (suc (suc (suc (suc (suc (suc zero))))))))) low = j
each_digit p a b c d e f g h i j (suc (suc (suc (suc (suc (suc (suc (suc (suc (suc n)))))))))) low = absurd (omega arith)

-- bytes as one number
abbrev pub packed : List ℕ → ℕ
packed [] = 0
packed (x ∷ xs) = x + 256 * packed xs

-- texts whose first bytes differ
pub apart : (n : ℕ) (x y : List ℕ) → x ≡ y → (packed (take n x) == packed (take n y)) ≡ false → ⊥
apart n x y e other =
    not_from_Decides (packed (take n x) == packed (take n y)) (Decides-eqb (packed (take n x)) (packed (take n y))) other
    (ap (λ bytes. packed (take n bytes)) e)
