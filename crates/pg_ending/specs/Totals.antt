-- Weights that are sums over a list of parties, which are numbered from 0. Each number of such a weight is
-- a function: it gives that number for a party, by the party's own number and record.
use Rattle.std.specs.Prelude.{◌+◌, ℕ, suc, List, [], ◌∷◌, map}

-- the numbers of one party
abbrev pub numbers_at : {X : Type 0} → List (ℕ → X → ℕ) → ℕ → X → List ℕ
numbers_at fs party x = map (λ f. f party x) fs

-- one number, summed over the parties, of which the first is `party`
abbrev pub total : {X : Type 0} → (ℕ → X → ℕ) → ℕ → List X → ℕ
total f party [] = 0
total f party (x ∷ xs) = f party x + total f (suc party) xs

-- each number, summed over all parties
abbrev pub totals : {X : Type 0} → List (ℕ → X → ℕ) → List X → List ℕ
totals fs xs = map (λ f. total f 0 xs) fs

-- two lists of parties are related party by party: R has the party's number, its record in xs and that in ys
abbrev pub EachParty : {X : Type 0} → (ℕ → X → X → Type 0) → ℕ → List X → List X → Type 0
EachParty R party [] [] = Unit {0}
EachParty R party [] (y ∷ ys) = ⊥
EachParty R party (x ∷ xs) [] = ⊥
EachParty R party (x ∷ xs) (y ∷ ys) = R party x y × EachParty R (suc party) xs ys
