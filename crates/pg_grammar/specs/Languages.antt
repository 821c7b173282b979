-- Grammars. A language relates the tokens before, the value that is read, and the tokens behind. Its first argument
-- says how many of the last tokens need not keep a limit; each combinator passes it on.
use Rattle.std.specs.Prelude.{◌≡◌, ◌<◌, ◌≤◌, ◌⊎◌, ℕ, zero, suc, List, ◌∷◌, length, Option, Some}
use Rattle.pg_grammar.specs.Limits.{Limit, most}

-- tokens of the type T, and values of the type V
abbrev pub Lang : Type 0 → Type 0 → Type 1
Lang T V = (Limit → ℕ) → List T → V → List T → Type 0

-- no token, and the value x
abbrev pub gives : {T V : Type 0} → V → Lang T V
gives x m s v z = (v ≡ x) × (z ≡ s)

-- the token t, and then L
abbrev pub token : {T V : Type 0} → T → Lang T V → Lang T V
token {T} t L m s v z = (y : List T) × (s ≡ t ∷ y) × L m y v z

-- the first token of s has the value x, and z is what is behind it
pub record Took {T X : Type 0} (f : T → Option X) (s : List T) (x : X) (z : List T) : Type 0 where
  pub head : T
  pub is : s ≡ head ∷ z
  pub value : f head ≡ Some x

-- one token, with the value that f gives it
abbrev pub one : {T X : Type 0} → (T → Option X) → Lang T X
one f m s x z = Took f s x z

-- L, and then what M makes of its value
abbrev pub bind : {T X V : Type 0} → Lang T X → (X → Lang T V) → Lang T V
bind {T} {X} L M m s v z = (x : X) × (y : List T) × L m s x y × M x m y v z

-- L or M
abbrev pub either : {T V : Type 0} → Lang T V → Lang T V → Lang T V
either L M m s v z = L m s v z ⊎ M m s v z

-- n steps, each from the value made so far
abbrev pub times : {T V : Type 0} → (V → Lang T V) → ℕ → V → Lang T V
times step zero acc = gives acc
times step (suc n) acc = bind (step acc) (times step n)

-- any number of steps
abbrev pub more : {T V : Type 0} → (V → Lang T V) → V → Lang T V
more step acc m s v z = (n : ℕ) × times step n acc m s v z

-- a rule that leads back to itself, at most n times one in another; i is what the rule goes by, as the depth
abbrev pub tie : {T V I : Type 0} → ((I → Lang T V) → I → Lang T V) → ℕ → I → Lang T V
tie G zero i m s v z = ⊥
tie G (suc n) i m s v z = tie G n i m s v z ⊎ G (tie G n) i m s v z

-- the same, any number of times
abbrev pub knot : {T V I : Type 0} → ((I → Lang T V) → I → Lang T V) → I → Lang T V
knot G i m s v z = (n : ℕ) × tie G n i m s v z

-- L, whose first token makes a count of h for the limit k
abbrev pub reaches : {T V : Type 0} → Limit → ℕ → Lang T V → Lang T V
reaches k h L m s v z = (m k < length s → h ≤ most k) × L m s v z
