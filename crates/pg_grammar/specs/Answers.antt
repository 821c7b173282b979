-- What a parse function answers, and the contract of all of them.
use Rattle.std.specs.Prelude.{◌≡◌, ◌<◌, ◌≤◌, ℕ, Bool, true, false, Result, Ok, Err, List, [], ◌∷◌, ◌++◌, length, Option, Some, None}
use Rattle.pg_grammar.specs.Limits.{Limit, nodes, sources}
use Rattle.pg_grammar.specs.Languages.{Lang}
use Rattle.pg_grammar.specs.declared.fault.Fault.{Fault}
use Rattle.pg_grammar.specs.declared.fault.Fault.TheVariants.{Syntax, Deep, Many, Memory}

-- the next token, if there is one
abbrev pub next : {T : Type 0} → List T → Option T
next [] = None
next (t ∷ z) = Some t

-- f gives the next token no value
pub record Lacks {T X : Type 0} (f : T → Option X) (xs : List T) : Type 0 where
  pub lacks : (t : T) (x : X) → next xs ≡ Some t → f t ≡ Some x → ⊥

-- the next token is not t
pub record Misses {T : Type 0} (t : T) (xs : List T) : Type 0 where
  pub misses : next xs ≡ Some t → ⊥

-- what was read, with the tokens behind it, or why nothing was
pub data Seen (T V : Type 0) : Type 0 where
  read : V → List T → Seen T V
  failed : Fault → Seen T V

-- xs begins with a word of L, v is its value and rest is behind it. No other way to read these tokens goes on with
-- the same next token: `follows` says which next token may stand behind a word, None being the end
pub record IsRead {T V : Type 0} (L : Lang T V) (follows : Option T → Bool) (xs : List T) (v : V) (rest : List T) : Type 0 where
  pub front : List T
  pub split : xs ≡ front ++ rest
  pub spelled : (m : Limit → ℕ) (z : List T) → L m (front ++ z) v z
  pub only : (m : Limit → ℕ) (z z' : List T) (v' : V) → next z ≡ next rest → L m (front ++ z) v' z' →
      follows (next z') ≡ true → (v' ≡ v) × (z' ≡ z)

-- the fault stands where n tokens are left: what is before begins a word of L, and one token more, or the end, does
-- not. Where a limit is the cause, that token would begin one but for the limit
pub record IsFault {T V : Type 0} (over : Option Limit) (L : Lang T V) (follows : Option T → Bool) (xs : List T) (n : ℕ) : Type 0 where
  pub front : List T
  pub rest : List T
  pub split : xs ≡ front ++ rest
  pub left : length rest ≡ n
  pub tail : List T
  pub value : V
  pub goes_on : (k : Limit) → over ≡ Some k → (t : T) × (next rest ≡ Some t) × (next tail ≡ Some t)
  pub completed : (m : Limit → ℕ) (z : List T) → ((k : Limit) → length (tail ++ z) ≤ m k) →
      L m (front ++ (tail ++ z)) value z
  pub none : (m : Limit → ℕ) (z z' : List T) (v' : V) → ((k : Limit) → over ≡ Some k → m k < length z) →
      next z ≡ next rest → L m (front ++ z) v' z' → follows (next z') ≡ true → ⊥

-- what is read is in the language, and longest; a fault stands at the first place where nothing could go on
abbrev pub Answers : {T V : Type 0} → Lang T V → (Option T → Bool) → List T → Seen T V → Type 0
Answers L follows xs (read v rest) = IsRead L follows xs v rest
Answers L follows xs (failed (Syntax n)) = IsFault None L follows xs n
Answers L follows xs (failed (Deep n)) = IsFault (Some nodes) L follows xs n
Answers L follows xs (failed (Many n)) = IsFault (Some sources) L follows xs n
Answers L follows xs (failed Memory) = Unit {0}

-- the contract of a parse function for L, on the tokens xs
pub record Reads {T V : Type 0} (L : Lang T V) (follows : Option T → Bool) (xs : List T) (o : Seen T V) : Type 0 where
  pub is : Answers L follows xs o

-- no token may stand behind
abbrev pub ends : {T : Type 0} → Option T → Bool
ends None = true
ends (Some t) = false

-- all of xs is a word of L that keeps the limits, and v is its only value
pub record IsWhole {T V : Type 0} (L : Lang T V) (xs : List T) (v : V) : Type 0 where
  pub spelled : L (λ k. 0) xs v []
  pub only : (m : Limit → ℕ) (v' : V) → L m xs v' [] → v' ≡ v

-- the answer for all of xs: its value, or where it stops to begin a word of L
abbrev pub WholeAnswers : {T V : Type 0} → Lang T V → List T → Result V Fault → Type 0
WholeAnswers L xs (Ok v) = IsWhole L xs v
WholeAnswers L xs (Err e) = Answers L ends xs (failed e)

pub record ReadsWhole {T V : Type 0} (L : Lang T V) (xs : List T) (o : Result V Fault) : Type 0 where
  pub is : WholeAnswers L xs o

-- what was read, if no token is left
abbrev pub whole_of : {T V : Type 0} → Seen T V → Result V Fault
whole_of (read v []) = Ok v
whole_of (read v (t ∷ rest)) = Err (Syntax (length (t ∷ rest)))
whole_of (failed e) = Err e
