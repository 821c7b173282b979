-- What the scanners answer: what stands at the front of bytes that begin with no white space.
use Rattle.std.specs.Prelude.{◌≡◌, ℕ, ◌<◌, ◌≤◌, Bool, not, ◌||◌, ◌==◌, List, [], ◌∷◌, ◌++◌, length, take, drop, Option, None, Some, Ok}
use Rattle.std.specs.Char.{is_ascii_digit}
use Rattle.std.specs.Option.{option_or}
use Rattle.pg_lexer.specs.declared.sign.Sign.{Sign}
use Rattle.pg_lexer.specs.declared.token.Found.{Found}
use Rattle.pg_lexer.specs.declared.token.Found.TheVariants as found
use Rattle.pg_lexer.specs.Bytes.{is_blank, begins_word, Starts}
use Rattle.pg_lexer.specs.Signs.{sign_of}
use Rattle.pg_lexer.specs.Lexemes.{IsCut, IsBad, quoted_form}

-- a token with its length, or what is bad
abbrev pub IsFound : ℕ → List ℕ → Found → Type 0
IsFound place bytes (found.Token token n) = (n ≤ length bytes) × IsCut place bytes (take n bytes) (drop n bytes) (Ok token)
IsFound place bytes (found.Bad fault) = IsBad place bytes fault

-- white space, words, numbers and texts begin otherwise
abbrev pub begins_no_other : ℕ → Bool
begins_no_other b = not (is_blank b || begins_word b || is_ascii_digit b || b == 39)

-- a sign with a length in bytes
abbrev pub with_length : ℕ → Option Sign → Option (Sign × ℕ)
with_length n None = None
with_length n (Some sign) = Some (sign, n)

-- the longest sign at the front, with its length
unfoldable pub longest_sign : List ℕ → Option (Sign × ℕ)
longest_sign [] = None
longest_sign (a ∷ []) = with_length 1 (sign_of (a ∷ []))
longest_sign (a ∷ b ∷ rest) = option_or (with_length 2 (sign_of (a ∷ b ∷ []))) (with_length 1 (sign_of (a ∷ [])))

-- in a text, the closing quote or the end of the line comes next
abbrev pub EndsText : List ℕ → Type 0
EndsText [] = Unit {0}
EndsText (b ∷ after) = (b ≡ 39) × (Starts (λ c. c == 39) after → ⊥)

-- the first n bytes write this byte of a text's value
pub record Writes (bytes : List ℕ) (byte n : ℕ) : Type 0 where
  pub some : 0 < n
  pub within : n ≤ length bytes
  pub written : bytes ≡ quoted_form (byte ∷ []) ++ drop n bytes

-- the bytes behind an opening quote are a text of this value and its closing quote, n bytes, with no quote behind
pub record IsEnded (bytes value : List ℕ) (n : ℕ) : Type 0 where
  pub within : n ≤ length bytes
  pub written : take n bytes ≡ quoted_form value ++ 39 ∷ []
  pub ended : Starts (λ b. b == 39) (drop n bytes) → ⊥

-- the bytes behind an opening quote never come to a closing one
abbrev pub IsUnended : List ℕ → Type 0
IsUnended bytes = (value : List ℕ) × (bytes ≡ quoted_form value)
