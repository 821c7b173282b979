-- What bytes can spell at the front of a line, the law of the longest match, and what is read by it.
use Rattle.std.specs.Prelude.{◌≡◌, ◌⊎◌, ℕ, ◌+◌, ◌-◌, ◌*◌, true, not, if◌then◌else◌, ◌==◌, nat_le, List, [], ◌∷◌, ◌++◌, length, fold, Option, None, Some, Result, Ok, Err, position}
use Rattle.std.specs.List.{flat_map}
use Rattle.std.specs.Str.{str_to_ascii_lowercase}
use Rattle.pg_lexer.specs.declared.keyword.Keyword.{Keyword}
use Rattle.pg_lexer.specs.declared.sign.Sign.{Sign}
use Rattle.pg_lexer.specs.declared.token.BadPlace.{BadPlace}
use Rattle.pg_lexer.specs.declared.token.BadPlace.TheVariants as bad
use Rattle.pg_lexer.specs.declared.token.Token.{Token}
use Rattle.pg_lexer.specs.declared.token.Token.TheVariants as token
use Rattle.pg_lexer.specs.Bytes.{is_blank, is_printed, is_word, is_number, Starts}
use Rattle.pg_lexer.specs.Keywords.{keyword_of}
use Rattle.pg_lexer.specs.Signs.{sign_of}

-- the kinds of pieces that a line is cut into; a text that the line does not end is one of them
pub data Lexeme : Type 0 where
  word : Lexeme
  digits : Lexeme
  text : List ℕ → Lexeme
  unended : List ℕ → Lexeme
  mark : Sign → Lexeme

-- the value of a text as it is written: each `'` is doubled
unfoldable pub quoted_form : List ℕ → List ℕ
quoted_form value = flat_map (λ b. if b == 39 then 39 ∷ 39 ∷ [] else b ∷ []) value

-- the bytes that spell a lexeme; 39 is `'`
abbrev pub Spells : Lexeme → List ℕ → Type 0
Spells word bytes = is_word bytes ≡ true
Spells digits bytes = is_number bytes ≡ true
Spells (text value) bytes = bytes ≡ 39 ∷ (quoted_form value ++ 39 ∷ [])
Spells (unended value) bytes = bytes ≡ 39 ∷ quoted_form value
Spells (mark sign) bytes = sign_of bytes ≡ Some sign

-- the front spells the lexeme, and no longer front spells any lexeme
pub record IsLongest (lexeme : Lexeme) (front after : List ℕ) : Type 0 where
  pub spelled : Spells lexeme front
  pub longest : (other : Lexeme) (more rest : List ℕ) → after ≡ more ++ rest → Spells other (front ++ more) → more ≡ []

-- no front of the bytes spells a lexeme
abbrev pub NoLexeme : List ℕ → Type 0
NoLexeme bytes = (lexeme : Lexeme) (front after : List ℕ) → bytes ≡ front ++ after → Spells lexeme front → ⊥

-- the number that digits write
unfoldable pub number_of : List ℕ → ℕ
number_of ds = fold (λ n d. n * 10 + (d - 48)) 0 ds

-- a folded word is a keyword where it is reserved, and else a name
abbrev pub word_token : List ℕ → Option Keyword → Token
word_token name None = token.Name name
word_token name (Some keyword) = token.Keyword keyword

-- a text is a token where each byte of it is printed; else its first other byte is bad
abbrev pub text_token : ℕ → List ℕ → Option ℕ → Result Token BadPlace
text_token at value None = Ok (token.Quoted value)
text_token at value (Some before) = Err (bad.Byte (at + before))

-- the token that a lexeme at a place is, or what is bad about it
unfoldable pub meaning : ℕ → Lexeme → List ℕ → Result Token BadPlace
meaning at word front =
    let name = str_to_ascii_lowercase front in
    if nat_le (length front) 63 then Ok (word_token name (keyword_of name)) else Err (bad.Name at)
meaning at digits front =
    if nat_le (number_of front) 9223372036854775807 then Ok (token.Integer (number_of front)) else Err (bad.Literal at)
meaning at (text value) front =
    if nat_le (length value) 4096 then text_token at value (position (λ b. not (is_printed b)) front) else Err (bad.Literal at)
meaning at (unended value) front = Err (bad.Literal at)
meaning at (mark sign) front = Ok (token.Sign sign)

-- the bytes are the longest lexeme at their front and what comes after it, and the lexeme has this meaning
pub record IsCut (place : ℕ) (bytes front after : List ℕ) (outcome : Result Token BadPlace) : Type 0 where
  pub lexeme : Lexeme
  pub split : bytes ≡ front ++ after
  pub longest : IsLongest lexeme front after
  pub means : meaning place lexeme front ≡ outcome

-- the longest lexeme at the front is bad, or the first byte begins none
abbrev pub IsBad : ℕ → List ℕ → BadPlace → Type 0
IsBad place bytes fault =
    ((front : List ℕ) × (after : List ℕ) × IsCut place bytes front after (Err fault))
    ⊎ (Starts (λ b. not (is_blank b)) bytes × NoLexeme bytes × (fault ≡ bad.Byte place))
