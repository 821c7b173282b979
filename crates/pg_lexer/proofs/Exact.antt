-- A decision: which lexeme a whole list of bytes spells.
use Rattle.std.proofs.Common.{◌≡◌, ℕ, Bool, true, false, cond, eqb, List, [], ◌∷◌, ◌++◌, Option, Some, None, ⊎_elim, sym, refl, ap, ◌∙◌, arith, append-nil}
use Rattle.std.specs.Prelude.{◌||◌, not}
use Rattle.std.specs.Char.{is_ascii_digit}
use Rattle.std.specs.List.{list_all}
use Rattle.std.specs.Map.{lookup}
use Rattle.std.specs.Option.{option_map}
use Rattle.std.specs.Str.{bytes_eq}
use Rattle.std.proofs.lemmas.Bool.{cases_Bool, and_parts, or_parts, not-true, not_from_false, eqb-true, cond-true, cond-false}
use Rattle.std.proofs.lemmas.Bool.Decides.{nat_tests}
use Rattle.std.proofs.lemmas.Slice.Eq.{bytes_eq-Decides}
use Rattle.pg_lexer.specs.declared.sign.Sign.{Sign}
use Rattle.pg_lexer.specs.Found.{begins_no_other}
use Rattle.pg_lexer.specs.Bytes.{is_blank, begins_word, in_word, Starts}
use Rattle.pg_lexer.specs.Signs.{signs, sign_of}
use Rattle.pg_lexer.specs.Lexemes.{Lexeme, word, digits, text, unended, mark, quoted_form, Spells}

-- what is found in a table of signs passes each test that its entries pass
looked_up : (p : List ℕ → Bool) (bytes : List ℕ) (sign : Sign) (table : List (List ℕ × Sign))
    → lookup (bytes_eq bytes) table ≡ Some sign → list_all (λ e. p e.0) table ≡ true → p bytes ≡ true
looked_up p bytes sign [] e all = cc
looked_up p bytes sign (entry ∷ table) e all =
    let parts = and_parts (p entry.0) (list_all (λ e. p e.0) table) all in
    ⊎_elim
    (λ yes. let same : bytes ≡ entry.0 = (bytes_eq-Decides bytes entry.0).0 yes in rw same parts.0)
    (λ no. let rest : lookup (bytes_eq bytes) table ≡ Some sign = rw no at e in looked_up p bytes sign table rest parts.1)
    (cases_Bool (bytes_eq bytes entry.0))

-- a sign has one or two bytes, and the first begins nothing else
is_sign_text : List ℕ → Bool
is_sign_text [] = false
is_sign_text (a ∷ []) = begins_no_other a
is_sign_text (a ∷ b ∷ []) = begins_no_other a
is_sign_text (a ∷ b ∷ c ∷ rest) = false

sign_shape : (bytes : List ℕ) (sign : Sign) → sign_of bytes ≡ Some sign → is_sign_text bytes ≡ true
unfolding sign_of signs is_sign_text
sign_shape bytes sign e = looked_up is_sign_text bytes sign signs e refl

-- three bytes are no sign
pub long_sign : (a b c : ℕ) (rest : List ℕ) → sign_of (a ∷ b ∷ c ∷ rest) ≡ None
unfolding is_sign_text
long_sign a b c rest = elim (sign_of (a ∷ b ∷ c ∷ rest)) as (λ o. sign_of (a ∷ b ∷ c ∷ rest) ≡ o → sign_of (a ∷ b ∷ c ∷ rest) ≡ None)
    [ None ↦ (λ e. e) | Some s ↦ (λ e. let shape = sign_shape _ s e in cc) ] refl

pub sign_begins : (a : ℕ) (rest : List ℕ) (sign : Sign) → sign_of (a ∷ rest) ≡ Some sign → begins_no_other a ≡ true
unfolding is_sign_text
sign_begins a [] sign e = sign_shape (a ∷ []) sign e
sign_begins a (b ∷ []) sign e = sign_shape (a ∷ b ∷ []) sign e
sign_begins a (b ∷ c ∷ rest) sign e = let shape = sign_shape (a ∷ b ∷ c ∷ rest) sign e in cc

pub no_empty_sign : (sign : Sign) → sign_of [] ≡ Some sign → ⊥
unfolding is_sign_text
no_empty_sign sign e = let shape = sign_shape [] sign e in cc

-- a digit begins no word
digit_no_word : (b : ℕ) → is_ascii_digit b ≡ true → begins_word b ≡ false
digit_no_word b digit = grind (arith, nat_tests)

word_shown : (b : ℕ) → begins_word b ≡ true → not (is_blank b) ≡ true
word_shown b letter = grind (arith, nat_tests)

digit_shown : (b : ℕ) → is_ascii_digit b ≡ true → not (is_blank b) ≡ true
digit_shown b digit = grind (arith, nat_tests)

-- a byte more of a text
push : ℕ → Lexeme → Lexeme
push b word = word
push b digits = digits
push b (text value) = text (b ∷ value)
push b (unended value) = unended (b ∷ value)
push b (mark sign) = mark sign

push_all : List ℕ → Lexeme → Lexeme
push_all [] lexeme = lexeme
push_all (b ∷ value) lexeme = push b (push_all value lexeme)

all_text : (value : List ℕ) → push_all value (text []) ≡ text value
unfolding push push_all
all_text [] = refl
all_text (b ∷ value) = rw (all_text value)

all_unended : (value : List ℕ) → push_all value (unended []) ≡ unended value
unfolding push push_all
all_unended [] = refl
all_unended (b ∷ value) = rw (all_unended value)

-- what the bytes behind an opening quote spell with it; `true` where one more quote has come
inside : Bool → List ℕ → Option Lexeme
inside false [] = Some (unended [])
inside true [] = Some (text [])
inside false (b ∷ bs) = cond (eqb b 39) (inside true bs) (option_map (push b) (inside false bs))
inside true (b ∷ bs) = cond (eqb b 39) (option_map (push 39) (inside false bs)) None

inside_quoted : (value behind : List ℕ) (found : Option Lexeme) → inside false behind ≡ found
    → inside false (quoted_form value ++ behind) ≡ option_map (push_all value) found
unfolding inside quoted_form push_all
inside_quoted [] behind None e = e
inside_quoted [] behind (Some l) e = e
inside_quoted (b ∷ value) behind found e =
    let rest = inside_quoted value behind found e in
    let joined : option_map (push b) (option_map (push_all value) found) ≡ option_map (push_all (b ∷ value)) found =
    elim found as (λ o. option_map (push b) (option_map (push_all value) o) ≡ option_map (push_all (b ∷ value)) o) [ None ↦ refl | Some l ↦ refl ] in
    ⊎_elim
    (λ quote. let same : b ≡ 39 = eqb-true b 39 quote in rw (cond-true (eqb b 39) (39 ∷ 39 ∷ []) (b ∷ []) quote) (ap (option_map (push 39)) rest ∙ ap (λ q. option_map (push q) (option_map (push_all value) found)) (sym same) ∙ joined))
    (λ other. rw (cond-false (eqb b 39) (39 ∷ 39 ∷ []) (b ∷ []) other) (cond-false (eqb b 39) _ _ other ∙ ap (option_map (push b)) rest ∙ joined))
    (cases_Bool (eqb b 39))

-- which lexeme these bytes spell, all of them
pub lexeme_of : List ℕ → Option Lexeme
lexeme_of [] = None
lexeme_of (b ∷ bs) =
    cond (begins_word b) (cond (list_all in_word bs) (Some word) None)
    (cond (is_ascii_digit b) (cond (list_all is_ascii_digit bs) (Some digits) None)
    (cond (eqb b 39) (inside false bs) (option_map mark (sign_of (b ∷ bs)))))

-- what begins a sign begins nothing else
pub others : (b : ℕ) → begins_no_other b ≡ true → (is_blank b ≡ false) × (begins_word b ≡ false) × (is_ascii_digit b ≡ false) × (eqb b 39 ≡ false)
others b other =
    let none = not-true _ other in
    let quote = or_parts (is_blank b || begins_word b || is_ascii_digit b) (eqb b 39) none in
    let digit = or_parts (is_blank b || begins_word b) (is_ascii_digit b) quote.0 in
    let letter = or_parts (is_blank b) (begins_word b) digit.0 in
    (letter.0, letter.1, digit.1, quote.1)

pub lexeme_of_sign : (b : ℕ) (bs : List ℕ) → begins_no_other b ≡ true → lexeme_of (b ∷ bs) ≡ option_map mark (sign_of (b ∷ bs))
unfolding lexeme_of
lexeme_of_sign b bs other =
    let apart = others b other in
    cond-false (begins_word b) _ _ apart.1 ∙ cond-false (is_ascii_digit b) _ _ apart.2 ∙ cond-false (eqb b 39) _ _ apart.3

pub lexeme_of_word : (b : ℕ) (bs : List ℕ) → begins_word b ≡ true → lexeme_of (b ∷ bs) ≡ cond (list_all in_word bs) (Some word) None
unfolding lexeme_of
lexeme_of_word b bs letter = cond-true (begins_word b) _ _ letter

pub lexeme_of_digits : (b : ℕ) (bs : List ℕ) → is_ascii_digit b ≡ true → lexeme_of (b ∷ bs) ≡ cond (list_all is_ascii_digit bs) (Some digits) None
unfolding lexeme_of
lexeme_of_digits b bs digit = cond-false (begins_word b) _ _ (digit_no_word b digit) ∙ cond-true (is_ascii_digit b) _ _ digit

pub lexeme_of_nothing : lexeme_of [] ≡ None
unfolding lexeme_of
lexeme_of_nothing = refl

pub lexeme_of_text : (value : List ℕ) → lexeme_of (39 ∷ (quoted_form value ++ 39 ∷ [])) ≡ Some (text value)
unfolding lexeme_of inside
lexeme_of_text value = inside_quoted value (39 ∷ []) (Some (text [])) refl ∙ ap Some (all_text value)

pub lexeme_of_unended : (value : List ℕ) → lexeme_of (39 ∷ quoted_form value) ≡ Some (unended value)
unfolding lexeme_of inside
lexeme_of_unended value =
    ap (inside false) (sym (append-nil (quoted_form value))) ∙ inside_quoted value [] (Some (unended [])) refl ∙ ap Some (all_unended value)

-- no lexeme begins with a text and goes on with another byte than a quote
pub lexeme_of_longer : (value : List ℕ) (c : ℕ) (rest : List ℕ) → eqb c 39 ≡ false → lexeme_of (39 ∷ (quoted_form value ++ 39 ∷ c ∷ rest)) ≡ None
unfolding lexeme_of inside
lexeme_of_longer value c rest other = inside_quoted value (39 ∷ c ∷ rest) None (cond-false (eqb c 39) _ _ other)

-- bytes that spell a lexeme spell it alone
pub exact : (lexeme : Lexeme) (bytes : List ℕ) → Spells lexeme bytes → lexeme_of bytes ≡ Some lexeme
unfolding lexeme_of
exact word [] spelled = cc
exact word (b ∷ bs) spelled =
    let parts = and_parts (begins_word b) (list_all in_word bs) spelled in
    lexeme_of_word b bs parts.0 ∙ cond-true (list_all in_word bs) _ _ parts.1
exact digits [] spelled = cc
exact digits (b ∷ bs) spelled =
    let parts = and_parts (is_ascii_digit b) (list_all is_ascii_digit bs) spelled in
    lexeme_of_digits b bs parts.0 ∙ cond-true (list_all is_ascii_digit bs) _ _ parts.1
exact (text value) bytes spelled = rw spelled (lexeme_of_text value)
exact (unended value) bytes spelled = rw spelled (lexeme_of_unended value)
exact (mark sign) [] spelled = absurd (no_empty_sign sign spelled)
exact (mark sign) (b ∷ bs) spelled = lexeme_of_sign b bs (sign_begins b bs sign spelled) ∙ ap (option_map mark) spelled

-- a lexeme begins with no white space
pub shown : (lexeme : Lexeme) (bytes : List ℕ) → Spells lexeme bytes → Starts (λ b. not (is_blank b)) bytes
shown word [] spelled = cc
shown word (b ∷ bs) spelled = let parts = and_parts (begins_word b) (list_all in_word bs) spelled in word_shown b parts.0
shown digits [] spelled = cc
shown digits (b ∷ bs) spelled = let parts = and_parts (is_ascii_digit b) (list_all is_ascii_digit bs) spelled in digit_shown b parts.0
shown (text value) bytes spelled = rw spelled refl
shown (unended value) bytes spelled = rw spelled refl
shown (mark sign) [] spelled = absurd (no_empty_sign sign spelled)
shown (mark sign) (b ∷ bs) spelled = not_from_false (is_blank b) (others b (sign_begins b bs sign spelled)).0
