-- What each scanner cuts off is the longest lexeme at the front; and where none is, there is none.
use Rattle.std.proofs.Common.{◌≡◌, ℕ, suc, ◌≤◌, Bool, true, false, cond, eqb, List, [], ◌∷◌, ◌++◌, length, take, drop, Option, Some, None, sym, refl, ap, ◌∙◌, arith, append_assoc}
use Rattle.std.specs.Char.{is_ascii_digit}
use Rattle.std.specs.List.{list_all, prefix_len}
use Rattle.std.specs.Option.{option_map, option_or}
use Rattle.std.proofs.lemmas.Bool.{and_from, cond-false, false_from_ne_true}
use Rattle.std.proofs.lemmas.Bool.Decides.{nat_tests}
use Rattle.pg_lexer.specs.declared.sign.Sign.{Sign}
use Rattle.pg_lexer.specs.Bytes.{begins_word, in_word, Starts}
use Rattle.pg_lexer.specs.Signs.{sign_of}
use Rattle.pg_lexer.specs.Lexemes.{Lexeme, word, digits, text, unended, mark, quoted_form, Spells, IsLongest, NoLexeme}
use Rattle.pg_lexer.specs.Found.{begins_no_other, longest_sign, with_length}
use Rattle.pg_lexer.proofs.Lists.{passes, stops, fails, prefix_len_more}
use Rattle.pg_lexer.proofs.Exact.{lexeme_of, exact, long_sign, lexeme_of_nothing, lexeme_of_word, lexeme_of_digits, lexeme_of_sign, lexeme_of_longer}

-- a lexeme is the longest where its bytes and one byte more or several spell none
longest_where : (lexeme : Lexeme) (front after : List ℕ) → Spells lexeme front
    → ((c : ℕ) (more rest : List ℕ) → after ≡ c ∷ (more ++ rest) → lexeme_of (front ++ c ∷ more) ≡ None) → IsLongest lexeme front after
longest_where lexeme front after spelled ends = record {
  spelled = spelled;
  longest = λ other more rest split spells. go more other rest split spells;
}
  where
    go : (more : List ℕ) (other : Lexeme) (rest : List ℕ) → after ≡ more ++ rest → Spells other (front ++ more) → more ≡ []
    go [] other rest split spells = refl
    go (c ∷ more) other rest split spells =
        let nothing = ends c more rest split in let something = exact other (front ++ c ∷ more) spells in cc

word_goes_on : (b : ℕ) → begins_word b ≡ true → in_word b ≡ true
word_goes_on b letter = grind (arith, nat_tests)

-- the run of bytes of one class is the longest lexeme, where the lexemes that begin so are of this class
run_ends : (p : ℕ → Bool) (b : ℕ) (bs : List ℕ) (lexeme : Lexeme)
    → ((xs : List ℕ) → lexeme_of (b ∷ xs) ≡ cond (list_all p xs) (Some lexeme) None)
    → (c : ℕ) (more rest : List ℕ) → drop (prefix_len p bs) bs ≡ c ∷ (more ++ rest) → lexeme_of (b ∷ (take (prefix_len p bs) bs ++ c ∷ more)) ≡ None
run_ends p b bs lexeme is c more rest split =
    is (take (prefix_len p bs) bs ++ c ∷ more)
    ∙ cond-false (list_all p (take (prefix_len p bs) bs ++ c ∷ more)) _ _ (fails p (take (prefix_len p bs) bs) c more (stops p bs c (more ++ rest) split))

pub word_longest : (bytes : List ℕ) (n : ℕ) → Starts begins_word bytes → n ≡ prefix_len in_word bytes → IsLongest word (take n bytes) (drop n bytes)
word_longest [] n starts e = absurd starts
word_longest (b ∷ bs) n starts e =
    let whole : n ≡ suc (prefix_len in_word bs) = e ∙ prefix_len_more in_word b bs (word_goes_on b starts) in
    rw whole (longest_where word (b ∷ take (prefix_len in_word bs) bs) (drop (prefix_len in_word bs) bs)
    (and_from (begins_word b) _ starts (passes in_word bs))
    (run_ends in_word b bs word (λ xs. lexeme_of_word b xs starts)))

pub digits_longest : (bytes : List ℕ) (n : ℕ) → Starts is_ascii_digit bytes → n ≡ prefix_len is_ascii_digit bytes → IsLongest digits (take n bytes) (drop n bytes)
digits_longest [] n starts e = absurd starts
digits_longest (b ∷ bs) n starts e =
    let whole : n ≡ suc (prefix_len is_ascii_digit bs) = e ∙ prefix_len_more is_ascii_digit b bs starts in
    rw whole (longest_where digits (b ∷ take (prefix_len is_ascii_digit bs) bs) (drop (prefix_len is_ascii_digit bs) bs)
    (and_from (is_ascii_digit b) _ starts (passes is_ascii_digit bs))
    (run_ends is_ascii_digit b bs digits (λ xs. lexeme_of_digits b xs starts)))

pub text_longest : (value after : List ℕ) → (Starts (λ b. eqb b 39) after → ⊥) → IsLongest (text value) (39 ∷ (quoted_form value ++ 39 ∷ [])) after
text_longest value after ended =
    longest_where (text value) (39 ∷ (quoted_form value ++ 39 ∷ [])) after refl
    (λ c more rest split.
    let other : eqb c 39 ≡ false = false_from_ne_true _ (λ quote. ended (rw split quote)) in
    ap (λ t. lexeme_of (39 ∷ t)) (append_assoc (quoted_form value) (39 ∷ []) (c ∷ more)) ∙ lexeme_of_longer value c more other)

pub unended_longest : (value : List ℕ) → IsLongest (unended value) (39 ∷ quoted_form value) []
unended_longest value = longest_where (unended value) (39 ∷ quoted_form value) [] refl (λ c more rest split. cc)

sized_parts : (s sign : Sign) (m n : ℕ) → with_length m (Some s) ≡ Some (sign, n) → (s ≡ sign) × (m ≡ n)
sized_parts s sign m n e = let first : Sign × ℕ = (s, m) in let second : Sign × ℕ = (sign, n) in let pair : first ≡ second = cc in (ap (λ (p : Sign × ℕ). p.0) pair, ap (λ (p : Sign × ℕ). p.1) pair)

-- the longest sign, by the bytes that are left
pub sign_longest : (bytes : List ℕ) (sign : Sign) (n : ℕ) → Starts begins_no_other bytes → longest_sign bytes ≡ Some (sign, n)
    → (n ≤ length bytes) × IsLongest (mark sign) (take n bytes) (drop n bytes)
unfolding longest_sign
sign_longest [] sign n starts e = absurd starts
sign_longest (a ∷ []) sign n starts e = one (sign_of (a ∷ [])) refl e
  where
    one : (o : Option Sign) → sign_of (a ∷ []) ≡ o → with_length 1 o ≡ Some (sign, n) → (n ≤ 1) × IsLongest (mark sign) (take n (a ∷ [])) (drop n (a ∷ []))
    one None is found = cc
    one (Some s) is found =
        let parts = sized_parts s sign 1 n found in let length_is : n ≡ 1 = sym parts.1 in
        rw length_is (omega arith, longest_where (mark sign) (a ∷ []) [] (is ∙ ap Some parts.0) (λ c more rest split. cc))
sign_longest (a ∷ b ∷ bs) sign n starts e = two (sign_of (a ∷ b ∷ [])) (sign_of (a ∷ [])) refl refl e
  where
    two : (o p : Option Sign) → sign_of (a ∷ b ∷ []) ≡ o → sign_of (a ∷ []) ≡ p
        → option_or (with_length 2 o) (with_length 1 p) ≡ Some (sign, n)
        → (n ≤ suc (suc (length bs))) × IsLongest (mark sign) (take n (a ∷ b ∷ bs)) (drop n (a ∷ b ∷ bs))
    two (Some s) p is _ found =
        let parts = sized_parts s sign 2 n found in let length_is : n ≡ 2 = sym parts.1 in
        rw length_is (
          omega arith,
          longest_where (mark sign) (a ∷ b ∷ []) bs (is ∙ ap Some parts.0)
              (λ c more rest split. lexeme_of_sign a (b ∷ c ∷ more) starts ∙ ap (option_map mark) (long_sign a b c more)),
        )
    two None (Some s) double is found =
        let parts = sized_parts s sign 1 n found in let length_is : n ≡ 1 = sym parts.1 in
        rw length_is (
          omega arith,
          longest_where (mark sign) (a ∷ []) (b ∷ bs) (is ∙ ap Some parts.0)
              (λ c more rest split. longer c more rest split double),
        )
      where
        longer : (c : ℕ) (more rest : List ℕ) → b ∷ bs ≡ c ∷ (more ++ rest) → sign_of (a ∷ b ∷ []) ≡ None → lexeme_of (a ∷ c ∷ more) ≡ None
        longer c [] rest split none = let same : b ≡ c = cc in let known : sign_of (a ∷ c ∷ []) ≡ None = rw same at none in lexeme_of_sign a (c ∷ []) starts ∙ ap (option_map mark) known
        longer c (d ∷ more) rest split none = lexeme_of_sign a (c ∷ d ∷ more) starts ∙ ap (option_map mark) (long_sign a c d more)
    two None None _ _ found = cc

-- where no sign is at the front, no lexeme is
pub no_sign : (bytes : List ℕ) → Starts begins_no_other bytes → longest_sign bytes ≡ None → NoLexeme bytes
unfolding longest_sign
no_sign [] starts e lexeme front after split spelled = absurd starts
no_sign (a ∷ bs) starts e lexeme [] after split spelled = let something = exact lexeme [] spelled in let nothing = lexeme_of_nothing in cc
no_sign (a ∷ []) starts e lexeme (c ∷ front) after split spelled = none (sign_of (a ∷ [])) refl e
  where
    none : (o : Option Sign) → sign_of (a ∷ []) ≡ o → with_length 1 o ≡ None → ⊥
    none (Some s) is found = cc
    none None is found = one front split spelled
      where
        one : (more : List ℕ) → a ∷ [] ≡ (c ∷ more) ++ after → Spells lexeme (c ∷ more) → ⊥
        one [] same spells =
            let head : a ≡ c = cc in
            let something : lexeme_of (a ∷ []) ≡ Some lexeme = rw head (exact lexeme (c ∷ []) spells) in
            let nothing = lexeme_of_sign a [] starts ∙ ap (option_map mark) is in cc
        one (d ∷ more) same spells = cc
no_sign (a ∷ b ∷ bs) starts e lexeme (c ∷ front) after split spelled = none (sign_of (a ∷ b ∷ [])) (sign_of (a ∷ [])) refl refl e
  where
    none : (o p : Option Sign) → sign_of (a ∷ b ∷ []) ≡ o → sign_of (a ∷ []) ≡ p → option_or (with_length 2 o) (with_length 1 p) ≡ None → ⊥
    none (Some s) p double single found = cc
    none None (Some s) double single found = cc
    none None None double single found = short front split spelled
      where
        short : (more : List ℕ) → a ∷ b ∷ bs ≡ (c ∷ more) ++ after → Spells lexeme (c ∷ more) → ⊥
        short [] same spells =
            let head : a ≡ c = cc in
            let something : lexeme_of (a ∷ []) ≡ Some lexeme = rw head (exact lexeme (c ∷ []) spells) in
            let nothing = lexeme_of_sign a [] starts ∙ ap (option_map mark) single in cc
        short (d ∷ []) same spells =
            let head : a ≡ c = cc in let next : b ≡ d = cc in
            let something : lexeme_of (a ∷ b ∷ []) ≡ Some lexeme = rw (head, next) (exact lexeme (c ∷ d ∷ []) spells) in
            let nothing = lexeme_of_sign a (b ∷ []) starts ∙ ap (option_map mark) double in cc
        short (d ∷ f ∷ more) same spells =
            let head : a ≡ c = cc in
            let something : lexeme_of (a ∷ d ∷ f ∷ more) ≡ Some lexeme = rw head (exact lexeme (c ∷ d ∷ f ∷ more) spells) in
            let nothing = lexeme_of_sign a (d ∷ f ∷ more) starts ∙ ap (option_map mark) (long_sign a d f more) in cc
