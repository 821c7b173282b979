-- What stands at a place, at each exit of the scanners.
use Rattle.std.proofs.Common.{◌≡◌, ℕ, suc, ◌+◌, ◌-◌, ◌^◌, ◌<◌, ◌≤◌, min, Bool, true, eqb, leb, List, [], ◌∷◌, ◌++◌, length, take, drop, map, Option, Some, None, Ok, inl, inr, ⊎_elim, sym, refl, ap, ◌∙◌, arith, append-nil, take-append-drop, length-take-le, add-one}
use Rattle.std.specs.Prelude.{◌||◌, not, position}
use Rattle.std.specs.Char.{is_ascii_digit, is_ascii_lowercase, to_ascii_lowercase}
use Rattle.std.specs.List.{list_all, prefix_len}
use Rattle.std.proofs.lemmas.Bool.{cases_Bool, and_parts, and_from, cond-true, cond-false, lt-leb, le-leb, ltb-false, eqb-true, not_from_false}
use Rattle.std.proofs.lemmas.Bool.Decides.{nat_tests}
use Rattle.std.proofs.lemmas.List.{length-map}
use Rattle.std.proofs.lemmas.List.Sums.{prefix_len-le-length}
use Rattle.pg_lexer.specs.declared.sign.Sign.{Sign}
use Rattle.pg_lexer.specs.declared.token.BadPlace.TheVariants as bad
use Rattle.pg_lexer.specs.declared.token.Found.TheVariants as found
use Rattle.pg_lexer.specs.declared.token.Token.TheVariants as token
use Rattle.pg_lexer.specs.Bytes.{begins_word, in_word, is_word, is_name, is_text, is_printed, is_blank, Starts}
use Rattle.pg_lexer.specs.Keywords.{keyword_of}
use Rattle.pg_lexer.specs.Lexemes.{word, digits, text, unended, mark, quoted_form, IsLongest, meaning, number_of, word_token, text_token}
use Rattle.pg_lexer.specs.Found.{IsFound, IsEnded, IsUnended, begins_no_other, longest_sign}
use Rattle.pg_lexer.proofs.Exact.{others}
use Rattle.pg_lexer.proofs.Longest.{word_longest, digits_longest, text_longest, unended_longest, sign_longest, no_sign}

-- ---- words

module _ (bytes : List ℕ) (place n : ℕ) (starts : Starts begins_word bytes) (run : n ≡ prefix_len in_word bytes) where
  pub word_within : n ≤ length bytes
  word_within = omega (arith, prefix_len-le-length in_word bytes)

  word_length : length (take n bytes) ≡ n
  word_length = length-take-le n bytes word_within

  pub long_word : 63 < n → IsFound place bytes (found.Bad (bad.Name place))
  unfolding meaning
  long_word long = inl (
    take n bytes,
    drop n bytes,
    record {
      lexeme = word;
      split = sym (take-append-drop n bytes);
      longest = word_longest bytes n starts run;
      means = cond-false (leb (length (take n bytes)) 63) _ _ (lt-leb (length (take n bytes)) 63 (omega (arith, word_length)));
    },
  )

  pub word_found : n ≤ 63 → (name : List ℕ) → name ≡ map to_ascii_lowercase (take n bytes)
      → IsFound place bytes (found.Token (word_token name (keyword_of name)) n)
  unfolding meaning
  word_found short name folded = (
    word_within,
    record {
      lexeme = word;
      split = sym (take-append-drop n bytes);
      longest = word_longest bytes n starts run;
      means = cond-true (leb (length (take n bytes)) 63) _ _ (le-leb (length (take n bytes)) 63 (omega (arith, word_length)))
          ∙ ap (λ w. Ok (word_token w (keyword_of w))) (sym folded);
    },
  )

-- ---- numbers

module _ (bytes : List ℕ) (place n number : ℕ) (starts : Starts is_ascii_digit bytes) (run : n ≡ prefix_len is_ascii_digit bytes)
    (value : number ≡ min (number_of (take n bytes)) (2 ^ 64 - 1)) where
  pub digits_within : n ≤ length bytes
  digits_within = omega (arith, prefix_len-le-length is_ascii_digit bytes)

  pub large_number : 9223372036854775807 < number → IsFound place bytes (found.Bad (bad.Literal place))
  unfolding meaning
  large_number large = inl (
    take n bytes,
    drop n bytes,
    record {
      lexeme = digits;
      split = sym (take-append-drop n bytes);
      longest = digits_longest bytes n starts run;
      means = cond-false (leb (number_of (take n bytes)) 9223372036854775807) _ _ (lt-leb (number_of (take n bytes)) 9223372036854775807 (omega arith));
    },
  )

  pub number_found : number ≤ 9223372036854775807 → IsFound place bytes (found.Token (token.Integer number) n)
  unfolding meaning
  number_found small =
      let same : number_of (take n bytes) ≡ number = omega arith in (
        digits_within,
        record {
          lexeme = digits;
          split = sym (take-append-drop n bytes);
          longest = digits_longest bytes n starts run;
          means = cond-true (leb (number_of (take n bytes)) 9223372036854775807) _ _ (le-leb (number_of (take n bytes)) 9223372036854775807 (omega arith))
              ∙ ap (λ m. Ok (token.Integer m)) same;
        },
      )

-- ---- texts

-- all pass where no first one fails
all_pass : (p : ℕ → Bool) (xs : List ℕ) → length xs ≤ prefix_len (λ x. not (not (p x))) xs → list_all p xs ≡ true
all_pass p [] within = refl
all_pass p (x ∷ xs) within = ⊎_elim
    (λ pass.
    let more : prefix_len (λ y. not (not (p y))) (x ∷ xs) ≡ 1 + prefix_len (λ y. not (not (p y))) xs = cond-true _ _ _ (ap (λ b. not (not b)) pass) in
    and_from (p x) _ pass (all_pass p xs (omega arith)))
    (λ fail.
    let stop : prefix_len (λ y. not (not (p y))) (x ∷ xs) ≡ 0 = cond-false _ _ _ (ap (λ b. not (not b)) fail) in absurd (omega arith))
    (cases_Bool (p x))

-- where none fails, all pass
pub none_fails : (p : ℕ → Bool) (xs : List ℕ) → position (λ x. not (p x)) xs ≡ None → list_all p xs ≡ true
none_fails p xs none = ⊎_elim
    (λ early. let some = cond-true (leb (suc (prefix_len (λ x. not (not (p x))) xs)) (length xs)) (Some (prefix_len (λ x. not (not (p x))) xs)) None early in cc)
    (λ late. all_pass p xs (ltb-false (prefix_len (λ x. not (not (p x))) xs) (length xs) late))
    (cases_Bool (leb (suc (prefix_len (λ x. not (not (p x))) xs)) (length xs)))

-- a text whose written form is printed is printed
pub printed_value : (value behind : List ℕ) → list_all is_printed (quoted_form value ++ behind) ≡ true → list_all is_printed value ≡ true
unfolding quoted_form
printed_value [] behind all = refl
printed_value (b ∷ value) behind all = ⊎_elim
    (λ quote.
    let written : list_all is_printed (39 ∷ 39 ∷ (quoted_form value ++ behind)) ≡ true = rw (cond-true (eqb b 39) (39 ∷ 39 ∷ []) (b ∷ []) quote) at all in
    and_from (is_printed b) _ (rw (eqb-true b 39 quote) refl) (printed_value value behind written))
    (λ other.
    let written : list_all is_printed (b ∷ (quoted_form value ++ behind)) ≡ true = rw (cond-false (eqb b 39) (39 ∷ 39 ∷ []) (b ∷ []) other) at all in
    let parts = and_parts (is_printed b) (list_all is_printed (quoted_form value ++ behind)) written in
    and_from (is_printed b) _ parts.0 (printed_value value behind parts.1))
    (cases_Bool (eqb b 39))

-- a text that does not end is bad where it begins
pub unended_text : (bytes : List ℕ) (place : ℕ) → Starts (λ b. eqb b 39) bytes → IsUnended (drop 1 bytes) → IsFound place bytes (found.Bad (bad.Literal place))
unfolding meaning
unended_text [] place starts open_end = absurd starts
unended_text (b ∷ bs) place starts open_end =
    let quote = eqb-true b 39 starts in
    let written : b ∷ bs ≡ 39 ∷ quoted_form open_end.0 = (λ i. quote i ∷ open_end.1 i) in
    inl (
      b ∷ bs,
      [],
      record {
        lexeme = unended open_end.0;
        split = sym (append-nil (b ∷ bs));
        longest = rw written (unended_longest open_end.0);
        means = refl;
      },
    )

-- a text that ends, by the bytes behind its opening quote
record IsWritten (bytes value : List ℕ) (n : ℕ) : Type 0 where
  within : n + 1 ≤ length bytes
  front : take (n + 1) bytes ≡ 39 ∷ (quoted_form value ++ 39 ∷ [])
  longest : IsLongest (text value) (take (n + 1) bytes) (drop (n + 1) bytes)

written_text : (bytes value : List ℕ) (n : ℕ) → Starts (λ b. eqb b 39) bytes → IsEnded (drop 1 bytes) value n → IsWritten bytes value n
written_text [] value n starts ended = absurd starts
written_text (b ∷ bs) value n starts ended =
    let quote = eqb-true b 39 starts in
    let front : take (n + 1) (b ∷ bs) ≡ 39 ∷ (quoted_form value ++ 39 ∷ []) = rw add-one (λ i. quote i ∷ ended.written i) in
    let after : drop (n + 1) (b ∷ bs) ≡ drop n bs = rw add-one refl in
    let within = ended.within in
    record {
      within = omega arith;
      front = front;
      longest = rw (front, after) (text_longest value (drop n bs) ended.ended);
    }

module _ (bytes : List ℕ) (place n : ℕ) (value : List ℕ) (starts : Starts (λ b. eqb b 39) bytes) (ended : IsEnded (drop 1 bytes) value n) where
  pub text_within : n + 1 ≤ length bytes
  text_within = (written_text bytes value n starts ended).within

  pub long_text : 4096 < length value → IsFound place bytes (found.Bad (bad.Literal place))
  unfolding meaning
  long_text long = inl (
    take (n + 1) bytes,
    drop (n + 1) bytes,
    record {
      lexeme = text value;
      split = sym (take-append-drop (n + 1) bytes);
      longest = (written_text bytes value n starts ended).longest;
      means = cond-false (leb (length value) 4096) _ _ (lt-leb (length value) 4096 long);
    },
  )

  -- the meaning of a text that is no longer than it may be
  text_means : (first : Option ℕ) → length value ≤ 4096 → first ≡ position (λ b. not (is_printed b)) (take (n + 1) bytes)
      → meaning place (text value) (take (n + 1) bytes) ≡ text_token place value first
  unfolding meaning
  text_means first short is = cond-true (leb (length value) 4096) _ _ (le-leb (length value) 4096 short) ∙ ap (text_token place value) (sym is)

  pub bad_byte : (before : ℕ) → length value ≤ 4096 → Some before ≡ position (λ b. not (is_printed b)) (take (n + 1) bytes)
      → IsFound place bytes (found.Bad (bad.Byte (place + before)))
  bad_byte before short is = inl (
    take (n + 1) bytes,
    drop (n + 1) bytes,
    record {
      lexeme = text value;
      split = sym (take-append-drop (n + 1) bytes);
      longest = (written_text bytes value n starts ended).longest;
      means = text_means (Some before) short is;
    },
  )

  pub text_found : length value ≤ 4096 → None ≡ position (λ b. not (is_printed b)) (take (n + 1) bytes)
      → IsFound place bytes (found.Token (token.Quoted value) (n + 1))
  text_found short is = (
    text_within,
    record {
      lexeme = text value;
      split = sym (take-append-drop (n + 1) bytes);
      longest = (written_text bytes value n starts ended).longest;
      means = text_means None short is;
    },
  )

  pub text_printed : length value ≤ 4096 → None ≡ position (λ b. not (is_printed b)) (take (n + 1) bytes) → is_text value ≡ true
  unfolding is_text
  text_printed short is =
      let front = (written_text bytes value n starts ended).front in
      let all : list_all is_printed (39 ∷ (quoted_form value ++ 39 ∷ [])) ≡ true = rw front at (none_fails is_printed (take (n + 1) bytes) (sym is)) in
      and_from (list_all is_printed value) _ (printed_value value (39 ∷ []) all) (le-leb (length value) 4096 short)

-- ---- signs

pub sign_found : (bytes : List ℕ) (place : ℕ) (sign : Sign) (n : ℕ) → Starts begins_no_other bytes → longest_sign bytes ≡ Some (sign, n)
    → IsFound place bytes (found.Token (token.Sign sign) n)
unfolding meaning
sign_found bytes place sign n starts e =
    let longest = sign_longest bytes sign n starts e in
    (longest.0, record { lexeme = mark sign; split = sym (take-append-drop n bytes); longest = longest.1; means = refl })

pub no_sign_found : (bytes : List ℕ) (place : ℕ) → Starts begins_no_other bytes → longest_sign bytes ≡ None → IsFound place bytes (found.Bad (bad.Byte place))
no_sign_found bytes place starts e = inr (sign_shown bytes starts, no_sign bytes starts e, refl)
  where
    sign_shown : (xs : List ℕ) → Starts begins_no_other xs → Starts (λ b. not (is_blank b)) xs
    sign_shown [] first = absurd first
    sign_shown (b ∷ bs) first = not_from_false (is_blank b) (others b first).0

-- ---- names

folded_byte : (b : ℕ) → in_word b ≡ true → (is_ascii_lowercase (to_ascii_lowercase b) || is_ascii_digit (to_ascii_lowercase b) || eqb (to_ascii_lowercase b) 95) ≡ true
folded_byte b within = grind (arith, nat_tests)

folded_first : (b : ℕ) → begins_word b ≡ true → (is_ascii_lowercase (to_ascii_lowercase b) || eqb (to_ascii_lowercase b) 95) ≡ true
folded_first b within = grind (arith, nat_tests)

folded_rest : (bs : List ℕ) → list_all in_word bs ≡ true
    → list_all (λ c. is_ascii_lowercase c || is_ascii_digit c || eqb c 95) (map to_ascii_lowercase bs) ≡ true
folded_rest [] all = refl
folded_rest (b ∷ bs) all =
    let parts = and_parts (in_word b) (list_all in_word bs) all in
    and_from _ _ (folded_byte b parts.0) (folded_rest bs parts.1)

-- a word that is not too long is a name when it is folded
pub folded_word : (w : List ℕ) → is_word w ≡ true → length w ≤ 63 → is_name (map to_ascii_lowercase w) ≡ true
unfolding is_name
folded_word [] is short = is
folded_word (b ∷ bs) is short =
    let parts = and_parts (begins_word b) (list_all in_word bs) is in
    and_from _ _ (and_from _ _ (folded_first b parts.0) (folded_rest bs parts.1))
    (le-leb (length (map to_ascii_lowercase bs)) 62 (simp length-map (omega arith)))

pub name_is : (bytes : List ℕ) (n : ℕ) → Starts begins_word bytes → n ≡ prefix_len in_word bytes → n ≤ 63
    → (name : List ℕ) → name ≡ map to_ascii_lowercase (take n bytes) → is_name name ≡ true
name_is bytes n starts run short name folded =
    rw folded (folded_word (take n bytes) (word_longest bytes n starts run).spelled (omega (arith, word_length bytes 0 n starts run)))
