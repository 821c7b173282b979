-- The words at the front of some bytes.
use Rattle.std.proofs.Common.{◌≡◌, ◌<◌, ◌+◌, ◌==◌, ◌&&◌, ◌||◌, ℕ, suc, Bool, true, false, cond, List, [], ◌∷◌, length, take, drop, refl, ap, arith, ◌∙◌, max}
use Rattle.std.specs.List.{prefix_len}
use Rattle.std.proofs.lemmas.Bool.{eqb-true}
use Rattle.pg_lexer.specs.Bytes.{in_word, is_blank}
use Rattle.pg_line.specs.Words.{Word, begins_blank, with_first_byte, words_from}

word_not_blank : (b : ℕ) → in_word b ≡ true → is_blank b ≡ false
word_not_blank b word = at (b == 9) (b == 32) refl refl
  where
    at : (tab space : Bool) → (b == 9) ≡ tab → (b == 32) ≡ space → (tab || space) ≡ false
    at true space t s = absurd (let e : b ≡ 9 = eqb-true b 9 t in let w : in_word 9 ≡ true = rw e at word in cc)
    at false true t s = absurd (let e : b ≡ 32 = eqb-true b 32 s in let w : in_word 32 ≡ true = rw e at word in cc)
    at false false t s = refl

-- a word with the bytes of some and a place
abbrev the_word : List ℕ → ℕ → Word
the_word text at = record { text = text; place = at }

-- a byte of a word at the front belongs to the first word, with all such bytes behind it
run_words : (at b : ℕ) (bytes : List ℕ) → in_word b ≡ true →
    words_from at (b ∷ bytes)
    ≡ the_word (b ∷ take (prefix_len in_word bytes) bytes) at
    ∷ words_from (at + 1 + prefix_len in_word bytes) (drop (prefix_len in_word bytes) bytes)
run_words at b [] word = one (is_blank b) (word_not_blank b word)
  where
    one : (blank : Bool) → blank ≡ false →
        cond blank [] (cond (in_word b && false) (with_first_byte b at []) (the_word (b ∷ []) at ∷ [])) ≡ the_word (b ∷ []) at ∷ []
    one true e = absurd (cc)
    one false e = rw word refl
run_words at b (c ∷ bytes) word =
    more (words_from (at + 1) (c ∷ bytes)) (is_blank b) (in_word b) (in_word c) (prefix_len in_word bytes)
    (word_not_blank b word) word refl (λ next. run_words (at + 1) c bytes next)
  where
    more : (words : List Word) (blank here next : Bool) (k : ℕ) → blank ≡ false → here ≡ true →
        words ≡ words_from (at + 1) (c ∷ bytes) →
        (next ≡ true → words ≡ the_word (c ∷ take k bytes) (at + 1) ∷ words_from (at + 1 + 1 + k) (drop k bytes)) →
        cond blank words (cond (here && next) (with_first_byte b at words) (the_word (b ∷ []) at ∷ words))
        ≡ the_word (b ∷ take (cond next (1 + k) 0) (c ∷ bytes)) at
        ∷ words_from (at + 1 + cond next (1 + k) 0) (drop (cond next (1 + k) 0) (c ∷ bytes))
    more words true here next k e w is rest = absurd (cc)
    more words false false next k e w is rest = absurd (cc)
    more words false true true k e w is rest =
        let one : 1 + k ≡ suc k = omega arith in
        let sum : at + 1 + suc k ≡ at + 1 + 1 + k = omega arith in
        rw (one, sum, rest refl) refl
    more words false true false k e w is rest =
        let none : at + 1 + 0 ≡ at + 1 = omega arith in
        rw none (ap (λ ws. the_word (b ∷ []) at ∷ ws) is)

-- the first word of bytes that do not begin with a blank, and the words behind it
pub words_from_first : (at : ℕ) (text : List ℕ) (n : ℕ) → 0 < length text → begins_blank text ≡ false →
    n ≡ max (prefix_len in_word text) 1 →
    words_from at text ≡ the_word (take n text) at ∷ words_from (at + n) (drop n text)
words_from_first at [] n some begins is = absurd (omega (arith, some))
words_from_first at (b ∷ bytes) n some begins is = by (in_word b) refl
  where
    by : (word : Bool) → in_word b ≡ word →
        words_from at (b ∷ bytes) ≡ the_word (take n (b ∷ bytes)) at ∷ words_from (at + n) (drop n (b ∷ bytes))
    by true word =
        let len : n ≡ suc (prefix_len in_word bytes) = is ∙ rw word (omega arith) in
        let sum : at + suc (prefix_len in_word bytes) ≡ at + 1 + prefix_len in_word bytes = omega arith in
        rw (len, sum) (run_words at b bytes word)
    by false word =
        let len : n ≡ 1 = is ∙ rw word refl in
        rw (len, begins, word) refl
