-- The words of a line, with their places.
use Rattle.std.specs.Prelude.{ℕ, ◌+◌, ◌&&◌, Bool, false, if◌then◌else◌, List, [], ◌∷◌}
use Rattle.std.specs.Str.{bytes_eq}
use Rattle.pg_lexer.specs.Bytes.{in_word, is_blank}
use Rattle.pg_line.specs.declared.word.Piece.{Piece}

-- a word of a line, and the place of its first byte in the line, counted from 1
pub record Word : Type 0 where
  pub text : List ℕ
  pub place : ℕ

-- some bytes of a line as a word
abbrev pub word_of : Piece → Word
word_of piece = record { text = piece.bytes.now; place = piece.place }

-- the word is spelled so
abbrev pub is_the : List ℕ → Word → Bool
is_the text word = bytes_eq word.text text

-- a tab or a space comes first
abbrev pub begins_blank : List ℕ → Bool
begins_blank [] = false
begins_blank (b ∷ bytes) = is_blank b

-- a letter, a digit or `_` comes first
abbrev pub continues_word : List ℕ → Bool
continues_word [] = false
continues_word (b ∷ bytes) = in_word b

-- the words with one byte more in front of the first, which stands at this place
abbrev pub with_first_byte : ℕ → ℕ → List Word → List Word
with_first_byte b at [] = record { text = b ∷ []; place = at } ∷ []
with_first_byte b at (word ∷ words) = record { text = b ∷ word.text; place = at } ∷ words

-- the words of the bytes that stand from a place on: each longest run of letters, digits and `_`, and each other byte
-- by itself; tabs and spaces stand between words and belong to none
abbrev pub words_from : ℕ → List ℕ → List Word
words_from at [] = []
words_from at (b ∷ bytes) =
    if is_blank b then words_from (at + 1) bytes
    else (if in_word b && continues_word bytes then with_first_byte b at (words_from (at + 1) bytes)
    else record { text = b ∷ []; place = at } ∷ words_from (at + 1) bytes)

-- the words of a line
abbrev pub words_of : List ℕ → List Word
words_of line = words_from 1 line
