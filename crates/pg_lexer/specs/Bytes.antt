-- The classes of bytes, and the bytes that names and texts have.
use Rattle.std.specs.Prelude.{ℕ, Bool, true, false, ◌&&◌, ◌||◌, ◌==◌, ◌≡◌, nat_le, List, [], ◌∷◌, length}
use Rattle.std.specs.Char.{is_ascii_alphabetic, is_ascii_alphanumeric, is_ascii_digit, is_ascii_lowercase}
use Rattle.std.specs.List.{list_all}

-- white space: a tab or a space
abbrev pub is_blank : ℕ → Bool
is_blank b = b == 9 || b == 32

-- what a text may hold: space to `~`
abbrev pub is_printed : ℕ → Bool
is_printed b = nat_le 32 b && nat_le b 126

-- the first byte of a word: a letter or `_`
abbrev pub begins_word : ℕ → Bool
begins_word b = is_ascii_alphabetic b || b == 95

-- a further byte of a word: a letter, a digit or `_`
abbrev pub in_word : ℕ → Bool
in_word b = is_ascii_alphanumeric b || b == 95

-- a word: letters, digits and `_`, no digit first
abbrev pub is_word : List ℕ → Bool
is_word [] = false
is_word (b ∷ bs) = begins_word b && list_all in_word bs

-- a number: digits, at least one
abbrev pub is_number : List ℕ → Bool
is_number [] = false
is_number (b ∷ bs) = is_ascii_digit b && list_all is_ascii_digit bs

-- a name: 1 to 63 lower-case letters, digits and `_`, no digit first
unfoldable pub is_name : List ℕ → Bool
is_name [] = false
is_name (b ∷ bs) =
    (is_ascii_lowercase b || b == 95) && list_all (λ c. is_ascii_lowercase c || is_ascii_digit c || c == 95) bs
    && nat_le (length bs) 62

-- the value of a text: at most 4,096 printed bytes
unfoldable pub is_text : List ℕ → Bool
is_text bs = list_all is_printed bs && nat_le (length bs) 4096

-- the first byte passes a test
abbrev pub Starts : (ℕ → Bool) → List ℕ → Type 0
Starts test [] = ⊥
Starts test (b ∷ bs) = test b ≡ true
