-- A folded word has the bytes of a name.
use Rattle.std.proofs.Common.{◌≡◌, ℕ, true, List, [], ◌∷◌, map, refl, arith}
use Rattle.std.specs.Char.{to_ascii_lowercase}
use Rattle.std.specs.List.{list_all}
use Rattle.pg_lexer.specs.Bytes.{begins_word, in_word, is_word}
use Rattle.pg_names.specs.Names.{is_name, is_name_byte}
use Rattle.std.proofs.lemmas.Bool.{and_parts, and_from}
use Rattle.std.proofs.lemmas.Bool.Decides.{nat_tests}

folded_byte : (b : ℕ) → in_word b ≡ true → is_name_byte (to_ascii_lowercase b) ≡ true
folded_byte b within = grind (arith, nat_tests)

folded_bytes : (bytes : List ℕ) → list_all in_word bytes ≡ true → is_name (map to_ascii_lowercase bytes) ≡ true
folded_bytes [] all = refl
folded_bytes (b ∷ bytes) all =
    let parts = and_parts (in_word b) (list_all in_word bytes) all in
    and_from _ _ (folded_byte b parts.0) (folded_bytes bytes parts.1)

first_byte : (b : ℕ) → begins_word b ≡ true → in_word b ≡ true
first_byte b begins = grind (arith, nat_tests)

-- a word folded to lower case has the bytes of a name
pub folded_name : (word name : List ℕ) → is_word word ≡ true → name ≡ map to_ascii_lowercase word → is_name name ≡ true
folded_name [] name is folded = absurd (cc)
folded_name (b ∷ bytes) name is folded =
    let parts = and_parts (begins_word b) (list_all in_word bytes) is in
    rw folded (and_from _ _ (folded_byte b (first_byte b parts.0)) (folded_bytes bytes parts.1))
