-- What is written as a name is one.
use Rattle.std.proofs.Common.{◌≡◌, refl, sym, ap, ◌∙◌, ℕ, Bool, true, false, true≢false, ◌&&◌, ◌||◌, ◌==◌, nat_le, List, [], ◌∷◌, length}
use Rattle.std.specs.List.{list_all}
use Rattle.pg_lexer.specs.Bytes.{is_name as is_text_name}
use Rattle.pg_names.specs.Names.{is_digit, is_lower, is_name, is_name_byte}

first_holds : (a b c : Bool) → (a && b && c) ≡ true → a ≡ true
first_holds true b c e = refl
first_holds false b c e = e

second_holds : (a b c : Bool) → (a && b && c) ≡ true → b ≡ true
second_holds true true c e = refl
second_holds true false c e = e
second_holds false b c e = absurd (true≢false (sym e))

both : {a b : Bool} → a ≡ true → b ≡ true → (a && b) ≡ true
both {b = b} l r = ap (λ z. z && b) l ∙ r

first_byte : (a d u : Bool) → (a || u) ≡ true → (a || d || u) ≡ true
first_byte true d u e = refl
first_byte false true u e = refl
first_byte false false u e = e

-- a name in a text is a name
pub written_is_name : (bytes : List ℕ) → is_text_name bytes ≡ true → is_name bytes ≡ true
unfolding is_text_name
written_is_name [] e = refl
written_is_name (b ∷ bs) e =
    both (first_byte (is_lower b) (is_digit b) (b == 95)
    (first_holds (is_lower b || b == 95) (list_all is_name_byte bs) (nat_le (length bs) 62) e))
    (second_holds (is_lower b || b == 95) (list_all is_name_byte bs) (nat_le (length bs) 62) e)
