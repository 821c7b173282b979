-- What one token stands for passes the tests of the laws.
use Rattle.std.proofs.Common.{if◌then◌else◌, ◌≡◌, ℕ, zero, suc, pos, negsuc, Bool, true, false, ◌||◌, List, Some, None, refl, subst, arith, nat_le, neg_ℤ, leb-false, le-leb}
use Rattle.pg_parse_stmt.proofs.Common.{one, keeps_one, Value, Token, is_free_name, is_literal, is_token, name_of, value_of, name_free, bare_name_of, integer_of, negative_of, is_limit, is_negative}
use Rattle.pg_values.specs.declared.value.Value.TheVariants as value
use Rattle.pg_lexer.specs.declared.keyword.Keyword.TheVariants as word
use Rattle.std.proofs.Math.Bool.{true-or}
use Rattle.std.proofs.Math.Dec.{leb-zero}
use Rattle.pg_lexer.specs.declared.token.Token.TheVariants.{Keyword, Sign, Name, Integer, Quoted}
use Rattle.pg_parse_stmt.proofs.Keeping.{Reading, both}

-- names
pub reading_name_of : Reading (one name_of) is_free_name
reading_name_of = keeps_one is_token (λ n. is_free_name n ≡ true) name_of name_free

bare_name_free : (t : Token) (n : List ℕ) → is_token t ≡ true → bare_name_of t ≡ Some n → is_free_name n ≡ true
unfolding bare_name_of name_of
bare_name_free (Name name) n a h = name_free (Name name) n a h
bare_name_free (Keyword k) n a h = absurd (cc h)
bare_name_free (Integer i) n a h = absurd (cc h)
bare_name_free (Quoted text) n a h = absurd (cc h)
bare_name_free (Sign s) n a h = absurd (cc h)

pub reading_bare_name_of : Reading (one bare_name_of) is_free_name
reading_bare_name_of = keeps_one is_token (λ n. is_free_name n ≡ true) bare_name_of bare_name_free

-- numbers
integer_low : (t : Token) (n : ℕ) → is_token t ≡ true → integer_of t ≡ Some n → is_limit n ≡ true
unfolding integer_of
integer_low (Integer i) n a h = let is : i ≡ n = cc h in subst (λ q. is_limit q ≡ true) is a
integer_low (Name name) n a h = absurd (cc h)
integer_low (Keyword k) n a h = absurd (cc h)
integer_low (Quoted text) n a h = absurd (cc h)
integer_low (Sign s) n a h = absurd (cc h)

pub reading_integer_of : Reading (one integer_of) is_limit
reading_integer_of = keeps_one is_token (λ n. is_limit n ≡ true) integer_of integer_low

-- a value that a column may have where none is given
abbrev pub is_default : Value → Bool
is_default v = is_literal v || is_negative v

above : (n : ℕ) → nat_le n 2147483647 ≡ false → nat_le 2147483648 n ≡ true
above n h = let less = leb-false n 2147483647 h in le-leb 2147483648 n (omega (arith, less))

plain_number : (n : ℕ) (small large : Bool) → nat_le n 2147483647 ≡ small → nat_le n 9223372036854775807 ≡ large →
    (v : Value) →
    (if small then Some (value.Int (pos n)) else (if large then Some (value.Big (pos n)) else None)) ≡ Some v →
    is_literal v ≡ true
plain_number n true large s l v h =
    let is : value.Int (pos n) ≡ v = cc h in subst (λ q. is_literal q ≡ true) is (both (leb-zero n) s)
plain_number n false true s l v h =
    let is : value.Big (pos n) ≡ v = cc h in subst (λ q. is_literal q ≡ true) is (both (above n s) l)
plain_number n false false s l v h = absurd (cc h)

literal_plain : (t : Token) (v : Value) → is_token t ≡ true → value_of t ≡ Some v → is_literal v ≡ true
unfolding value_of
literal_plain (Integer n) v a h = plain_number n (nat_le n 2147483647) (nat_le n 9223372036854775807) refl refl v h
literal_plain (Quoted text) v a h = let is : value.Text text ≡ v = cc h in subst (λ q. is_literal q ≡ true) is a
literal_plain (Keyword word.True) v a h =
    let is : value.Bool true ≡ v = cc h in subst (λ q. is_literal q ≡ true) is refl
literal_plain (Keyword word.False) v a h =
    let is : value.Bool false ≡ v = cc h in subst (λ q. is_literal q ≡ true) is refl
literal_plain (Keyword word.Null) v a h = let is : value.Null ≡ v = cc h in subst (λ q. is_literal q ≡ true) is refl
literal_plain (Keyword _) v a h = absurd (cc h)
literal_plain (Name name) v a h = absurd (cc h)
literal_plain (Sign s) v a h = absurd (cc h)

literal_default : (v : Value) → is_literal v ≡ true → is_default v ≡ true
literal_default v h = rw h (true-or (is_negative v))

pub reading_value_of : Reading (one value_of) is_default
reading_value_of =
    keeps_one is_token (λ v. is_default v ≡ true) value_of (λ t v a h. literal_default v (literal_plain t v a h))

negative_number : (n : ℕ) (small large : Bool) → nat_le n 2147483647 ≡ small → nat_le n 9223372036854775807 ≡ large →
    (v : Value) →
    (if small then Some (value.Int (neg_ℤ (pos n))) else (if large then Some
    (value.Big (neg_ℤ (pos n))) else None)) ≡ Some v →
    is_default v ≡ true
negative_number zero true large s l v h = let is : value.Int (pos zero) ≡ v = cc h in subst
    (λ q. is_default q ≡ true) is refl
negative_number zero false large s l v h = absurd (cc s)
negative_number (suc n) true large s l v h =
    let is : value.Int (negsuc n) ≡ v = cc h in subst (λ q. is_default q ≡ true) is s
negative_number (suc n) false true s l v h =
    let is : value.Big (negsuc n) ≡ v = cc h in subst (λ q. is_default q ≡ true) is (both (above (suc n) s) l)
negative_number (suc n) false false s l v h = absurd (cc h)

negative_default : (t : Token) (v : Value) → is_token t ≡ true → negative_of t ≡ Some v → is_default v ≡ true
unfolding negative_of
negative_default (Integer n) v a h =
    negative_number n (nat_le n 2147483647) (nat_le n 9223372036854775807) refl refl v h
negative_default (Quoted text) v a h = absurd (cc h)
negative_default (Keyword k) v a h = absurd (cc h)
negative_default (Name name) v a h = absurd (cc h)
negative_default (Sign s) v a h = absurd (cc h)

pub reading_negative_of : Reading (one negative_of) is_default
reading_negative_of = keeps_one is_token (λ v. is_default v ≡ true) negative_of negative_default
