-- Values, told apart by their texts.
use lib.Signed.{mag}
use Rattle.std.proofs.Common.{arith, ◌≡◌, refl, sym, ◌∙◌, ap, ap₂, ℕ, suc, ◌+◌, ◌<◌, ◌≤◌, ◌^◌, Bool, true, false, true≢false, ◌==◌, ◌||◌, if◌then◌else◌, List, [], ◌∷◌, ◌++◌, drop, ℤ, pos, negsuc, append_assoc, length, decimal, codes}
use Rattle.std.specs.Fmt.{signed_decimal}
use Rattle.std.specs.List.{list_all}
use Rattle.std.proofs.lemmas.Bool.Decides.{Decides-eqb}
use Rattle.std.proofs.lemmas.Fmt.{decimal_injective, decimal_nonempty}
use Rattle.pg_values.specs.declared.value.Value.{Value}
use Rattle.pg_values.specs.declared.value.Value.TheVariants as value
use Rattle.pg_names.specs.Names.{is_digit, is_name_byte}
use Rattle.pg_model.specs.Texts.{quoted_form, value_text}
use Rattle.pg_print.specs.Laws.{IsWidened}
use Rattle.pg_print.proofs.Fronts.{Stops, apart, both, decimal_all, differ, each_digit, fronts, left_holds}

-- a byte of a value that is no text
abbrev pub is_plain : ℕ → Bool
is_plain b = is_name_byte b || (b == 45)

-- a byte of a number
abbrev pub is_numeric : ℕ → Bool
is_numeric b = is_digit b || (b == 45)

digit_plain : (n : ℕ) → n < 10 → is_plain (48 + n) ≡ true
digit_plain = each_digit is_plain refl refl refl refl refl refl refl refl refl refl

digit_numeric : (n : ℕ) → n < 10 → is_numeric (48 + n) ≡ true
digit_numeric = each_digit is_numeric refl refl refl refl refl refl refl refl refl refl

signed_all : (p : ℕ → Bool) → ((n : ℕ) → n < 10 → p (48 + n) ≡ true) → p 45 ≡ true → (z : ℤ) → mag z ≤ 2 ^ 63 →
    list_all p (signed_decimal z) ≡ true
signed_all p digit minus (pos n) small = decimal_all p digit n (omega (arith, small))
signed_all p digit minus (negsuc n) small = both minus (decimal_all p digit (suc n) (omega (arith, small)))

signed_nonempty : (z : ℤ) → mag z ≤ 2 ^ 63 → 0 < length (signed_decimal z)
signed_nonempty (pos n) small = decimal_nonempty n (omega (arith, small))
signed_nonempty (negsuc n) small = omega arith

-- what stands behind a value: a byte that neither goes on with a value nor is '
abbrev pub Ends : List ℕ → Type 0
Ends [] = ⊥
Ends (c ∷ s) = (is_plain c ≡ false) × ((39 == c) ≡ false)

ends_stop : (s : List ℕ) → Ends s → Stops is_plain s
ends_stop [] ends = absurd ends
ends_stop (c ∷ s) ends = ends.0

-- a value that is no text does not begin as one
no_quote : (u s r : List ℕ) → list_all is_plain u ≡ true → Ends s → u ++ s ≡ 39 ∷ r → ⊥
no_quote [] [] r all ends e = ends
no_quote [] (c ∷ s) r all ends e = differ (λ b. 39 == b) 39 c refl ends.1 (cc)
no_quote (x ∷ u) s r all ends e = differ is_plain x 39 (left_holds (is_plain x) (list_all is_plain u) all) refl (cc)

-- a byte of a text, by whether it is '
abbrev pub quoted_byte : Bool → ℕ → List ℕ
quoted_byte b x = if b then 39 ∷ 39 ∷ [] else x ∷ []

is_quote : (x : ℕ) → (x == 39) ≡ true → x ≡ 39
is_quote x e = (Decides-eqb x 39).0 e

byte_front : (b c : Bool) (x y : ℕ) (u v : List ℕ) → (x == 39) ≡ b → (y == 39) ≡ c →
    quoted_byte b x ++ u ≡ quoted_byte c y ++ v → (x ≡ y) × (u ≡ v)
byte_front true true x y u v xb yc e = (is_quote x xb ∙ sym (is_quote y yc), (cc))
byte_front true false x y u v xb yc e = absurd (differ (λ z. z == 39) 39 y refl yc (cc))
byte_front false true x y u v xb yc e = absurd (differ (λ z. z == 39) 39 x refl xb (cc))
byte_front false false x y u v xb yc e = ((cc), (cc))

-- the ' at the end of a text is no part of it
quote_ends : (c : Bool) (y : ℕ) (s u : List ℕ) → (y == 39) ≡ c → Ends s → 39 ∷ s ≡ quoted_byte c y ++ u → ⊥
quote_ends true y [] u yc ends e = ends
quote_ends true y (d ∷ s) u yc ends e = differ (λ b. 39 == b) 39 d refl ends.1 (cc)
quote_ends false y s u yc ends e = differ (λ z. z == 39) 39 y refl yc (cc)

quoted_front : (xs ys s t : List ℕ) → Ends s → Ends t → quoted_form xs ++ 39 ∷ s ≡ quoted_form ys ++ 39 ∷ t → (xs ≡ ys) × (s ≡ t)
quoted_front [] [] s t ss ts e = (refl, (cc))
quoted_front [] (y ∷ ys) s t ss ts e =
    absurd (quote_ends (y == 39) y s (quoted_form ys ++ 39 ∷ t) refl ss
    (e ∙ append_assoc (quoted_byte (y == 39) y) (quoted_form ys) (39 ∷ t)))
quoted_front (x ∷ xs) [] s t ss ts e =
    absurd (quote_ends (x == 39) x t (quoted_form xs ++ 39 ∷ s) refl ts
    (sym e ∙ append_assoc (quoted_byte (x == 39) x) (quoted_form xs) (39 ∷ s)))
quoted_front (x ∷ xs) (y ∷ ys) s t ss ts e =
    let first = byte_front (x == 39) (y == 39) x y (quoted_form xs ++ 39 ∷ s) (quoted_form ys ++ 39 ∷ t) refl refl
    (sym (append_assoc (quoted_byte (x == 39) x) (quoted_form xs) (39 ∷ s)) ∙ e
    ∙ append_assoc (quoted_byte (y == 39) y) (quoted_form ys) (39 ∷ t)) in
    let rest = quoted_front xs ys s t ss ts first.1 in
    (ap₂ (λ z zs. z ∷ zs) first.0 rest.0, rest.1)

abbrev pub is_text : Value → Bool
is_text (value.Text bytes) = true
is_text other = false

plain_value : (v : Value) → is_text v ≡ false → IsWidened v → list_all is_plain (value_text v) ≡ true
plain_value value.Null other wide = refl
plain_value (value.Bool true) other wide = refl
plain_value (value.Bool false) other wide = refl
plain_value (value.Int number) other wide = absurd wide
plain_value (value.Big number) other wide = signed_all is_plain digit_plain refl number wide
plain_value (value.Text bytes) other wide = absurd (true≢false other)

-- a number is no word
no_word : (z : ℤ) (word : List ℕ) → mag z ≤ 2 ^ 63 → list_all is_numeric word ≡ false → signed_decimal z ≡ word → ⊥
no_word z word small other e =
    true≢false (sym (signed_all is_numeric digit_numeric refl z small) ∙ ap (list_all is_numeric) e ∙ other)

digit_digit : (n : ℕ) → n < 10 → is_digit (48 + n) ≡ true
digit_digit = each_digit is_digit refl refl refl refl refl refl refl refl refl refl

-- a number without a sign does not begin with -
no_minus : (n : ℕ) (ds : List ℕ) → n < 2 ^ 64 → decimal n ≡ 45 ∷ ds → ⊥
no_minus n ds small e = true≢false (sym (decimal_all is_digit digit_digit n small) ∙ ap (list_all is_digit) e)

-- signed numbers with one text are one number
signed_same : (y z : ℤ) → mag y ≤ 2 ^ 63 → mag z ≤ 2 ^ 63 → signed_decimal y ≡ signed_decimal z → y ≡ z
signed_same (pos m) (pos n) p q e = ap pos (decimal_injective m n (omega (arith, p)) (omega (arith, q)) e)
signed_same (pos m) (negsuc n) p q e = absurd (no_minus m _ (omega (arith, p)) e)
signed_same (negsuc m) (pos n) p q e = absurd (no_minus n _ (omega (arith, q)) (sym e))
signed_same (negsuc m) (negsuc n) p q e =
    ap negsuc (omega (arith, decimal_injective (suc m) (suc n) (omega (arith, p)) (omega (arith, q)) (ap (drop 1) e)))

plain_same : (v w : Value) → is_text v ≡ false → is_text w ≡ false → IsWidened v → IsWidened w →
    value_text v ≡ value_text w → v ≡ w
plain_same (value.Text bytes) w nv nw wv ww e = absurd (true≢false nv)
plain_same v (value.Text bytes) nv nw wv ww e = absurd (true≢false nw)
plain_same (value.Int number) w nv nw wv ww e = absurd wv
plain_same v (value.Int number) nv nw wv ww e = absurd ww
plain_same (value.Big y) (value.Big z) nv nw wv ww e = ap value.Big (signed_same y z wv ww e)
plain_same (value.Big y) value.Null nv nw wv ww e = absurd (no_word y (codes "null") wv refl e)
plain_same (value.Big y) (value.Bool true) nv nw wv ww e = absurd (no_word y (codes "t") wv refl e)
plain_same (value.Big y) (value.Bool false) nv nw wv ww e = absurd (no_word y (codes "f") wv refl e)
plain_same value.Null (value.Big z) nv nw wv ww e = absurd (no_word z (codes "null") ww refl (sym e))
plain_same (value.Bool true) (value.Big z) nv nw wv ww e = absurd (no_word z (codes "t") ww refl (sym e))
plain_same (value.Bool false) (value.Big z) nv nw wv ww e = absurd (no_word z (codes "f") ww refl (sym e))
plain_same value.Null value.Null nv nw wv ww e = refl
plain_same (value.Bool true) (value.Bool true) nv nw wv ww e = refl
plain_same (value.Bool false) (value.Bool false) nv nw wv ww e = refl
plain_same value.Null (value.Bool true) nv nw wv ww e = absurd (apart 1 _ _ e refl)
plain_same value.Null (value.Bool false) nv nw wv ww e = absurd (apart 1 _ _ e refl)
plain_same (value.Bool true) value.Null nv nw wv ww e = absurd (apart 1 _ _ e refl)
plain_same (value.Bool false) value.Null nv nw wv ww e = absurd (apart 1 _ _ e refl)
plain_same (value.Bool true) (value.Bool false) nv nw wv ww e = absurd (apart 1 _ _ e refl)
plain_same (value.Bool false) (value.Bool true) nv nw wv ww e = absurd (apart 1 _ _ e refl)

-- values with what stands behind them
pub value_front : (v w : Value) (s t : List ℕ) → IsWidened v → IsWidened w → Ends s → Ends t →
    value_text v ++ s ≡ value_text w ++ t → (v ≡ w) × (s ≡ t)
value_front (value.Text x) (value.Text y) s t rv rw ss ts e =
    let inner : (quoted_form x ++ 39 ∷ []) ++ s ≡ (quoted_form y ++ 39 ∷ []) ++ t = cc in
    let rest = quoted_front x y s t ss ts
    (sym (append_assoc (quoted_form x) (39 ∷ []) s) ∙ inner ∙ append_assoc (quoted_form y) (39 ∷ []) t) in
    (ap value.Text rest.0, rest.1)
value_front (value.Text x) w s t rv rw ss ts e =
    absurd (no_quote (value_text w) t _ (plain_value w refl rw) ts (sym e))
value_front v (value.Text y) s t rv rw ss ts e =
    absurd (no_quote (value_text v) s _ (plain_value v refl rv) ss e)
value_front v w s t rv rw ss ts e =
    let ended = fronts is_plain (value_text v) (value_text w) s t (plain_value v refl rv) (plain_value w refl rw)
    (ends_stop s ss) (ends_stop t ts) e in
    (plain_same v w refl refl rv rw ended.0, ended.1)

begins_plain : (u r s : List ℕ) → list_all is_plain u ≡ true → 0 < length u → u ++ r ≡ 41 ∷ s → ⊥
begins_plain [] r s all some e = absurd (omega (arith, some))
begins_plain (x ∷ u) r s all some e = differ is_plain x 41 (left_holds (is_plain x) (list_all is_plain u) all) refl (cc)

-- no value begins with a bracket
pub no_bracket : (v : Value) (r s : List ℕ) → IsWidened v → value_text v ++ r ≡ 41 ∷ s → ⊥
no_bracket (value.Text bytes) r s wide e = absurd (apart 1 _ _ e refl)
no_bracket (value.Big number) r s wide e =
    begins_plain (signed_decimal number) r s (plain_value (value.Big number) refl wide) (signed_nonempty number wide) e
no_bracket (value.Int number) r s wide e = absurd wide
no_bracket value.Null r s wide e = absurd (apart 1 _ _ e refl)
no_bracket (value.Bool true) r s wide e = absurd (apart 1 _ _ e refl)
no_bracket (value.Bool false) r s wide e = absurd (apart 1 _ _ e refl)
