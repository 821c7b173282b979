-- Numbers of sessions and tables, told apart by the names that they have.
use Rattle.std.proofs.Common.{arith, ◌≡◌, refl, sym, ◌∙◌, ap, ℕ, zero, suc, ◌<◌, Bool, true, false, true≢false, not, ◌&&◌, ◌||◌, List, [], ◌∷◌, ◌++◌, append_assoc, codes, length, map, nat_le, slice_get, bytes_eq, unwrap_or}
use Rattle.std.specs.Bool.{Decides}
use Rattle.std.specs.List.{list_all}
use Rattle.std.proofs.lemmas.List.{append_cancel_left}
use Rattle.std.proofs.lemmas.Slice.Eq.{bytes_eq-Decides}
use Rattle.pg_names.specs.Names.{are_distinct, is_among, is_name, is_name_byte}
use Rattle.pg_model.specs.declared.catalogue.TableShape.{TableShape}
use Rattle.pg_model.specs.Errors.{quoted_name}
use Rattle.pg_model.specs.Limits.{is_written, most_columns}
use Rattle.pg_model.specs.Statements.{is_check, is_column, is_shape}
use Rattle.pg_print.proofs.Fronts.{both, fronts, left_holds, right_holds}

-- the name of a number, or the empty name
abbrev pub name_at : List (List ℕ) → ℕ → List ℕ
name_at names number = unwrap_or (slice_get names number) []

not_holds : (a : Bool) → not a ≡ true → a ≡ false
not_holds false e = refl
not_holds true e = absurd (true≢false (sym e))

left_absent : (a b : Bool) → (a || b) ≡ false → a ≡ false
left_absent false b e = refl
left_absent true b e = e

right_absent : (a b : Bool) → (a || b) ≡ false → b ≡ false
right_absent false b e = e
right_absent true b e = absurd (true≢false e)

apart_by : (x y : List ℕ) (a : Bool) → Decides a (x ≡ y) → a ≡ false → x ≡ y → ⊥
apart_by x y true decides other e = true≢false other
apart_by x y false decides other e = true≢false (sym (decides.1 e))

-- what is not among names is none of them
not_at : (names : List (List ℕ)) (x : List ℕ) (i : ℕ) → is_among names x ≡ false → i < length names →
    x ≡ name_at names i → ⊥
not_at [] x i absent within e = absurd (omega (arith, within))
not_at (y ∷ ys) x zero absent within e =
    apart_by x y (bytes_eq x y) (bytes_eq-Decides x y) (left_absent (bytes_eq x y) (is_among ys x) absent) e
not_at (y ∷ ys) x (suc i) absent within e =
    not_at ys x i (right_absent (bytes_eq x y) (is_among ys x) absent) (omega (arith, within)) e

-- of names that differ each has one number
pub one_number : (names : List (List ℕ)) (i j : ℕ) → are_distinct names ≡ true → i < length names →
    j < length names → name_at names i ≡ name_at names j → i ≡ j
one_number [] i j distinct wi wj e = absurd (omega (arith, wi))
one_number (x ∷ xs) zero zero distinct wi wj e = refl
one_number (x ∷ xs) zero (suc j) distinct wi wj e =
    absurd (not_at xs x j (not_holds (is_among xs x) (left_holds (not (is_among xs x)) (are_distinct xs) distinct))
    (omega (arith, wj)) e)
one_number (x ∷ xs) (suc i) zero distinct wi wj e =
    absurd (not_at xs x i (not_holds (is_among xs x) (left_holds (not (is_among xs x)) (are_distinct xs) distinct))
    (omega (arith, wi)) (sym e))
one_number (x ∷ xs) (suc i) (suc j) distinct wi wj e =
    ap suc (one_number xs i j (right_holds (not (is_among xs x)) (are_distinct xs) distinct) (omega (arith, wi))
    (omega (arith, wj)) e)

first_of_three : (a b c : Bool) → (a && b && c) ≡ true → a ≡ true
first_of_three true b c e = refl
first_of_three false b c e = e

first_of_six : (a b c d e f : Bool) → (a && b && c && d && e && f) ≡ true → a ≡ true
first_of_six true b c d e f h = refl
first_of_six false b c d e f h = h

-- the name of a number is a name
pub name_at_holds : (names : List (List ℕ)) (i : ℕ) → list_all is_written names ≡ true → is_name (name_at names i) ≡ true
name_at_holds [] i all = refl
name_at_holds (x ∷ xs) zero all =
    first_of_three (is_name x) (nat_le 1 (length x)) (nat_le (length x) 63)
    (left_holds (is_written x) (list_all is_written xs) all)
name_at_holds (x ∷ xs) (suc i) all = name_at_holds xs i (right_holds (is_written x) (list_all is_written xs) all)

-- the tables of a catalogue have names that can be written
pub shapes_written : (shapes : List TableShape) → list_all is_shape shapes ≡ true →
    list_all is_written (map (λ shape. shape.name) shapes) ≡ true
shapes_written [] all = refl
shapes_written (shape ∷ shapes) all =
    both (first_of_six (is_written shape.name) (nat_le 1 (length shape.columns))
    (nat_le (length shape.columns) most_columns) (are_distinct (map (λ column. column.name) shape.columns))
    (list_all is_column shape.columns) (list_all (is_check shape.columns) shape.checks)
    (left_holds (is_shape shape) (list_all is_shape shapes) all))
    (shapes_written shapes (right_holds (is_shape shape) (list_all is_shape shapes) all))

-- names with a space behind them
pub name_front : (x y s t : List ℕ) → is_name x ≡ true → is_name y ≡ true →
    x ++ codes " " ++ s ≡ y ++ codes " " ++ t → (x ≡ y) × (s ≡ t)
name_front x y s t xn yn e =
    let ended = fronts is_name_byte x y (32 ∷ s) (32 ∷ t) xn yn refl refl
    (sym (append_assoc x (32 ∷ []) s) ∙ e ∙ append_assoc y (32 ∷ []) t) in
    let behind : 32 ∷ s ≡ 32 ∷ t = ended.1 in
    (ended.0, (cc))

-- names between words
pub named_same : (before after x y : List ℕ) → is_name x ≡ true → is_name y ≡ true →
    before ++ (quoted_name x ++ after) ≡ before ++ (quoted_name y ++ after) → x ≡ y
named_same before after x y xn yn e =
    let inner : quoted_name x ++ after ≡ quoted_name y ++ after = append_cancel_left before _ _ e in
    let behind : (x ++ 34 ∷ []) ++ after ≡ (y ++ 34 ∷ []) ++ after = cc in
    (fronts is_name_byte x y (34 ∷ after) (34 ∷ after) xn yn refl refl
    (sym (append_assoc x (34 ∷ []) after) ∙ behind ∙ append_assoc y (34 ∷ []) after)).0
