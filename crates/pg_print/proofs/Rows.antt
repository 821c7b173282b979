-- Rows and tags, told apart by their texts.
use Rattle.std.proofs.Common.{arith, ◌≡◌, refl, sym, ◌∙◌, ap, ap₂, ℕ, zero, suc, ◌+◌, ◌<◌, ◌^◌, true, List, [], ◌∷◌, ◌++◌, append_assoc, decimal, flat_map, codes}
use Rattle.std.specs.List.{All}
use Rattle.std.proofs.lemmas.Fmt.{decimal_injective}
use Rattle.std.proofs.lemmas.List.{append_cancel_left}
use Rattle.pg_values.specs.declared.value.Value.{Value}
use Rattle.pg_names.specs.Names.{is_digit}
use Rattle.pg_model.specs.declared.journal.Tag.{Tag}
use Rattle.pg_model.specs.declared.journal.Tag.TheVariants as tag
use Rattle.pg_model.specs.Texts.{row_text, tag_text, value_text}
use Rattle.pg_print.specs.Laws.{AreWidened, IsTag, IsWidened}
use Rattle.pg_print.proofs.Fronts.{Stops, apart, decimal_all, each_digit, fronts}
use Rattle.pg_print.proofs.Joined.{first_and_more}
use Rattle.pg_print.proofs.Values.{Ends, no_bracket, value_front}

first_of_all : {X : Type 0} (P : X → Type 0) (x : X) (xs : List X) → All P (x ∷ xs) → P x
first_of_all P x xs all = all zero x (omega arith)

others_of_all : {X : Type 0} (P : X → Type 0) (x : X) (xs : List X) → All P (x ∷ xs) → All P xs
others_of_all P x xs all = λ k d within. all (suc k) d (omega (arith, within))

-- the values of a row but the first
abbrev pub more_text : List Value → List ℕ
more_text values = flat_map (λ value. 124 ∷ value_text value) values

more_ends : (xs : List Value) (s : List ℕ) → Ends (more_text xs ++ 41 ∷ s)
more_ends [] s = (refl, refl)
more_ends (x ∷ xs) s = (refl, refl)

more_front : (xs ys : List Value) (s t : List ℕ) → All IsWidened xs → All IsWidened ys →
    more_text xs ++ 41 ∷ s ≡ more_text ys ++ 41 ∷ t → (xs ≡ ys) × (s ≡ t)
more_front [] [] s t wx wy e = (refl, (cc))
more_front [] (y ∷ ys) s t wx wy e = absurd (apart 1 _ _ e refl)
more_front (x ∷ xs) [] s t wx wy e = absurd (apart 1 _ _ e refl)
more_front (x ∷ xs) (y ∷ ys) s t wx wy e =
    let inner : (value_text x ++ more_text xs) ++ 41 ∷ s ≡ (value_text y ++ more_text ys) ++ 41 ∷ t = cc in
    let first = value_front x y (more_text xs ++ 41 ∷ s) (more_text ys ++ 41 ∷ t) (first_of_all IsWidened x xs wx)
    (first_of_all IsWidened y ys wy) (more_ends xs s) (more_ends ys t)
    (sym (append_assoc (value_text x) (more_text xs) (41 ∷ s)) ∙ inner
    ∙ append_assoc (value_text y) (more_text ys) (41 ∷ t)) in
    let rest = more_front xs ys s t (others_of_all IsWidened x xs wx) (others_of_all IsWidened y ys wy) first.1 in
    (ap₂ (λ z zs. z ∷ zs) first.0 rest.0, rest.1)

-- a row that is not empty, and what stands behind it
row_split : (x : Value) (xs : List Value) (s : List ℕ) →
    row_text (x ∷ xs) ++ s ≡ value_text x ++ (more_text xs ++ s)
row_split x xs s = ap (λ text. text ++ s) (first_and_more x xs) ∙ append_assoc (value_text x) (more_text xs) s

row_front : (xs ys : List Value) (s t : List ℕ) → All IsWidened xs → All IsWidened ys →
    row_text xs ++ 41 ∷ s ≡ row_text ys ++ 41 ∷ t → (xs ≡ ys) × (s ≡ t)
row_front [] [] s t wx wy e = (refl, (cc))
row_front [] (y ∷ ys) s t wx wy e =
    absurd (no_bracket y (more_text ys ++ 41 ∷ t) s (first_of_all IsWidened y ys wy)
    (sym (row_split y ys (41 ∷ t)) ∙ sym e))
row_front (x ∷ xs) [] s t wx wy e =
    absurd (no_bracket x (more_text xs ++ 41 ∷ s) t (first_of_all IsWidened x xs wx)
    (sym (row_split x xs (41 ∷ s)) ∙ e))
row_front (x ∷ xs) (y ∷ ys) s t wx wy e =
    let first = value_front x y (more_text xs ++ 41 ∷ s) (more_text ys ++ 41 ∷ t) (first_of_all IsWidened x xs wx)
    (first_of_all IsWidened y ys wy) (more_ends xs s) (more_ends ys t)
    (sym (row_split x xs (41 ∷ s)) ∙ e ∙ row_split y ys (41 ∷ t)) in
    let rest = more_front xs ys s t (others_of_all IsWidened x xs wx) (others_of_all IsWidened y ys wy) first.1 in
    (ap₂ (λ z zs. z ∷ zs) first.0 rest.0, rest.1)

-- rows, each in brackets
abbrev pub rows_text : List (List Value) → List ℕ
rows_text rows = flat_map (λ row. codes " (" ++ row_text row ++ codes ")") rows

-- the first row, from its bracket on
rows_split : (x : List Value) (xs : List (List Value)) → rows_text (x ∷ xs) ≡ 32 ∷ 40 ∷ (row_text x ++ 41 ∷ rows_text xs)
rows_split x xs = ap (λ text. 32 ∷ 40 ∷ text) (append_assoc (row_text x) (41 ∷ []) (rows_text xs))

pub rows_same : (xs ys : List (List Value)) → AreWidened xs → AreWidened ys → rows_text xs ≡ rows_text ys → xs ≡ ys
rows_same [] [] wx wy e = refl
rows_same [] (y ∷ ys) wx wy e = absurd (apart 1 _ _ e refl)
rows_same (x ∷ xs) [] wx wy e = absurd (apart 1 _ _ e refl)
rows_same (x ∷ xs) (y ∷ ys) wx wy e =
    let inner = sym (rows_split x xs) ∙ e ∙ rows_split y ys in
    let first = row_front x y (rows_text xs) (rows_text ys) (first_of_all (All IsWidened) x xs wx)
    (first_of_all (All IsWidened) y ys wy) (cc) in
    ap₂ (λ z zs. z ∷ zs) first.0
    (rows_same xs ys (others_of_all (All IsWidened) x xs wx) (others_of_all (All IsWidened) y ys wy) first.1)

pub digit_is : (n : ℕ) → n < 10 → is_digit (48 + n) ≡ true
digit_is = each_digit is_digit refl refl refl refl refl refl refl refl refl refl

rows_stop : (rows : List (List Value)) → Stops is_digit (rows_text rows)
rows_stop [] = tt
rows_stop (x ∷ xs) = refl

-- a number with rows behind it
number_front : (m n : ℕ) (xs ys : List (List Value)) → m < 2 ^ 64 → n < 2 ^ 64 →
    decimal m ++ rows_text xs ≡ decimal n ++ rows_text ys → (m ≡ n) × (rows_text xs ≡ rows_text ys)
number_front m n xs ys sm sn e =
    let ended = fronts is_digit (decimal m) (decimal n) (rows_text xs) (rows_text ys) (decimal_all is_digit digit_is m sm)
    (decimal_all is_digit digit_is n sn) (rows_stop xs) (rows_stop ys) e in
    (decimal_injective m n sm sn ended.0, ended.1)

-- tags with rows behind them
pub tag_front : (a b : Tag) (xs ys : List (List Value)) → IsTag a → IsTag b →
    tag_text a ++ rows_text xs ≡ tag_text b ++ rows_text ys → (a ≡ b) × (rows_text xs ≡ rows_text ys)
tag_front tag.Begin tag.Begin xs ys fa fb e = (refl, append_cancel_left (codes "BEGIN") _ _ e)
tag_front tag.Commit tag.Commit xs ys fa fb e = (refl, append_cancel_left (codes "COMMIT") _ _ e)
tag_front tag.Rollback tag.Rollback xs ys fa fb e = (refl, append_cancel_left (codes "ROLLBACK") _ _ e)
tag_front (tag.Insert m) (tag.Insert n) xs ys fa fb e =
    let ended = number_front m n xs ys fa fb (append_cancel_left (codes "INSERT 0 ") _ _ e) in
    (ap tag.Insert ended.0, ended.1)
tag_front (tag.Update m) (tag.Update n) xs ys fa fb e =
    let ended = number_front m n xs ys fa fb (append_cancel_left (codes "UPDATE ") _ _ e) in
    (ap tag.Update ended.0, ended.1)
tag_front (tag.Delete m) (tag.Delete n) xs ys fa fb e =
    let ended = number_front m n xs ys fa fb (append_cancel_left (codes "DELETE ") _ _ e) in
    (ap tag.Delete ended.0, ended.1)
tag_front (tag.Select m) (tag.Select n) xs ys fa fb e =
    let ended = number_front m n xs ys fa fb (append_cancel_left (codes "SELECT ") _ _ e) in
    (ap tag.Select ended.0, ended.1)
tag_front a b xs ys fa fb e = absurd (apart 1 (tag_text a ++ rows_text xs) (tag_text b ++ rows_text ys) e refl)
