-- A row: its first value, and each other value behind a `|`.
use Rattle.std.proofs.Common.{◌≡◌, ℕ, List, [], ◌∷◌, ◌++◌, ap, rules, append_assoc}
use Rattle.std.specs.Prelude.{flat_map}
use Rattle.pg_values.specs.declared.value.Value.{Value}
use Rattle.pg_model.specs.Texts.{row_text, value_text}

pub first_and_more : (x : Value) (xs : List Value) →
    row_text (x ∷ xs) ≡ value_text x ++ flat_map (λ value. 124 ∷ value_text value) xs
first_and_more x [] = search rules
first_and_more x (y ∷ ys) = ap (λ rest. value_text x ++ (124 ∷ rest)) (first_and_more y ys)

-- what is put behind a text by the first value and then the others is the row's text
pub row_put : (values : List Value) (x : Value) (xs : List Value) (before middle after : List ℕ) → values ≡ x ∷ xs →
    middle ≡ before ++ value_text x → after ≡ middle ++ flat_map (λ value. 124 ∷ value_text value) xs →
    after ≡ before ++ row_text values
row_put values x xs before middle after is first more = rw (is, more, first, first_and_more x xs, append_assoc)
