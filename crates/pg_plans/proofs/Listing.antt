-- The end of a row of VALUES that is shorter than the list of columns.
use Rattle.std.proofs.Common.{◌≡◌, ◌≤◌, refl, sym, ap, ◌∙◌, List, ℕ, zero, suc, [], ◌∷◌, drop, length, arith}
use Rattle.std.proofs.lemmas.List.{append-nil}
use Rattle.std.specs.Prelude.{Ok}
use Rattle.pg_values.specs.declared.value.Value.{Value}
use Rattle.pg_exprs.specs.Tree.{Tree}
use Rattle.pg_model.specs.declared.catalogue.Column.{Column}
use Rattle.pg_world.specs.Candidates.{listed_values}
use Rattle.pg_world.specs.Evaluation.{OrError, all_values}
use Rattle.pg_returning.specs.Outcomes.{values_behind}

past_end : (xs : List Tree) (n : ℕ) → length xs ≤ n → drop n xs ≡ []
past_end [] zero over = refl
past_end [] (suc n) over = refl
past_end (x ∷ xs) zero over = absurd (omega (arith, over))
past_end (x ∷ xs) (suc n) over = past_end xs n (omega (arith, over))

of_none : (columns : List Column) (numbers : List ℕ) → listed_values columns numbers [] ≡ []
of_none columns [] = refl
of_none columns (number ∷ numbers) = refl

-- behind the last expression no value is listed
pub none_listed : (columns : List Column) (numbers : List ℕ) (trees : List Tree) (n : ℕ) →
    length trees ≤ n →
    listed_values columns numbers (drop n trees) ≡ []
none_listed columns numbers trees n over =
    ap (λ left. listed_values columns numbers left) (past_end trees n over)
    ∙ of_none columns numbers

-- a row that ends before the list of columns is all listed
pub short_row : (columns : List Column) (numbers : List ℕ) (trees : List Tree) (n : ℕ)
    (listed : List (ℕ × Value)) (all : OrError (List (ℕ × Value))) →
    length trees ≤ n →
    values_behind listed (all_values (listed_values columns numbers (drop n trees))) ≡ all →
    Ok listed ≡ all
short_row columns numbers trees n listed all over is =
    sym (ap (λ values. Ok values) (append-nil listed))
    ∙ sym
    (ap (λ left. values_behind listed (all_values left))
    (none_listed columns numbers trees n over))
    ∙ is
