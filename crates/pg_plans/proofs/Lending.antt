-- Lists of lent rows that grow at their end.
use Rattle.std.proofs.Common.{◌≡◌, refl, ap, ◌∙◌, List, [], ◌∷◌, ◌++◌, append_assoc, map, Bool, true, Option}
use Rattle.std.proofs.lemmas.List.{map-append}
use Rattle.std.specs.Borrow.{Bor}
use Rattle.std.specs.Option.{option_copied}
use Rattle.std.specs.Prelude.{Ok}
use Rattle.pg_exprs.specs.Tree.{Tree}
use Rattle.pg_world.specs.Candidates.{passing_before, selected_candidate}
use Rattle.pg_world.specs.Evaluation.{OrError, all_values, value_before}
use Rattle.pg_world.specs.declared.candidate.SeenRow.{SeenRow}
use Rattle.pg_values.specs.declared.value.Value.{Value}
use Rattle.pg_plans.specs.LentRows.{all_lent_rows, lent_rows, output_candidates, output_candidate}
use Rattle.pg_returning.specs.Outcomes.{values_behind}
use Rattle.pg_returning.proofs.Steps.{step_value}

-- one item more at the end of a list that is mapped
mapped : {X Y : Type 0} (f : X → Y) (before after : List X) (item : X) (value : Y) (rest : List Y) →
    after ≡ before ++ item ∷ [] → f item ≡ value →
    map f after ++ rest ≡ map f before ++ value ∷ rest
mapped f before after item value rest is valued =
    ap (λ items. map f items ++ rest) is
    ∙ ap (λ items. items ++ rest) (map-append f before (item ∷ []))
    ∙ append_assoc (map f before) (f item ∷ []) rest
    ∙ ap (λ one. map f before ++ one ∷ rest) valued

pub step_lent : (before after : List (Bor SeenRow)) (item : Bor SeenRow) (rest : List SeenRow) →
    after ≡ before ++ item ∷ [] → lent_rows after ++ rest ≡ lent_rows before ++ item.now ∷ rest
step_lent before after item rest is =
    mapped (λ row. row.now) before after item item.now rest is refl

pub step_all_lent : (before after : List (List (Bor SeenRow))) (item : List (Bor SeenRow))
    (rows : List SeenRow) (rest : List (List SeenRow)) →
    after ≡ before ++ item ∷ [] → lent_rows item ≡ rows →
    all_lent_rows after ++ rest ≡ all_lent_rows before ++ rows ∷ rest
step_all_lent before after item rows rest is valued =
    mapped lent_rows before after item rows rest is valued

pub step_rows : (before after : List (Option (Bor (List Value))))
    (item : Option (Bor (List Value))) (values : Option (List Value))
    (rest : List (Option (List Value))) →
    after ≡ before ++ item ∷ [] → option_copied item ≡ values →
    map option_copied after ++ rest ≡ map option_copied before ++ values ∷ rest
step_rows before after item values rest is valued =
    mapped option_copied before after item values rest is valued

-- rows that have passed
pub step_passed : (before after : List (List (Bor SeenRow))) (item : List (Bor SeenRow))
    (rows : List SeenRow) (passed : OrError Bool) (others : OrError (List (List SeenRow))) →
    after ≡ before ++ item ∷ [] → lent_rows item ≡ rows → Ok true ≡ passed →
    values_behind (all_lent_rows after) others
    ≡ values_behind (all_lent_rows before) (passing_before rows passed others)
step_passed before after item rows passed others is valued true_of =
    step_value (all_lent_rows before) (all_lent_rows after) rows (Ok rows) others
    (pushed before after item rows is valued) refl
    ∙ ap (λ one. values_behind (all_lent_rows before) (passing_before rows one others)) true_of
  where
    pushed : (before after : List (List (Bor SeenRow))) (item : List (Bor SeenRow))
        (rows : List SeenRow) →
        after ≡ before ++ item ∷ [] → lent_rows item ≡ rows →
        all_lent_rows after ≡ all_lent_rows before ++ rows ∷ []
    pushed before after item rows is valued =
        ap all_lent_rows is ∙ map-append lent_rows before (item ∷ [])
        ∙ ap (λ one. all_lent_rows before ++ one ∷ []) valued

-- the candidates of all rows
pub all_selected : (items : List Tree) (rows : List (List SeenRow)) →
    output_candidates items rows ≡ all_values (map (selected_candidate items) rows)
unfolding output_candidate
all_selected items [] = refl
all_selected items (partners ∷ others) =
    ap (λ left. value_before (selected_candidate items partners) left) (all_selected items others)
