-- Lists that grow at their end, while what is left is yet to be evaluated.
use Rattle.std.proofs.Common.{◌≡◌, refl, ap, ◌∙◌, List, [], ◌∷◌, ◌++◌, append_assoc}
use Rattle.std.specs.Prelude.{Ok, Err}
use Rattle.pg_world.specs.Evaluation.{OrError, value_before}
use Rattle.pg_returning.specs.Outcomes.{values_behind}

grown : {X : Type 0} (before : List X) (value : X) (others : OrError (List X)) →
    values_behind (before ++ value ∷ []) others
    ≡ values_behind before (value_before (Ok value) others)
grown before value (Ok values) = ap (λ all. Ok all) (append_assoc before (value ∷ []) values)
grown before value (Err error) = refl

-- one value more, which is the first of what was left
pub step_value : {X : Type 0} (before after : List X) (value : X) (first : OrError X)
    (others : OrError (List X)) →
    after ≡ before ++ value ∷ [] → Ok value ≡ first →
    values_behind after others ≡ values_behind before (value_before first others)
step_value before after value first others is valued =
    ap (λ all. values_behind all others) is ∙ grown before value others
    ∙ ap (λ one. values_behind before (value_before one others)) valued

-- what is put behind is taken from what is left
pub step_list : {X : Type 0} (before after more rest : List X) → after ≡ before ++ more →
    after ++ rest ≡ before ++ (more ++ rest)
step_list before after more rest is = ap (λ items. items ++ rest) is ∙ append_assoc before more rest
