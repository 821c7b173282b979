-- Lists that grow at their end.
use Rattle.std.proofs.Common.{◌≡◌, ap, ◌∙◌, List, ◌++◌, append_assoc}

-- what is put behind is taken from what is left
pub step_list : {X : Type 0} (before after more rest : List X) → after ≡ before ++ more →
    after ++ rest ≡ before ++ (more ++ rest)
step_list before after more rest is = ap (λ items. items ++ rest) is ∙ append_assoc before more rest
