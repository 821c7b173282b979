-- Where a bare name stands.
use Rattle.std.proofs.Common.{◌≡◌, refl, sym, ◌∙◌, ℕ, List, [], ◌∷◌}
use Rattle.pg_exprs.specs.Tree.{column as resolved_column}
use Rattle.pg_model.specs.declared.error.SqlError.TheVariants as error
use Rattle.pg_resolve.specs.declared.scope.Found.TheVariants.{Nowhere, At, Several}
use Rattle.pg_resolve.specs.Resolved.{first_place, name_errors}
use Rattle.pg_resolve.specs.Scope.{found_in}

in_several : (places : List (ℕ × ℕ)) → found_in Several places ≡ Several
in_several [] = refl
in_several (place ∷ places) = in_several places

several_at : {s c : ℕ} → Several ≡ At s c → ⊥
several_at e = absurd (cc)

several_nowhere : Several ≡ Nowhere → ⊥
several_nowhere e = absurd (cc)

nowhere_at : {s c : ℕ} → Nowhere ≡ At s c → ⊥
nowhere_at e = absurd (cc)

nowhere_several : Nowhere ≡ Several → ⊥
nowhere_several e = absurd (cc)

at_nowhere : {s c : ℕ} → At s c ≡ Nowhere → ⊥
at_nowhere e = absurd (cc)

at_several : {s c : ℕ} → At s c ≡ Several → ⊥
at_several e = absurd (cc)

-- a name that is found once
pub one_place : (places : List (ℕ × ℕ)) (s c : ℕ) → found_in Nowhere places ≡ At s c →
    first_place places ≡ resolved_column s c
one_place [] s c e = absurd (nowhere_at e)
one_place (place ∷ []) s c e = cc
one_place (_ ∷ _ ∷ places) s c e = absurd (several_at (sym (in_several places) ∙ e))

pub one_errors : (name : List ℕ) (places : List (ℕ × ℕ)) (s c : ℕ) → found_in Nowhere places ≡ At s c →
    name_errors name places ≡ []
one_errors name [] s c e = absurd (nowhere_at e)
one_errors name (place ∷ []) s c e = refl
one_errors name (_ ∷ _ ∷ places) s c e = absurd (several_at (sym (in_several places) ∙ e))

-- a name that is not found
pub no_place : (name : List ℕ) (places : List (ℕ × ℕ)) → found_in Nowhere places ≡ Nowhere →
    name_errors name places ≡ error.NoColumn name ∷ []
no_place name [] e = refl
no_place name (place ∷ []) e = absurd (at_nowhere e)
no_place name (_ ∷ _ ∷ places) e = absurd (several_nowhere (sym (in_several places) ∙ e))

-- a name that is found more than once
pub several_places : (name : List ℕ) (places : List (ℕ × ℕ)) → found_in Nowhere places ≡ Several →
    name_errors name places ≡ error.Ambiguous name ∷ []
several_places name [] e = absurd (nowhere_several e)
several_places name (place ∷ []) e = absurd (at_several e)
several_places name (_ ∷ _ ∷ places) e = refl
