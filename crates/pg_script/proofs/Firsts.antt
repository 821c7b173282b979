-- The first of some reasons.
use Rattle.std.proofs.Common.{◌≡◌, refl, ap, sym, ◌≤◌, Bool, true, false, true≢false, not, List, [], ◌∷◌, ◌++◌, length, Some, None}
use Rattle.std.proofs.lemmas.Bool.{leb-true}
use Rattle.pg_model.specs.Limits.{most_sessions}
use Rattle.pg_line.specs.declared.form.LineForm.{LineForm}
use Rattle.pg_script.specs.declared.draft.Draft.{Draft}
use Rattle.pg_script.specs.declared.fault.Reason.{Reason}
use Rattle.pg_script.specs.Drafts.{early_reasons, first_of, with_names}
use Rattle.pg_script.specs.Parts.{session_names}
use Rattle.pg_script.specs.Reasons.{when}

-- where none is the first, there is none
pub none_first : (reasons : List Reason) → first_of reasons ≡ None → reasons ≡ []
none_first [] is = refl
none_first (reason ∷ reasons) is = absurd (cc)

-- the first stays the first
pub first_more : (reasons more : List Reason) (why : Reason) → first_of reasons ≡ Some why →
    first_of (reasons ++ more) ≡ Some why
first_more [] more why is = absurd (cc)
first_more (reason ∷ reasons) more why is = is

-- behind none, the next is the first
pub first_late : (reasons more : List Reason) (why : Reason) → first_of reasons ≡ None → why ∷ [] ≡ more →
    first_of (reasons ++ more) ≡ Some why
first_late [] more why none is = ap first_of (sym is)
first_late (reason ∷ reasons) more why none is = absurd (cc)

-- what has a first reason has it before others
pub first_is : (reasons : List Reason) (why : Reason) → first_of reasons ≡ Some why →
    (others : List Reason) × (reasons ≡ why ∷ others)
first_is [] why is = absurd (cc)
first_is (reason ∷ reasons) why is = let same : reason ≡ why = cc in (reasons, ap (λ r. r ∷ reasons) same)

-- of lists without an item none has one
pub left_none : (xs ys : List Reason) → xs ++ ys ≡ [] → xs ≡ []
left_none [] ys is = refl
left_none (x ∷ xs) ys is = absurd (cc)

pub right_none : (xs ys : List Reason) → xs ++ ys ≡ [] → ys ≡ []
right_none [] ys is = is
right_none (x ∷ xs) ys is = absurd (cc)

-- a reason that is not told does not apply
pub not_told : (applies : Bool) (why : Reason) → when applies why ≡ [] → applies ≡ false
not_told false why is = refl
not_told true why is = absurd (cc)

not_not : (b : Bool) → not b ≡ false → b ≡ true
not_not true is = refl
not_not false is = absurd (true≢false is)

-- who is not refused for the number of sessions keeps it
pub few_by : (draft : Draft) (line : LineForm) → early_reasons draft line ≡ [] →
    length (with_names draft.sessions (session_names line)) ≤ most_sessions
few_by draft line is =
    leb-true (length (with_names draft.sessions (session_names line))) most_sessions
    (not_not _ (not_told _ _ (right_none _ _ (left_none _ _ (left_none _ _ is)))))

pub few_sessions : (draft : Draft) (line : LineForm) → first_of (early_reasons draft line) ≡ None →
    length (with_names draft.sessions (session_names line)) ≤ most_sessions
few_sessions draft line is = few_by draft line (none_first (early_reasons draft line) is)
