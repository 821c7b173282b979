-- Lines are taken one behind the other.
use Rattle.std.proofs.Common.{append-nil, ◌≡◌, refl, sym, ◌∙◌, ap, subst, ℕ, List, [], ◌∷◌, ◌++◌}
use Rattle.std.proofs.lemmas.List.{append_assoc}
use Rattle.pg_script.specs.declared.draft.Draft.{Draft}
use Rattle.pg_script.specs.Drafts.{AreTaken, IsReadTo, IsTaken}

-- at the start no line was taken
pub reached_first : (draft : Draft) (lines : List (List ℕ)) → IsReadTo draft lines lines draft
reached_first draft lines = record { before = []; split = refl; taken = refl }

taken_more : (old middle new : Draft) (before : List (List ℕ)) (line : List ℕ) → AreTaken old before middle →
    IsTaken middle line new → AreTaken old (before ++ line ∷ []) new
taken_more old middle new [] line taken one = (new, subst (λ d. IsTaken d line new) taken one, refl)
taken_more old middle new (first ∷ before) line taken one =
    (taken.0, taken.1, taken_more taken.0 middle new before line taken.2 one)

-- one line more was taken
pub reached_more : (old middle new : Draft) (lines rest more : List (List ℕ)) (line : List ℕ) →
    IsReadTo old lines rest middle → rest ≡ line ∷ more → IsTaken middle line new → IsReadTo old lines more new
reached_more old middle new lines rest more line reached is one =
    record {
      before = reached.before ++ line ∷ [];
      split = reached.split ∙ ap (λ l. reached.before ++ l) is ∙ sym (append_assoc reached.before (line ∷ []) more);
      taken = taken_more old middle new reached.before line reached.taken one;
    }

-- where no line is left, all were taken
pub reached_all : (old new : Draft) (lines rest : List (List ℕ)) → IsReadTo old lines rest new → rest ≡ [] →
    AreTaken old lines new
reached_all old new lines rest reached none =
    subst (λ l. AreTaken old l new)
    (sym (reached.split ∙ ap (λ l. reached.before ++ l) none ∙ append-nil reached.before)) reached.taken

-- a draft that was reached before a line
pub reached_at : (old draft : Draft) (lines rest more : List (List ℕ)) (line : List ℕ) → IsReadTo old lines rest draft →
    rest ≡ line ∷ more → IsReadTo old lines (line ∷ more) draft
reached_at old draft lines rest more line reached is = subst (λ r. IsReadTo old lines r draft) is reached
