-- Lines that were taken one behind the other have forms that are fine, and the draft has what these say.
use Rattle.std.proofs.Common.{append-nil, length-append, arith, ◌≡◌, refl, sym, ◌∙◌, ap, subst, ℕ, ◌+◌, false, ◌&&◌, List, [], ◌∷◌, ◌++◌, length}
use Rattle.std.specs.List.{AllByRecursion, AllZip, list_any}
use Rattle.std.proofs.lemmas.List.{append_assoc}
use Rattle.pg_model.specs.declared.script.Mode.{Mode}
use Rattle.pg_line.specs.declared.form.LineForm.{LineForm}
use Rattle.pg_line.specs.Forms.{IsFormOf}
use Rattle.pg_script.specs.declared.draft.Draft.{Draft}
use Rattle.pg_script.specs.declared.fault.Reason.{Reason}
use Rattle.pg_script.specs.Drafts.{AreTaken, IsAdded, IsDraftOf, early_reasons, empty_draft, is_other}
use Rattle.pg_script.specs.Parts.{catalogue_of, sessions_of}
use Rattle.pg_script.specs.Reading.{AreFine}
use Rattle.pg_script.specs.Reasons.{is_setup, setup_reasons}
use Rattle.pg_script.proofs.Firsts.{left_none, not_told, right_none}
use Rattle.pg_script.proofs.Held.{catalogue_more, others_more, sessions_more}
use Rattle.pg_script.proofs.Settled.{Known, Settled, all_known_grow, all_settled_grow, settled_grows, tables_follow}
use Rattle.pg_script.proofs.Steps.{all_more, fine_more, lines_more, reasons_are, rows_more, sessions_follow, settled_now}

-- the lines are fine, and the draft has what they say
pub record IsHeld (mode : Mode) (forms : List LineForm) (draft : Draft) : Type 0 where
  pub is : IsDraftOf mode forms draft
  pub fine : AreFine mode forms
  pub settled : AllByRecursion (Settled (catalogue_of forms)) forms
  pub known : AllByRecursion (Known (sessions_of forms)) forms

-- at the start there is no line
pub held_empty : (mode : Mode) → IsHeld mode [] (empty_draft mode)
held_empty mode =
    record {
      is = record { number = refl; mode_is = refl; sessions = refl; catalogue = refl; setup = refl; lines = refl; past_setup = refl };
      fine = λ before after line split. absurd (no before after line split);
      settled = tt;
      known = tt;
    }
  where
    no : (before after : List LineForm) (line : LineForm) → [] ≡ before ++ line ∷ after → ⊥
    no [] after line split = absurd (cc)
    no (b ∷ before) after line split = absurd (cc)

none_both : (xs ys : List Reason) → xs ≡ [] → ys ≡ [] → xs ++ ys ≡ []
none_both xs ys x y = rw (x, y) refl

draft_more : (mode : Mode) (forms : List LineForm) (old new : Draft) (line : LineForm) → IsHeld mode forms old →
    Settled (catalogue_of forms) line → (is_setup line && list_any is_other forms) ≡ false → IsAdded old line new →
    IsDraftOf mode (forms ++ line ∷ []) new
draft_more mode forms old new line held settled order added =
    record {
      number = added.number ∙ ap (λ n. n + 1) held.is.number ∙ counted;
      mode_is = added.mode_is ∙ held.is.mode_is;
      sessions = sessions;
      catalogue = added.catalogue ∙ rw held.is.catalogue (sym (catalogue_more forms line));
      setup = added.setup ∙ rw (held.is.setup, held.is.catalogue, held.is.number) (sym (rows_more forms line held.settled settled));
      lines = added.lines ∙ rw (sessions, held.is.lines, held.is.catalogue, held.is.number) (sym (lines_more forms line order held.known));
      past_setup = added.past_setup ∙ rw held.is.past_setup (sym (others_more forms line));
    }
  where
    sessions : new.sessions ≡ sessions_of (forms ++ line ∷ [])
    sessions = added.sessions ∙ rw held.is.sessions (sym (sessions_more forms line))

    counted : length forms + 2 + 1 ≡ length (forms ++ line ∷ []) + 2
    counted = rw length-append (omega arith)

-- one line more
pub held_more : (mode : Mode) (forms : List LineForm) (old new : Draft) (line : LineForm) → IsHeld mode forms old →
    early_reasons old line ≡ [] → setup_reasons old.catalogue line ≡ [] → IsAdded old line new →
    IsHeld mode (forms ++ line ∷ []) new
held_more mode forms old new line held early late added =
    let settled : Settled (catalogue_of forms) line =
    subst (λ c. Settled c line) held.is.catalogue (settled_now old line early late) in
    let order : (is_setup line && list_any is_other forms) ≡ false =
    subst (λ past. (is_setup line && past) ≡ false) held.is.past_setup
    (not_told _ _ (right_none _ _ (left_none _ _ (left_none _ _ (left_none _ _ early))))) in
    let tables = tables_follow (catalogue_of forms) line in
    let follow = sessions_follow (sessions_of forms) line in
    let same_tables = sym (catalogue_more forms line ∙ tables.1) in
    let same_sessions = sym (sessions_more forms line ∙ follow.0.1) in
    record {
      is = draft_more mode forms old new line held settled order added;
      fine = fine_more mode forms line held.fine (sym (reasons_are mode forms old line held.is) ∙ none_both _ _ early late);
      settled =
          subst (λ c. AllByRecursion (Settled c) (forms ++ line ∷ [])) same_tables
          (all_more (Settled (catalogue_of forms ++ tables.0)) forms line
          (all_settled_grow (catalogue_of forms) tables.0 forms held.settled)
          (settled_grows (catalogue_of forms) tables.0 line settled));
      known =
          all_more (Known (sessions_of (forms ++ line ∷ []))) forms line
          (subst (λ s. AllByRecursion (Known s) forms) same_sessions
          (all_known_grow (sessions_of forms) follow.0.0 forms held.known))
          (subst (λ s. Known s line) (sym (sessions_more forms line)) follow.1);
    }

-- the forms of lines that were taken behind others
pub record AreHeld (mode : Mode) (done : List LineForm) (lines : List (List ℕ)) (draft : Draft) : Type 0 where
  pub forms : List LineForm
  pub formed : AllZip (IsFormOf 1) lines forms
  pub held : IsHeld mode (done ++ forms) draft

pub taken_held : (mode : Mode) (done : List LineForm) (lines : List (List ℕ)) (old new : Draft) → IsHeld mode done old →
    AreTaken old lines new → AreHeld mode done lines new
taken_held mode done [] old new held taken =
    record {
      forms = [];
      formed = tt;
      held = subst (λ forms. IsHeld mode forms new) (sym (append-nil done)) (subst (λ d. IsHeld mode done d) (sym taken) held);
    }
taken_held mode done (line ∷ lines) old new held taken =
    let one = taken.1 in
    let rest = taken_held mode (done ++ one.form ∷ []) lines taken.0 new
    (held_more mode done old taken.0 one.form held one.early one.late one.added) taken.2 in
    record {
      forms = one.form ∷ rest.forms;
      formed = (one.formed, rest.formed);
      held = subst (λ forms. IsHeld mode forms new) (append_assoc done (one.form ∷ []) rest.forms) rest.held;
    }

pub all_held : (mode : Mode) (lines : List (List ℕ)) (draft : Draft) → AreTaken (empty_draft mode) lines draft →
    AreHeld mode [] lines draft
all_held mode lines draft taken = taken_held mode [] lines (empty_draft mode) draft (held_empty mode) taken
