-- Bytes have one reading.
use Rattle.std.proofs.Common.{append_assoc, arith, ◌≡◌, refl, sym, ◌∙◌, ap, subst, ℕ, List, [], ◌∷◌, ◌++◌, Some, None, Ok, Err, inl, inr}
use Rattle.std.specs.Prelude.{⊤}
use Rattle.std.specs.List.{AllByRecursion, AllZip}
use Rattle.pg_model.specs.declared.script.Mode.{Mode}
use Rattle.pg_line.specs.declared.form.LineForm.{LineForm}
use Rattle.pg_line.specs.declared.form.LineForm.TheVariants as form
use Rattle.pg_line.specs.Forms.{IsFormOf}
use Rattle.pg_line.specs.Laws.{IsSameForm}
use Rattle.pg_line.proofs.Outcomes.{at_most_one_form}
use Rattle.pg_script.specs.declared.fault.Reason.{Reason}
use Rattle.pg_script.specs.Bytes.{lines_in}
use Rattle.pg_script.specs.Headings.{Heading, heading_of}
use Rattle.pg_script.specs.Laws.{BytesSayOneScript, NoScriptIsRefused}
use Rattle.pg_script.specs.Parts.{catalogue_of, sessions_of}
use Rattle.pg_script.specs.Reading.{AreFine, AreForms, IsFirstRefused, LacksHeader}
use Rattle.pg_script.specs.Reasons.{name_reasons, place_reasons, reason_of_place, reasons_of}
use Rattle.pg_script.proofs.Firsts.{left_none, right_none}

-- ---- forms without a fault

-- what stands where a statement is written is one
abbrev Faultless : LineForm → Type 0
Faultless (form.Setup (Ok tree)) = ⊤
Faultless (form.Setup (Err fault)) = ⊥
Faultless (form.Given session (Ok tree)) = ⊤
Faultless (form.Given session (Err fault)) = ⊥
Faultless form.Comment = ⊤
Faultless (form.Pause session label) = ⊤
Faultless (form.Go session) = ⊤
Faultless (form.Cut session) = ⊤
Faultless form.Unknown = ⊤

no_reason : (xs : List Reason) (x : Reason) → xs ++ x ∷ [] ≡ [] → ⊥
no_reason [] x is = absurd (cc)
no_reason (y ∷ ys) x is = absurd (cc)

-- a form that is not refused is one of those
faultless : (line : LineForm) → place_reasons line ≡ [] → Faultless line
faultless (form.Setup (Ok tree)) none = tt
faultless (form.Setup (Err fault)) none = absurd (cc)
faultless (form.Given session (Ok tree)) none = tt
faultless (form.Given session (Err fault)) none = no_reason (name_reasons session) (reason_of_place fault) none
faultless form.Comment none = tt
faultless (form.Pause session label) none = tt
faultless (form.Go session) none = tt
faultless (form.Cut session) none = tt
faultless form.Unknown none = tt

fine_faultless : (mode : Mode) (forms before after : List LineForm) → AreFine mode forms → forms ≡ before ++ after →
    AllByRecursion Faultless after
fine_faultless mode forms before [] fine split = tt
fine_faultless mode forms before (line ∷ after) fine split = (
  faultless line (right_none _ _ (left_none _ _ (fine before after line split))),
  fine_faultless mode forms (before ++ line ∷ []) after fine (split ∙ sym (append_assoc before (line ∷ []) after)),
)

-- two forms of one line are the same where the one has no fault
pub same : (a b : LineForm) → Faultless a → IsSameForm a b → a ≡ b
same form.Comment b fine is = is
same (form.Pause session label) b fine is = is
same (form.Go session) b fine is = is
same (form.Cut session) b fine is = is
same form.Unknown b fine is = is
same (form.Setup (Err fault)) b fine is = absurd fine
same (form.Setup (Ok tree)) (form.Setup (Ok other)) fine is = ap (λ t. form.Setup (Ok t)) is
same (form.Setup (Ok tree)) (form.Setup (Err fault)) fine is = absurd is
same (form.Setup (Ok tree)) form.Comment fine is = is
same (form.Setup (Ok tree)) (form.Given session given) fine is = is
same (form.Setup (Ok tree)) (form.Pause session label) fine is = is
same (form.Setup (Ok tree)) (form.Go session) fine is = is
same (form.Setup (Ok tree)) (form.Cut session) fine is = is
same (form.Setup (Ok tree)) form.Unknown fine is = is
same (form.Given session (Err fault)) b fine is = absurd fine
same (form.Given session (Ok tree)) (form.Given other (Ok another)) fine is =
    ap (λ s. form.Given s (Ok tree)) is.0 ∙ ap (λ t. form.Given other (Ok t)) is.1
same (form.Given session (Ok tree)) (form.Given other (Err fault)) fine is = absurd is.1
same (form.Given session (Ok tree)) form.Comment fine is = is
same (form.Given session (Ok tree)) (form.Setup given) fine is = is
same (form.Given session (Ok tree)) (form.Pause other label) fine is = is
same (form.Given session (Ok tree)) (form.Go other) fine is = is
same (form.Given session (Ok tree)) (form.Cut other) fine is = is
same (form.Given session (Ok tree)) form.Unknown fine is = is

forms_same : (version : ℕ) (lines : List (List ℕ)) (xs ys : List LineForm) → AllZip (IsFormOf version) lines xs →
    AllZip (IsFormOf version) lines ys → AllByRecursion Faultless xs → xs ≡ ys
forms_same version [] [] [] one other fine = refl
forms_same version [] [] (y ∷ ys) one other fine = absurd other
forms_same version [] (x ∷ xs) ys one other fine = absurd one
forms_same version (line ∷ lines) [] ys one other fine = absurd one
forms_same version (line ∷ lines) (x ∷ xs) [] one other fine = absurd other
forms_same version (line ∷ lines) (x ∷ xs) (y ∷ ys) one other fine =
    ap (λ z. z ∷ xs) (same x y fine.0 (at_most_one_form version line x y one.0 other.0))
    ∙ ap (λ zs. y ∷ zs) (forms_same version lines xs ys one.1 other.1 fine.1)

-- ---- headers

pub same_list : (a b : List ℕ) (xs ys : List (List ℕ)) → a ∷ xs ≡ b ∷ ys → (a ≡ b) × (xs ≡ ys)
same_list a b xs ys is = (cc, cc)

same_heading : (line : List ℕ) (a b : Heading) → heading_of line ≡ Some a → heading_of line ≡ Some b → a ≡ b
same_heading line a b one other = cc

-- the same lines have the same header and, where they are fine, the same forms
pub record AreSame (a b : Heading) (xs ys : List LineForm) : Type 0 where
  pub heading : a ≡ b
  pub forms : xs ≡ ys

pub are_same : (lines : List (List ℕ)) (a b : Heading) (xs ys : List LineForm) → AreForms lines a xs → AreFine a.mode xs →
    AreForms lines b ys → AreSame a b xs ys
are_same lines a b xs ys one fine other =
    let rows = same_list _ _ _ _ (sym one.split ∙ other.split) in
    let heading : a ≡ b = same_heading other.header a b (ap heading_of (sym rows.0) ∙ one.headed) other.headed in
    record {
      heading = heading;
      forms =
          forms_same b.version other.body xs ys
          (subst (λ (h : Heading). AllZip (IsFormOf h.version) other.body xs) heading
          (subst (λ body. AllZip (IsFormOf a.version) body xs) rows.1 one.formed))
          other.formed (fine_faultless a.mode xs [] xs fine refl);
    }

-- ---- bytes say at most one script

pub bytes_say_one_script : BytesSayOneScript
bytes_say_one_script bytes a b one other =
    let is = are_same (lines_in bytes) one.heading other.heading one.forms other.forms one.are one.say.fine other.are in
    record {
      version = one.say.version ∙ ap (λ (h : Heading). h.version) is.heading ∙ sym other.say.version;
      mode = one.say.mode ∙ ap (λ (h : Heading). h.mode) is.heading ∙ sym other.say.mode;
      sessions = one.say.sessions ∙ ap sessions_of is.forms ∙ sym other.say.sessions;
      catalogue = one.say.catalogue ∙ ap catalogue_of is.forms ∙ sym other.say.catalogue;
      setup = one.say.setup ∙ ap Rattle.pg_script.specs.Parts.setup_rows_of is.forms ∙ sym other.say.setup;
      lines = one.say.lines ∙ ap Rattle.pg_script.specs.Parts.lines_of is.forms ∙ sym other.say.lines;
    }

-- ---- and are not refused

-- the forms of lines, cut at one of them
pub record AreCut (version : ℕ) (xs : List (List ℕ)) (y : List ℕ) (forms : List LineForm) : Type 0 where
  pub before : List LineForm
  pub line : LineForm
  pub after : List LineForm
  pub split : forms ≡ before ++ line ∷ after
  pub formed : AllZip (IsFormOf version) xs before
  pub is : IsFormOf version y line

cut_at : (version : ℕ) (xs ys : List (List ℕ)) (y : List ℕ) (forms : List LineForm) →
    AllZip (IsFormOf version) (xs ++ y ∷ ys) forms → AreCut version xs y forms
cut_at version [] ys y [] all = absurd all
cut_at version [] ys y (line ∷ forms) all =
    record { before = []; line = line; after = forms; split = refl; formed = tt; is = all.0 }
cut_at version (x ∷ xs) ys y [] all = absurd all
cut_at version (x ∷ xs) ys y (line ∷ forms) all =
    let rest = cut_at version xs ys y forms all.1 in
    record {
      before = line ∷ rest.before;
      line = rest.line;
      after = rest.after;
      split = ap (λ fs. line ∷ fs) rest.split;
      formed = (all.0, rest.formed);
      is = rest.is;
    }

none_some : (reasons : List Reason) (why : Reason) (others : List Reason) → reasons ≡ [] → reasons ≡ why ∷ others → ⊥
none_some reasons why others none some = absurd (cc)

-- a line that is refused behind some lines is not one of lines that are fine, behind the same
pub not_fine : (lines rest : List (List ℕ)) (heading : Heading) (forms : List LineForm) (number : ℕ) (why : Reason)
    (refused : IsFirstRefused rest number why) → AreForms lines heading forms → AreFine heading.mode forms →
    (after : List (List ℕ)) → lines ≡ refused.before ++ refused.line ∷ after → ⊥
not_fine lines rest heading forms number why refused are fine after split =
    let front = refused.are in
    let rows : (are.header ≡ front.header) × (are.body ≡ front.body ++ refused.line ∷ after) =
    same_list _ _ _ _ (sym are.split ∙ split ∙ ap (λ b. b ++ refused.line ∷ after) front.split) in
    let one : heading ≡ refused.heading =
    same_heading front.header heading refused.heading (ap heading_of (sym rows.0) ∙ are.headed) front.headed in
    let formed : AllZip (IsFormOf refused.heading.version) (front.body ++ refused.line ∷ after) forms =
    subst (λ (h : Heading). AllZip (IsFormOf h.version) (front.body ++ refused.line ∷ after) forms) one
    (subst (λ body. AllZip (IsFormOf heading.version) body forms) rows.1 are.formed) in
    let cut = cut_at refused.heading.version front.body after refused.line forms formed in
    let none : reasons_of heading.mode cut.before cut.line ≡ [] = fine cut.before cut.after cut.line cut.split in
    let before : refused.forms ≡ cut.before =
    forms_same refused.heading.version front.body refused.forms cut.before front.formed cut.formed
    (fine_faultless refused.heading.mode refused.forms [] refused.forms refused.fine refl) in
    let line : cut.line ≡ refused.form =
    same cut.line refused.form (faultless cut.line (right_none _ _ (left_none _ _ none)))
    (at_most_one_form refused.heading.version refused.line cut.line refused.form cut.is refused.formed) in
    none_some _ why refused.others
    (subst (λ (h : Heading). reasons_of h.mode refused.forms refused.form ≡ []) one
    (subst (λ l. reasons_of heading.mode refused.forms l ≡ []) line
    (subst (λ fs. reasons_of heading.mode fs cut.line ≡ []) (sym before) none)))
    refused.reasons

bare_headed : (lines : List (List ℕ)) (heading : Heading) (forms : List LineForm) → LacksHeader lines →
    AreForms lines heading forms → ⊥
bare_headed lines heading forms bare are =
    let rows = same_list _ _ _ _ (sym bare.split ∙ are.split) in
    let none : heading_of are.header ≡ None = ap heading_of (sym rows.0) ∙ bare.bare in
    let some = are.headed in
    absurd (let e : None ≡ Some heading = sym none ∙ some in cc)

-- the header of lines that are refused behind it
pub front_header : (lines : List (List ℕ)) (number : ℕ) (why : Reason) → LacksHeader lines →
    IsFirstRefused lines number why → ⊥
front_header lines number why bare refused =
    let front = refused.are in
    let rows =
    same_list _ _ _ _ (sym bare.split ∙ refused.split ∙ ap (λ b. b ++ refused.line ∷ refused.after) front.split) in
    let none : heading_of front.header ≡ None = ap heading_of (sym rows.0) ∙ bare.bare in
    let some = front.headed in
    absurd (let e : None ≡ Some refused.heading = sym none ∙ some in cc)

pub no_script_is_refused : NoScriptIsRefused
no_script_is_refused bytes script number why say (inl long) =
    let size = say.size in let over = long.0 in omega (arith, size, over)
no_script_is_refused bytes script number why say (inr (inl bare)) =
    bare_headed (lines_in bytes) say.heading say.forms bare.1 say.are
no_script_is_refused bytes script number why say (inr (inr refused)) =
    not_fine (lines_in bytes) (lines_in bytes) say.heading say.forms number why refused.1 say.are say.say.fine
    refused.1.after refused.1.split
