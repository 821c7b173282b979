-- The parts that lines say, when tables or sessions follow.
use Rattle.std.proofs.Common.{append-nil, ◌≡◌, refl, sym, ◌∙◌, ap, ℕ, suc, true, false, List, [], ◌∷◌, ◌++◌, Some, None, Ok, Err, filter_map}
use Rattle.std.specs.Prelude.{⊤}
use Rattle.std.specs.List.{AllByRecursion, cons_option, list_any}
use Rattle.pg_names.specs.Names.{number_of}
use Rattle.pg_model.specs.declared.catalogue.TableShape.{TableShape}
use Rattle.pg_line.specs.declared.form.LineForm.{LineForm}
use Rattle.pg_line.specs.declared.form.LineForm.TheVariants as form
use Rattle.pg_analyse.specs.Analysis.{analysis, declaration}
use Rattle.pg_script.specs.Drafts.{is_other}
use Rattle.pg_script.specs.Parts.{given_line, given_statement, line_in, numbered_from, session_names, setup_in, setup_insert, tables_behind, with_table}
use Rattle.pg_script.specs.Reasons.{fault_reasons, is_of_setup}
use Rattle.pg_script.proofs.Appearances.{number_grows}
use Rattle.pg_script.proofs.Stable.{setup_grows}

-- the statement of a setup line is one that it may have, and has no error over these tables
abbrev pub Settled : List TableShape → LineForm → Type 0
Settled catalogue (form.Setup (Ok tree)) = (is_of_setup tree ≡ true) × (fault_reasons (analysis catalogue tree) ≡ [])
Settled catalogue (form.Setup (Err fault)) = ⊤
Settled catalogue form.Comment = ⊤
Settled catalogue (form.Given session tree) = ⊤
Settled catalogue (form.Pause session label) = ⊤
Settled catalogue (form.Go session) = ⊤
Settled catalogue (form.Cut session) = ⊤
Settled catalogue form.Unknown = ⊤

pub settled_grows : (catalogue more : List TableShape) (line : LineForm) → Settled catalogue line →
    Settled (catalogue ++ more) line
settled_grows catalogue more (form.Setup (Ok tree)) is =
    (is.0, ap fault_reasons (setup_grows catalogue more tree is.0 is.1) ∙ is.1)
settled_grows catalogue more (form.Setup (Err fault)) is = tt
settled_grows catalogue more form.Comment is = tt
settled_grows catalogue more (form.Given session tree) is = tt
settled_grows catalogue more (form.Pause session label) is = tt
settled_grows catalogue more (form.Go session) is = tt
settled_grows catalogue more (form.Cut session) is = tt
settled_grows catalogue more form.Unknown is = tt

pub all_settled_grow : (catalogue more : List TableShape) (forms : List LineForm) →
    AllByRecursion (Settled catalogue) forms → AllByRecursion (Settled (catalogue ++ more)) forms
all_settled_grow catalogue more [] all = tt
all_settled_grow catalogue more (form ∷ forms) all =
    (settled_grows catalogue more form all.0, all_settled_grow catalogue more forms all.1)

-- its INSERT is the same when tables follow
pub setup_stays : (catalogue more : List TableShape) (number : ℕ) (line : LineForm) → Settled catalogue line →
    setup_in (catalogue ++ more) number line ≡ setup_in catalogue number line
setup_stays catalogue more number (form.Setup (Ok tree)) is =
    ap (setup_insert number) (setup_grows catalogue more tree is.0 is.1)
setup_stays catalogue more number (form.Setup (Err fault)) is = refl
setup_stays catalogue more number form.Comment is = refl
setup_stays catalogue more number (form.Given session tree) is = refl
setup_stays catalogue more number (form.Pause session label) is = refl
setup_stays catalogue more number (form.Go session) is = refl
setup_stays catalogue more number (form.Cut session) is = refl
setup_stays catalogue more number form.Unknown is = refl

-- and so are all INSERTs of setup lines
pub rows_stay : (catalogue more : List TableShape) (number : ℕ) (forms : List LineForm) →
    AllByRecursion (Settled catalogue) forms →
    filter_map (λ line. setup_in (catalogue ++ more) line.number line.form) (numbered_from number forms)
    ≡ filter_map (λ line. setup_in catalogue line.number line.form) (numbered_from number forms)
rows_stay catalogue more number [] all = refl
rows_stay catalogue more number (form ∷ forms) all =
    ap (λ row. cons_option row (filter_map (λ line. setup_in (catalogue ++ more) line.number line.form) (numbered_from (suc number) forms)))
    (setup_stays catalogue more number form all.0)
    ∙ ap (cons_option (setup_in catalogue number form)) (rows_stay catalogue more (suc number) forms all.1)

-- tables only follow
table_behind : (catalogue : List TableShape) (outcome : _) → (more : List TableShape) × (with_table catalogue outcome ≡ catalogue ++ more)
table_behind catalogue (Ok shape) = (shape ∷ [], refl)
table_behind catalogue (Err fault) = ([], sym (append-nil catalogue))

pub tables_follow : (catalogue : List TableShape) (line : LineForm) →
    (more : List TableShape) × (tables_behind catalogue line ≡ catalogue ++ more)
tables_follow catalogue (form.Setup (Ok tree)) = table_behind catalogue (declaration catalogue tree)
tables_follow catalogue (form.Setup (Err fault)) = ([], sym (append-nil catalogue))
tables_follow catalogue form.Comment = ([], sym (append-nil catalogue))
tables_follow catalogue (form.Given session tree) = ([], sym (append-nil catalogue))
tables_follow catalogue (form.Pause session label) = ([], sym (append-nil catalogue))
tables_follow catalogue (form.Go session) = ([], sym (append-nil catalogue))
tables_follow catalogue (form.Cut session) = ([], sym (append-nil catalogue))
tables_follow catalogue form.Unknown = ([], sym (append-nil catalogue))

-- the names have numbers among the sessions
abbrev pub HaveNumbers : List (List ℕ) → List (List ℕ) → Type 0
HaveNumbers sessions [] = ⊤
HaveNumbers sessions (name ∷ names) =
    ((number : ℕ) × (number_of sessions name ≡ Some number)) × HaveNumbers sessions names

-- the session that a line names has a number
abbrev pub Known : List (List ℕ) → LineForm → Type 0
Known sessions line = HaveNumbers sessions (session_names line)

numbers_grow : (sessions more names : List (List ℕ)) → HaveNumbers sessions names → HaveNumbers (sessions ++ more) names
numbers_grow sessions more [] have = tt
numbers_grow sessions more (name ∷ names) have =
    ((have.0.0, number_grows sessions more name have.0.0 have.0.1), numbers_grow sessions more names have.1)

pub all_known_grow : (sessions more : List (List ℕ)) (forms : List LineForm) → AllByRecursion (Known sessions) forms →
    AllByRecursion (Known (sessions ++ more)) forms
all_known_grow sessions more [] all = tt
all_known_grow sessions more (form ∷ forms) all =
    (numbers_grow sessions more (session_names form) all.0, all_known_grow sessions more forms all.1)

-- what a line gives to its session is the same when sessions follow
pub line_stays : (sessions more : List (List ℕ)) (catalogue : List TableShape) (number : ℕ) (line : LineForm) →
    Known sessions line → line_in (sessions ++ more) catalogue number line ≡ line_in sessions catalogue number line
line_stays sessions more catalogue number (form.Given session (Ok tree)) known =
    given (given_statement (analysis catalogue tree))
  where
    given : (statement : _) →
        given_line (sessions ++ more) number session.name statement ≡ given_line sessions number session.name statement
    given None = refl
    given (Some statement) =
        rw (number_grows sessions more session.name known.0.0 known.0.1, known.0.1) refl
line_stays sessions more catalogue number (form.Given session (Err fault)) known = refl
line_stays sessions more catalogue number form.Comment known = refl
line_stays sessions more catalogue number (form.Setup tree) known = refl
line_stays sessions more catalogue number (form.Pause session label) known = refl
line_stays sessions more catalogue number (form.Go session) known = refl
line_stays sessions more catalogue number (form.Cut session) known = refl
line_stays sessions more catalogue number form.Unknown known = refl

pub lines_stay : (sessions more : List (List ℕ)) (catalogue : List TableShape) (number : ℕ) (forms : List LineForm) →
    AllByRecursion (Known sessions) forms →
    filter_map (λ line. line_in (sessions ++ more) catalogue line.number line.form) (numbered_from number forms)
    ≡ filter_map (λ line. line_in sessions catalogue line.number line.form) (numbered_from number forms)
lines_stay sessions more catalogue number [] all = refl
lines_stay sessions more catalogue number (form ∷ forms) all =
    ap (λ row. cons_option row (filter_map (λ line. line_in (sessions ++ more) catalogue line.number line.form) (numbered_from (suc number) forms)))
    (line_stays sessions more catalogue number form all.0)
    ∙ ap (cons_option (line_in sessions catalogue number form)) (lines_stay sessions more catalogue (suc number) forms all.1)

-- setup lines and comments give nothing to a session
pub gives_none : (sessions : List (List ℕ)) (catalogue : List TableShape) (number : ℕ) (forms : List LineForm) →
    list_any is_other forms ≡ false →
    filter_map (λ line. line_in sessions catalogue line.number line.form) (numbered_from number forms) ≡ []
gives_none sessions catalogue number [] none = refl
gives_none sessions catalogue number (form.Comment ∷ forms) none = gives_none sessions catalogue (suc number) forms none
gives_none sessions catalogue number (form.Setup tree ∷ forms) none = gives_none sessions catalogue (suc number) forms none
gives_none sessions catalogue number (form.Given session tree ∷ forms) none = absurd (let e : true ≡ false = none in cc)
gives_none sessions catalogue number (form.Pause session label ∷ forms) none = absurd (let e : true ≡ false = none in cc)
gives_none sessions catalogue number (form.Go session ∷ forms) none = absurd (let e : true ≡ false = none in cc)
gives_none sessions catalogue number (form.Cut session ∷ forms) none = absurd (let e : true ≡ false = none in cc)
gives_none sessions catalogue number (form.Unknown ∷ forms) none = absurd (let e : true ≡ false = none in cc)
