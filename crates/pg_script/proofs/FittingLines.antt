-- What one line gives fits the parts of a draft.
use Rattle.std.proofs.Common.{arith, ◌≡◌, refl, sym, ◌∙◌, subst, ℕ, suc, ◌+◌, ◌≤◌, ◌<◌, Bool, true, false, true≢false, cond, List, [], ◌∷◌, ◌++◌, length, Option, Some, None, Ok, Err}
use Rattle.std.specs.Prelude.{Result, not, option_to_list, unwrap_or}
use Rattle.std.specs.List.{All, list_all}
use Rattle.std.specs.Option.{option_map}
use Rattle.std.specs.Str.{bytes_eq}
use Rattle.std.proofs.lemmas.Bool.{and_from, and_parts}
use Rattle.std.proofs.lemmas.List.Elements.{All-cons, All-nil}
use Rattle.std.proofs.lemmas.List.Folds.{list_all-append}
use Rattle.pg_names.specs.Names.{are_distinct, is_among, number_of}
use Rattle.pg_names.proofs.Distinct.{distinct_snoc}
use Rattle.pg_parse_stmt.specs.Laws.{is_statement}
use Rattle.pg_parse_stmt.specs.declared.tree.StmtTree.{StmtTree}
use Rattle.pg_model.specs.declared.catalogue.TableShape.{TableShape}
use Rattle.pg_model.specs.declared.script.Content.TheVariants as content
use Rattle.pg_model.specs.declared.script.Line.{Line}
use Rattle.pg_model.specs.declared.script.SetupInsert.{SetupInsert}
use Rattle.pg_model.specs.declared.statement.Statement.{Statement}
use Rattle.pg_model.specs.declared.statement.Statement.TheVariants as statement
use Rattle.pg_model.specs.Limits.{is_written}
use Rattle.pg_model.specs.Scripts.{IsContent}
use Rattle.pg_model.specs.Statements.{IsInsert, IsStatement, is_catalogue}
use Rattle.pg_line.specs.declared.form.LineForm.{LineForm}
use Rattle.pg_line.specs.declared.form.LineForm.TheVariants as form
use Rattle.pg_line.specs.declared.form.SessionName.{SessionName}
use Rattle.pg_line.specs.Laws.{is_form_within, is_named, is_within}
use Rattle.pg_resolve.specs.declared.fault.AnalyseFault.{AnalyseFault}
use Rattle.pg_resolve.specs.declared.fault.AnalyseFault.TheVariants as fault
use Rattle.pg_analyse.specs.Analysis.{analysis, declaration}
use Rattle.pg_analyse.proofs.Fitting.{declarations_fit}
use Rattle.pg_analyse.proofs.FittingStatements.{statements_fit}
use Rattle.pg_script.specs.Built.{is_short}
use Rattle.pg_script.specs.Drafts.{with_name, with_names}
use Rattle.pg_script.specs.Parts.{given_line, given_statement, line_in, session_names, setup_in, setup_insert, tables_behind, with_table}
use Rattle.pg_script.specs.Reasons.{name_reasons, place_reasons}
use Rattle.pg_script.proofs.Appearances.{number_step}
use Rattle.pg_script.proofs.Firsts.{left_none, not_told}
use Rattle.pg_script.proofs.Steps.{name_follows}

-- an INSERT of setup fits the tables
abbrev pub Stored : List TableShape → SetupInsert → Type 0
Stored catalogue setup = IsInsert catalogue setup.insert

-- a line fits the sessions and the tables
abbrev pub Said : ℕ → List TableShape → Line → Type 0
Said sessions catalogue line = IsContent sessions catalogue line.content

one_stored : (catalogue : List TableShape) (setup : SetupInsert) → IsInsert catalogue setup.insert →
    All (Stored catalogue) (setup ∷ [])
one_stored catalogue setup fits = All-cons (Stored catalogue) setup [] fits (All-nil (Stored catalogue))

one_said : (sessions : ℕ) (catalogue : List TableShape) (line : Line) → IsContent sessions catalogue line.content →
    All (Said sessions catalogue) (line ∷ [])
one_said sessions catalogue line fits =
    All-cons (Said sessions catalogue) line [] fits (All-nil (Said sessions catalogue))

-- ---- sessions

names_distinct : (names : List (List ℕ)) (name : List ℕ) → are_distinct names ≡ true →
    are_distinct (with_name names name) ≡ true
names_distinct names name distinct = at (is_among names name) refl
  where
    at : (b : Bool) → is_among names name ≡ b → are_distinct (cond b names (names ++ name ∷ [])) ≡ true
    at true among = distinct
    at false absent = distinct_snoc names name distinct absent

pub all_distinct : (names more : List (List ℕ)) → are_distinct names ≡ true → are_distinct (with_names names more) ≡ true
all_distinct names [] distinct = distinct
all_distinct names (name ∷ more) distinct = all_distinct (with_name names name) more (names_distinct names name distinct)

name_written : (names : List (List ℕ)) (name : List ℕ) → list_all is_written names ≡ true → is_written name ≡ true →
    list_all is_written (with_name names name) ≡ true
name_written names name written one = at (is_among names name)
  where
    at : (b : Bool) → list_all is_written (cond b names (names ++ name ∷ [])) ≡ true
    at true = written
    at false = list_all-append is_written names (name ∷ []) ∙ and_from _ _ written (and_from _ _ one refl)

pub all_written : (names more : List (List ℕ)) → list_all is_written names ≡ true → list_all is_written more ≡ true →
    list_all is_written (with_names names more) ≡ true
all_written names [] written all = written
all_written names (name ∷ more) written all =
    let parts = and_parts (is_written name) (list_all is_written more) all in
    all_written (with_name names name) more (name_written names name written parts.0) parts.1

not_not : (b : Bool) → not b ≡ false → b ≡ true
not_not true is = refl
not_not false is = absurd (true≢false is)

session_written : (session : SessionName) → is_named session ≡ true → name_reasons session ≡ [] →
    list_all is_written (session.name ∷ []) ≡ true
session_written session named none =
    let short : is_short session ≡ true = not_not _ (not_told _ _ none) in
    and_from _ _ (and_from _ _ named short) refl

-- the session of a line that is not refused has a name that can be written
pub line_written : (line : LineForm) → is_form_within line ≡ true → place_reasons line ≡ [] →
    list_all is_written (session_names line) ≡ true
line_written form.Comment within none = refl
line_written (form.Setup given) within none = refl
line_written (form.Given session given) within none =
    session_written session (and_parts (is_named session) (is_within given) within).0 (left_none _ _ none)
line_written (form.Pause session label) within none = session_written session within none
line_written (form.Go session) within none = session_written session within none
line_written (form.Cut session) within none = session_written session within none
line_written form.Unknown within none = refl

-- a number of a name is below the number of names
number_below : (names : List (List ℕ)) (name : List ℕ) (number : ℕ) → number_of names name ≡ Some number →
    number < length names
number_below [] name number is = absurd (cc)
number_below (x ∷ xs) name number is =
    at (bytes_eq name x) (number_of xs name) refl (sym (number_step x xs name) ∙ is) (λ n e. number_below xs name n e)
  where
    at : (b : Bool) (before : Option ℕ) → number_of xs name ≡ before →
        cond b (Some 0) (option_map suc before) ≡ Some number →
        ((n : ℕ) → number_of xs name ≡ Some n → n < length xs) → number < suc (length xs)
    at true before is e rest = let first : 0 ≡ number = cc in rw (← first) (omega arith)
    at false None is e rest = absurd (cc)
    at false (Some n) is e rest =
        let next : suc n ≡ number = cc in
        let below : n < length xs = rest n is in
        rw (← next) (omega (arith, below))

-- ---- one line more

pub tables_fit : (catalogue : List TableShape) (line : LineForm) → is_form_within line ≡ true →
    is_catalogue catalogue ≡ true → is_catalogue (tables_behind catalogue line) ≡ true
tables_fit catalogue (form.Setup (Ok tree)) within catalogued = at (declaration catalogue tree) refl
  where
    at : (outcome : Result TableShape AnalyseFault) → declaration catalogue tree ≡ outcome →
        is_catalogue (with_table catalogue outcome) ≡ true
    at (Ok shape) is = declarations_fit catalogue tree shape is catalogued within
    at (Err why) is = catalogued
tables_fit catalogue (form.Setup (Err why)) within catalogued = catalogued
tables_fit catalogue form.Comment within catalogued = catalogued
tables_fit catalogue (form.Given session tree) within catalogued = catalogued
tables_fit catalogue (form.Pause session label) within catalogued = catalogued
tables_fit catalogue (form.Go session) within catalogued = catalogued
tables_fit catalogue (form.Cut session) within catalogued = catalogued
tables_fit catalogue form.Unknown within catalogued = catalogued

-- the INSERT of a setup line, if it is one, fits the tables before the line
pub insert_fits : (catalogue : List TableShape) (number : ℕ) (line : LineForm) → is_form_within line ≡ true →
    All (Stored catalogue) (option_to_list (setup_in catalogue number line))
insert_fits catalogue number (form.Setup (Ok tree)) within = at (analysis catalogue tree) refl
  where
    at : (outcome : Result Statement AnalyseFault) → analysis catalogue tree ≡ outcome →
        All (Stored catalogue) (option_to_list (setup_insert number outcome))
    at (Ok (statement.Insert insert)) is =
        one_stored catalogue (record { number = number; insert = insert })
        ((statements_fit catalogue tree (statement.Insert insert) is within).inserts insert refl)
    at (Ok statement.Begin) is = All-nil (Stored catalogue)
    at (Ok statement.Commit) is = All-nil (Stored catalogue)
    at (Ok statement.Rollback) is = All-nil (Stored catalogue)
    at (Ok (statement.Select select)) is = All-nil (Stored catalogue)
    at (Ok (statement.Change change)) is = All-nil (Stored catalogue)
    at (Err why) is = All-nil (Stored catalogue)
insert_fits catalogue number (form.Setup (Err why)) within = All-nil (Stored catalogue)
insert_fits catalogue number form.Comment within = All-nil (Stored catalogue)
insert_fits catalogue number (form.Given session tree) within = All-nil (Stored catalogue)
insert_fits catalogue number (form.Pause session label) within = All-nil (Stored catalogue)
insert_fits catalogue number (form.Go session) within = All-nil (Stored catalogue)
insert_fits catalogue number (form.Cut session) within = All-nil (Stored catalogue)
insert_fits catalogue number form.Unknown within = All-nil (Stored catalogue)

given_fits : (sessions : List (List ℕ)) (catalogue : List TableShape) (number found : ℕ) (name : List ℕ)
    (tree : StmtTree) → is_statement tree ≡ true → number_of sessions name ≡ Some found →
    All (Said (length sessions) catalogue)
    (option_to_list (given_line sessions number name (given_statement (analysis catalogue tree))))
given_fits sessions catalogue number found name tree within known = at (analysis catalogue tree) refl
  where
    session : unwrap_or (number_of sessions name) 0 < length sessions
    session = rw known (number_below sessions name found known)

    at : (outcome : Result Statement AnalyseFault) → analysis catalogue tree ≡ outcome →
        All (Said (length sessions) catalogue)
        (option_to_list (given_line sessions number name (given_statement outcome)))
    at (Ok given) is =
        let fits : IsContent (length sessions) catalogue (content.Given (unwrap_or (number_of sessions name) 0) (Ok given)) =
        record {
          session = session;
          statement = λ other same. let one : given ≡ other = cc in subst (IsStatement catalogue) one (statements_fit catalogue tree given is within);
        } in
        one_said (length sessions) catalogue
        (record { number = number; content = content.Given (unwrap_or (number_of sessions name) 0) (Ok given) }) fits
    at (Err (fault.Error error)) is =
        let fits : IsContent (length sessions) catalogue (content.Given (unwrap_or (number_of sessions name) 0) (Err error)) =
        record { session = session; statement = λ other same. absurd (cc) } in
        one_said (length sessions) catalogue
        (record { number = number; content = content.Given (unwrap_or (number_of sessions name) 0) (Err error) }) fits
    at (Err fault.Later) is = All-nil (Said (length sessions) catalogue)
    at (Err fault.Memory) is = All-nil (Said (length sessions) catalogue)

-- the line that gives a statement, if it does, fits the tables and the sessions with its own
pub content_fits : (before : List (List ℕ)) (catalogue : List TableShape) (number : ℕ) (line : LineForm) →
    is_form_within line ≡ true →
    All (Said (length (with_names before (session_names line))) catalogue)
    (option_to_list (line_in (with_names before (session_names line)) catalogue number line))
content_fits before catalogue number (form.Given session (Ok tree)) within =
    let known = (name_follows before session.name).1 in
    given_fits (with_name before session.name) catalogue number known.0 session.name tree
    (and_parts (is_named session) (is_statement tree) within).1 known.1
content_fits before catalogue number (form.Given session (Err why)) within = All-nil (Said _ catalogue)
content_fits before catalogue number (form.Setup given) within = All-nil (Said _ catalogue)
content_fits before catalogue number form.Comment within = All-nil (Said _ catalogue)
content_fits before catalogue number (form.Pause session label) within = All-nil (Said _ catalogue)
content_fits before catalogue number (form.Go session) within = All-nil (Said _ catalogue)
content_fits before catalogue number (form.Cut session) within = All-nil (Said _ catalogue)
content_fits before catalogue number form.Unknown within = All-nil (Said _ catalogue)

at_most_one : {X : Type 0} (x : Option X) → length (option_to_list x) ≤ 1
at_most_one None = omega arith
at_most_one (Some x) = omega arith

-- a line gives an INSERT of setup or a statement of a session, and not both
pub one_part : (sessions : List (List ℕ)) (catalogue : List TableShape) (number : ℕ) (line : LineForm) →
    length (option_to_list (setup_in catalogue number line))
    + length (option_to_list (line_in sessions catalogue number line)) ≤ 1
one_part sessions catalogue number (form.Setup (Ok tree)) =
    let one = at_most_one (setup_in catalogue number (form.Setup (Ok tree))) in omega (arith, one)
one_part sessions catalogue number (form.Given session (Ok tree)) =
    let one = at_most_one (line_in sessions catalogue number (form.Given session (Ok tree))) in omega (arith, one)
one_part sessions catalogue number (form.Setup (Err why)) = omega arith
one_part sessions catalogue number (form.Given session (Err why)) = omega arith
one_part sessions catalogue number form.Comment = omega arith
one_part sessions catalogue number (form.Pause session label) = omega arith
one_part sessions catalogue number (form.Go session) = omega arith
one_part sessions catalogue number (form.Cut session) = omega arith
one_part sessions catalogue number form.Unknown = omega arith
