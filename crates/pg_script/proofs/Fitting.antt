-- The parts of a draft fit together, as those of a script do.
use Rattle.std.proofs.Common.{arith, ◌≡◌, refl, sym, ◌∙◌, subst, ℕ, suc, ◌+◌, ◌≤◌, ◌==◌, Bool, true, false, cond, List, [], ◌∷◌, ◌++◌, length, length-append, slice_index_or, Option, Some, None}
use Rattle.std.specs.Prelude.{option_to_list}
use Rattle.std.specs.List.{All, list_all}
use Rattle.std.proofs.lemmas.List.{length-map}
use Rattle.std.proofs.lemmas.List.Elements.{All-append, All-nil}
use Rattle.pg_names.specs.Names.{are_distinct}
use Rattle.pg_model.specs.declared.catalogue.TableShape.{TableShape}
use Rattle.pg_model.specs.declared.script.Line.{Line}
use Rattle.pg_model.specs.declared.script.Mode.{Mode}
use Rattle.pg_model.specs.declared.script.SetupInsert.{SetupInsert}
use Rattle.pg_model.specs.declared.statement.Change.{Change}
use Rattle.pg_model.specs.declared.statement.Insert.{Insert}
use Rattle.pg_model.specs.declared.statement.Select.{Select}
use Rattle.pg_model.specs.declared.statement.Statement.{Statement}
use Rattle.pg_model.specs.Limits.{is_written, most_sessions}
use Rattle.pg_model.specs.Scripts.{IsContent, IsScript}
use Rattle.pg_model.specs.Statements.{IsChange, IsInsert, IsSelect, IsStatement, is_catalogue}
use Rattle.pg_line.specs.declared.form.LineForm.{LineForm}
use Rattle.pg_line.proofs.Within.{each_form_is_within}
use Rattle.pg_script.specs.declared.draft.Draft.{Draft}
use Rattle.pg_script.specs.Bytes.{bytes_behind, cut_at_line_feeds, with_first_byte, lines_behind, without_return}
use Rattle.pg_script.specs.Drafts.{AreTaken, IsTaken, empty_draft, with_names}
use Rattle.pg_script.specs.Parts.{line_in, session_names, setup_in}
use Rattle.pg_script.proofs.Firsts.{few_by, right_none}
use Rattle.pg_script.proofs.Settled.{tables_follow}
use Rattle.pg_script.proofs.Stable.{at_grows}
use Rattle.pg_script.proofs.Steps.{sessions_follow}
use Rattle.pg_script.proofs.FittingLines.{Said, Stored, all_distinct, all_written, content_fits, insert_fits, line_written, one_part, tables_fit}

-- the parts fit together, and there are no more INSERTs and lines than lines were read
pub record Fits (read : ℕ) (draft : Draft) : Type 0 where
  pub few_sessions : length draft.sessions ≤ most_sessions
  pub distinct : are_distinct draft.sessions ≡ true
  pub written : list_all is_written draft.sessions ≡ true
  pub tables : is_catalogue draft.catalogue ≡ true
  pub inserts : All (λ s. IsInsert draft.catalogue s.insert) draft.setup
  pub contents : All (λ line. IsContent (length draft.sessions) draft.catalogue line.content) draft.lines
  pub few_lines : length draft.setup + length draft.lines ≤ read

all_also : {X : Type 0} (P Q : X → Type 0) → ((x : X) → P x → Q x) → (xs : List X) → All P xs → All Q xs
all_also P Q also xs all k d below = also (slice_index_or xs k d) (all k d below)

-- ---- what fits a catalogue fits it when tables follow

insert_grows : (catalogue more : List TableShape) (insert : Insert) → IsInsert catalogue insert →
    IsInsert (catalogue ++ more) insert
insert_grows catalogue more insert fits =
    record {
      target = at_grows catalogue more insert.target.table insert.target.shape fits.target;
      columns = fits.columns;
      rows = fits.rows;
    }

select_grows : (catalogue more : List TableShape) (select : Select) → IsSelect catalogue select →
    IsSelect (catalogue ++ more) select
select_grows catalogue more select fits =
    record {
      sources = λ k d below named is. at_grows catalogue more named.table named.shape (fits.sources k d below named is);
      items = fits.items;
      condition = fits.condition;
    }

change_grows : (catalogue more : List TableShape) (change : Change) → IsChange catalogue change →
    IsChange (catalogue ++ more) change
change_grows catalogue more change fits =
    record {
      target = at_grows catalogue more change.target.table change.target.shape fits.target;
      sources = λ k d below named is. at_grows catalogue more named.table named.shape (fits.sources k d below named is);
      action = fits.action;
      condition = fits.condition;
    }

statement_grows : (catalogue more : List TableShape) (given : Statement) → IsStatement catalogue given →
    IsStatement (catalogue ++ more) given
statement_grows catalogue more given fits =
    record {
      selects = λ select is. select_grows catalogue more select (fits.selects select is);
      inserts = λ insert is. insert_grows catalogue more insert (fits.inserts insert is);
      changes = λ change is. change_grows catalogue more change (fits.changes change is);
    }

-- ---- one line more

more_parts : {X Y : Type 0} (xs more : List X) (ys others : List Y) (read : ℕ) → length xs + length ys ≤ read →
    length more + length others ≤ 1 → length (xs ++ more) + length (ys ++ others) ≤ suc read
more_parts xs more ys others read few one =
    omega (arith, few, one, length-append xs more, length-append ys others)

inserts_fit : (catalogue more : List TableShape) (setup new : List SetupInsert) → All (Stored catalogue) setup →
    All (Stored catalogue) new → All (Stored (catalogue ++ more)) (setup ++ new)
inserts_fit catalogue more setup new old one =
    All-append (Stored (catalogue ++ more)) setup new
    (all_also (Stored catalogue) (Stored (catalogue ++ more)) (λ s fits. insert_grows catalogue more s.insert fits) setup old)
    (all_also (Stored catalogue) (Stored (catalogue ++ more)) (λ s fits. insert_grows catalogue more s.insert fits) new one)

content_grows : (few many : ℕ) (catalogue more : List TableShape) (line : Line) → few ≤ many →
    IsContent few catalogue line.content → IsContent many (catalogue ++ more) line.content
content_grows few many catalogue more line least fits =
    record {
      session = let below = fits.session in omega (arith, below, least);
      statement = λ given is. statement_grows catalogue more given (fits.statement given is);
    }

contents_fit : (few many : ℕ) (catalogue more : List TableShape) (lines new : List Line) → few ≤ many →
    All (Said few catalogue) lines → All (Said many catalogue) new →
    All (Said many (catalogue ++ more)) (lines ++ new)
contents_fit few many catalogue more lines new least old one =
    All-append (Said many (catalogue ++ more)) lines new
    (all_also (Said few catalogue) (Said many (catalogue ++ more))
    (λ line fits. content_grows few many catalogue more line least fits) lines old)
    (all_also (Said many catalogue) (Said many (catalogue ++ more))
    (λ line fits. content_grows many many catalogue more line (omega arith) fits) new one)

-- sessions only follow
no_fewer : (sessions : List (List ℕ)) (line : LineForm) →
    length sessions ≤ length (with_names sessions (session_names line))
no_fewer sessions line =
    let follow = (sessions_follow sessions line).0 in
    rw follow.1 (omega (arith, length-append sessions follow.0))

-- a line that was taken leaves a draft that fits
fits_more : (read : ℕ) (old new : Draft) (line : List ℕ) → Fits read old → IsTaken old line new → Fits (suc read) new
fits_more read old new line fits taken =
    let within = each_form_is_within 1 line taken.form taken.formed in
    let tables = tables_follow old.catalogue taken.form in
    let sessions = taken.added.sessions in
    let catalogue : new.catalogue ≡ old.catalogue ++ tables.0 = taken.added.catalogue ∙ tables.1 in
    record {
      few_sessions = rw sessions (few_by old taken.form taken.early);
      distinct = rw sessions (all_distinct old.sessions (session_names taken.form) fits.distinct);
      written =
          rw sessions
          (all_written old.sessions (session_names taken.form) fits.written
          (line_written taken.form within (right_none _ _ taken.early)));
      tables = rw taken.added.catalogue (tables_fit old.catalogue taken.form within fits.tables);
      inserts =
          rw (catalogue, taken.added.setup)
          (inserts_fit old.catalogue tables.0 old.setup (option_to_list (setup_in old.catalogue old.number taken.form))
          fits.inserts (insert_fits old.catalogue old.number taken.form within));
      contents =
          rw (catalogue, taken.added.lines, sessions)
          (contents_fit (length old.sessions) (length (with_names old.sessions (session_names taken.form))) old.catalogue
          tables.0 old.lines
          (option_to_list (line_in (with_names old.sessions (session_names taken.form)) old.catalogue old.number taken.form))
          (no_fewer old.sessions taken.form) fits.contents
          (content_fits old.sessions old.catalogue old.number taken.form within));
      few_lines =
          rw (taken.added.setup, taken.added.lines)
          (more_parts old.setup _ old.lines _ read fits.few_lines
          (one_part new.sessions old.catalogue old.number taken.form));
    }

fits_all : (read : ℕ) (old new : Draft) (lines : List (List ℕ)) → Fits read old → AreTaken old lines new →
    Fits (read + length lines) new
fits_all read old new [] fits taken =
    let same : read ≡ read + 0 = omega arith in subst (λ n. Fits n new) same (subst (Fits read) (sym taken) fits)
fits_all read old new (line ∷ lines) fits taken =
    let same : suc read + length lines ≡ read + suc (length lines) = omega arith in
    subst (λ n. Fits n new) same
    (fits_all (suc read) taken.0 new lines (fits_more read old taken.0 line fits taken.1) taken.2)

fits_first : (mode : Mode) → Fits 0 (empty_draft mode)
fits_first mode =
    record {
      few_sessions = omega arith;
      distinct = refl;
      written = refl;
      tables = refl;
      inserts = All-nil _;
      contents = All-nil _;
      few_lines = omega arith;
    }

-- ---- lines and bytes

some_glued : (b : ℕ) (lines : List (List ℕ)) → 1 ≤ length lines → length (with_first_byte b lines) ≡ length lines
some_glued b [] some = absurd (omega (arith, some))
some_glued b (line ∷ lines) some = refl

-- there is a line, and there are at most as many as bytes and one
cut_few : (bytes : List ℕ) →
    (1 ≤ length (cut_at_line_feeds bytes)) × (length (cut_at_line_feeds bytes) ≤ suc (length bytes))
cut_few [] = (omega arith, omega arith)
cut_few (b ∷ bytes) = at (b == 10) (cut_few bytes)
  where
    at : (lf : Bool) →
        (1 ≤ length (cut_at_line_feeds bytes)) × (length (cut_at_line_feeds bytes) ≤ suc (length bytes)) →
        (1 ≤ length (cond lf ([] ∷ cut_at_line_feeds bytes) (with_first_byte b (cut_at_line_feeds bytes))))
        × (length (cond lf ([] ∷ cut_at_line_feeds bytes) (with_first_byte b (cut_at_line_feeds bytes))) ≤ suc (suc (length bytes)))
    at true rest = let most = rest.1 in (omega arith, omega (arith, most))
    at false rest =
        let least = rest.0 in
        let most = rest.1 in
        rw (some_glued b (cut_at_line_feeds bytes) least) (least, omega (arith, most))

few_lines_behind : (text : Option (List ℕ)) → length (lines_behind text) ≤ bytes_behind text
few_lines_behind None = omega arith
few_lines_behind (Some bytes) =
    let most = (cut_few bytes).1 in
    rw (length-map (cut_at_line_feeds bytes) without_return) (omega (arith, most))

-- the parts of a draft that lines gave are those of a script
pub draft_fits : (mode : Mode) (text : Option (List ℕ)) (draft : Draft) →
    AreTaken (empty_draft mode) (lines_behind text) draft → bytes_behind text ≤ 1048576 →
    IsScript draft.sessions draft.catalogue draft.setup draft.lines
draft_fits mode text draft taken short =
    let fits = fits_all 0 (empty_draft mode) draft (lines_behind text) (fits_first mode) taken in
    let few = fits.few_lines in
    let behind = few_lines_behind text in
    record {
      few_sessions = fits.few_sessions;
      distinct = fits.distinct;
      written = fits.written;
      tables = fits.tables;
      inserts = fits.inserts;
      contents = fits.contents;
      few_lines = omega (arith, few, behind, short);
    }
