-- The answer for a line, by what was found of its form.
use Rattle.std.proofs.Common.{◌+◌, ◌≤◌, length, ◌≡◌, refl, sym, ℕ, List, ◌∷◌, Some, None, Result, Ok, Err}
use Rattle.pg_model.specs.declared.error.SqlError.{SqlError}
use Rattle.pg_line.specs.declared.form.LineForm.{LineForm}
use Rattle.pg_line.specs.Forms.{IsFormOf}
use Rattle.pg_script.specs.declared.draft.Draft.{Draft}
use Rattle.pg_script.specs.declared.fault.Reason.{Reason}
use Rattle.pg_script.specs.declared.fault.Reason.TheVariants as reason
use Rattle.pg_script.specs.declared.fault.ScriptFault.{ScriptFault}
use Rattle.pg_script.specs.declared.fault.ScriptFault.TheVariants as script_fault
use Rattle.pg_script.specs.Drafts.{IsAdded, IsFormAnswer, HasParts, IsBodyAnswer, IsLineAnswer, IsLinesAnswer, IsReadTo, early_reasons, empty_draft, errors_in, first_of}
use Rattle.pg_script.specs.Reasons.{setup_reasons}
use Rattle.pg_script.proofs.Firsts.{first_late, first_more, none_first}
use Rattle.pg_model.specs.declared.script.Mode.{Mode}
use Rattle.pg_model.specs.declared.script.Script.{Script}
use Rattle.pg_script.specs.Bytes.{lines_in}
use Rattle.pg_script.specs.Headings.{mode_in}
use Rattle.pg_script.specs.Reading.{IsRead}
use Rattle.pg_script.proofs.Reached.{reached_all, reached_at, reached_first, reached_more}
use Rattle.pg_script.proofs.Says.{said, stopped}

-- a form that is refused before analysis
pub refused_early : (old new : Draft) (line : LineForm) (why : Reason) → first_of (early_reasons old line) ≡ Some why →
    IsFormAnswer old line new (Err (script_fault.Refused old.number why))
refused_early old new line why first =
    (refl, first_more (early_reasons old line) (setup_reasons old.catalogue line) why first)

-- a setup line that is refused for an error
pub refused_late : (old new : Draft) (line : LineForm) (error : SqlError) → first_of (early_reasons old line) ≡ None →
    errors_in (Some error) ≡ setup_reasons old.catalogue line →
    IsFormAnswer old line new (Err (script_fault.Refused old.number (reason.Error error)))
refused_late old new line error none is =
    (refl, first_late (early_reasons old line) (setup_reasons old.catalogue line) (reason.Error error) none is)

-- a form that is not refused
pub added : (old new : Draft) (line : LineForm) (done : Unit {0}) → first_of (early_reasons old line) ≡ None →
    errors_in None ≡ setup_reasons old.catalogue line → IsAdded old line new → IsFormAnswer old line new (Ok done)
added old new line done none is one = (none_first (early_reasons old line) none, sym is, one)

-- a line of that form
pub answered : (old new : Draft) (line : List ℕ) (says : LineForm) (answer : Result (Unit {0}) ScriptFault) →
    IsFormOf 1 line says → IsFormAnswer old says new answer → IsLineAnswer old line new answer
answered old new line says (Ok done) formed is =
    record { form = says; formed = formed; early = is.0; late = is.1; added = is.2 }
answered old new line says (Err (script_fault.Refused number why)) formed is =
    (is.0, record { form = says; formed = formed; first = is.1 })
answered old new line says (Err script_fault.Memory) formed is = is

-- a line that was taken has the next number
pub next_number : (old new : Draft) (line : List ℕ) (done : Unit {0}) → IsLineAnswer old line new (Ok done) →
    new.number ≡ old.number + 1
next_number old new line done is = is.added.number

-- the answer for a line that is refused, behind lines that were taken
pub stopped_at : (old middle new : Draft) (lines rest more : List (List ℕ)) (line : List ℕ) (fault : ScriptFault) →
    IsReadTo old lines rest middle → rest ≡ line ∷ more → IsLineAnswer middle line new (Err fault) →
    IsLinesAnswer old lines new (Err fault)
stopped_at old middle new lines rest more line (script_fault.Refused number why) reached is answer =
    record {
      line = line;
      after = more;
      draft = middle;
      reached = reached_at old middle lines rest more line reached is;
      number_is = answer.0;
      refused = answer.1;
    }
stopped_at old middle new lines rest more line script_fault.Memory reached is answer = answer

-- what the reading of the lines behind the first goes by
pub ruleset lines_read = (reached_first, reached_more, reached_all, next_number, stopped_at)

-- all lines behind the first were taken
pub body_taken : (mode : Mode) (lines : List (List ℕ)) (draft : Draft) (script : Script) (done : Unit {0}) →
    IsLinesAnswer (empty_draft mode) lines draft (Ok done) → HasParts draft script → IsBodyAnswer mode lines (Ok script)
body_taken mode lines draft script done is parts = (draft, is, parts)

-- or one is refused
pub body_stopped : (mode : Mode) (lines : List (List ℕ)) (draft : Draft) (fault : ScriptFault) →
    IsLinesAnswer (empty_draft mode) lines draft (Err fault) → IsBodyAnswer mode lines (Err fault)
body_stopped mode lines draft (script_fault.Refused number why) is = is
body_stopped mode lines draft script_fault.Memory is = is

-- what the bytes say, by the answer for the lines behind the header
pub body_read : (bytes first : List ℕ) (rest : List (List ℕ)) (mode : Mode) (answer : Result Script ScriptFault) →
    length bytes ≤ 1048576 → lines_in bytes ≡ first ∷ rest → mode_in first ≡ Some mode → IsBodyAnswer mode rest answer →
    IsRead bytes answer
body_read bytes first rest mode (Ok script) size lines known is =
    said bytes first rest mode is.0 script size lines known is.1 is.2
body_read bytes first rest mode (Err (script_fault.Refused number why)) size lines known is =
    stopped bytes first rest mode number why size lines known is
body_read bytes first rest mode (Err script_fault.Memory) size lines known is = is
