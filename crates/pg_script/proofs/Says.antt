-- What was read is what the bytes say.
use Rattle.std.proofs.Common.{arith, ◌≡◌, refl, sym, ◌∙◌, ap, ℕ, suc, ◌+◌, ◌≤◌, List, [], ◌∷◌, length, Option, Some, None, Bool, true, false, cond, ◌&&◌, inl, inr}
use Rattle.std.specs.Prelude.{codes}
use Rattle.std.specs.Option.{option_map}
use Rattle.std.specs.List.{AllZip}
use Rattle.pg_model.specs.declared.script.Mode.{Mode}
use Rattle.pg_model.specs.declared.script.Script.{Script}
use Rattle.pg_line.specs.declared.form.LineForm.{LineForm}
use Rattle.pg_line.specs.Forms.{IsFormOf}
use Rattle.pg_script.specs.declared.draft.Draft.{Draft}
use Rattle.pg_script.specs.declared.fault.Reason.{Reason}
use Rattle.pg_script.specs.declared.fault.Reason.TheVariants as reason
use Rattle.pg_script.specs.Bytes.{lines_in}
use Rattle.pg_script.specs.Drafts.{AreTaken, HasParts, IsStopped, empty_draft}
use Rattle.pg_script.specs.Headings.{Heading, heading_in, heading_of, mode_in, mode_of}
use Rattle.pg_line.specs.Words.{Word, is_the, words_of}
use Rattle.pg_script.specs.Reading.{IsRefused, Say}
use Rattle.pg_script.proofs.Firsts.{first_is}
use Rattle.pg_script.proofs.Steps.{reasons_are}
use Rattle.pg_script.proofs.Taken.{all_held}

abbrev heading : ℕ → Mode → Heading
heading version mode = record { version = version; mode = mode }

headed_in : (words : List Word) (mode : Mode) → option_map (λ (h : Heading). h.mode) (heading_in words) ≡ Some mode →
    heading_in words ≡ Some (record { version = 1; mode = mode })
headed_in [] mode is = absurd (cc)
headed_in (a ∷ []) mode is = absurd (cc)
headed_in (a ∷ b ∷ []) mode is = absurd (cc)
headed_in (a ∷ b ∷ c ∷ []) mode is = at (is_the (codes "rc") a && is_the (codes "1") b) (mode_of c) is
  where
    at : (known : Bool) (found : Option Mode) →
        option_map (λ (h : Heading). h.mode) (cond known (option_map (heading 1) found) None) ≡ Some mode →
        cond known (option_map (heading 1) found) None ≡ Some (record { version = 1; mode = mode })
    at false found e = absurd (cc)
    at true None e = absurd (cc)
    at true (Some m) e = let same : m ≡ mode = cc in ap (λ x. Some (record { version = 1; mode = x })) same
headed_in (a ∷ b ∷ c ∷ d ∷ words) mode is = absurd (cc)

-- a first line that names a mode is a header
pub headed : (line : List ℕ) (mode : Mode) → mode_in line ≡ Some mode →
    heading_of line ≡ Some (record { version = 1; mode = mode })
headed line mode is = headed_in (words_of line) mode is

-- and one that names none is no header
pub bare : (line : List ℕ) → mode_in line ≡ None → heading_of line ≡ None
bare line is = at (heading_of line) is
  where
    at : (heading : Option Heading) → option_map (λ (h : Heading). h.mode) heading ≡ None → heading ≡ None
    at None e = refl
    at (Some heading) e = absurd (cc)

zip_length : (lines : List (List ℕ)) (forms : List LineForm) → AllZip (IsFormOf 1) lines forms →
    length lines ≡ length forms
zip_length [] [] all = refl
zip_length [] (form ∷ forms) all = absurd all
zip_length (line ∷ lines) [] all = absurd all
zip_length (line ∷ lines) (form ∷ forms) all = ap suc (zip_length lines forms all.1)

-- the script of a draft is what the bytes say
pub said : (bytes first : List ℕ) (rest : List (List ℕ)) (mode : Mode) (draft : Draft) (script : Script) →
    length bytes ≤ 1048576 → lines_in bytes ≡ first ∷ rest → mode_in first ≡ Some mode →
    AreTaken (empty_draft mode) rest draft → HasParts draft script → Say bytes script
said bytes first rest mode draft script size lines known taken parts =
    let all = all_held mode rest draft taken in
    record {
      size = size;
      heading = record { version = 1; mode = mode };
      forms = all.forms;
      are = record { header = first; body = rest; split = lines; headed = headed first mode known; formed = all.formed };
      say =
          record {
            fine = all.held.fine;
            version = parts.version;
            mode = parts.mode_is ∙ all.held.is.mode_is;
            sessions = parts.sessions ∙ all.held.is.sessions;
            catalogue = parts.catalogue ∙ all.held.is.catalogue;
            setup = parts.setup ∙ all.held.is.setup;
            lines = parts.lines ∙ all.held.is.lines;
          };
    }

counting : (before forms : ℕ) → before ≡ forms → forms + 2 ≡ suc before + 1
counting before forms same = omega (arith, same)

-- the line at which a draft stops is the first that is refused
pub stopped : (bytes first : List ℕ) (rest : List (List ℕ)) (mode : Mode) (number : ℕ) (why : Reason) →
    length bytes ≤ 1048576 → lines_in bytes ≡ first ∷ rest → mode_in first ≡ Some mode →
    IsStopped (empty_draft mode) rest number why → IsRefused bytes number why
stopped bytes first rest mode number why size lines known stop =
    let all = all_held mode stop.reached.before stop.draft stop.reached.taken in
    let counted : length stop.reached.before ≡ length all.forms = zip_length stop.reached.before all.forms all.formed in
    let told = first_is _ why stop.refused.first in
    let here : number ≡ length all.forms + 2 = stop.number_is ∙ all.held.is.number in
    let numbered : number ≡ length (first ∷ stop.reached.before) + 1 = here ∙ counting _ _ counted in
    inr (inr (
      size,
      record {
        before = first ∷ stop.reached.before;
        line = stop.line;
        after = stop.after;
        split = lines ∙ ap (λ l. first ∷ l) stop.reached.split;
        number_is = numbered;
        heading = record { version = 1; mode = mode };
        forms = all.forms;
        are =
            record {
              header = first;
              body = stop.reached.before;
              split = refl;
              headed = headed first mode known;
              formed = all.formed;
            };
        fine = all.held.fine;
        form = stop.refused.form;
        formed = stop.refused.formed;
        others = told.0;
        reasons = sym (reasons_are mode all.forms stop.draft stop.refused.form all.held.is) ∙ told.1;
      },
    ))

-- bytes without a header are refused at line 1
pub headless : (bytes first : List ℕ) (rest : List (List ℕ)) → length bytes ≤ 1048576 → lines_in bytes ≡ first ∷ rest →
    mode_in first ≡ None → IsRefused bytes 1 reason.Header
headless bytes first rest size lines none =
    inr (inl (size, record { first = first; others = rest; split = lines; bare = bare first none }, refl, refl))
