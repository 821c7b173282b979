-- Why an input is refused, and what is said then.
use Rattle.std.specs.Prelude.{ℕ, ◌≡◌, ◌+◌, ◌⊎◌, List, ◌++◌, codes, decimal, length}
use Rattle.std.specs.declared.option.Option.{Option}
use Rattle.std.specs.Io.KnownBytes.{Consumes}
use Rattle.pg_model.specs.declared.error.SqlError.{SqlError}
use Rattle.pg_model.specs.declared.script.Mode.TheVariants.{Stepped, Free as free}
use Rattle.pg_model.specs.declared.script.Script.{Script}
use Rattle.pg_model.specs.Errors.{error_state, error_text}
use Rattle.pg_model.specs.Texts.{with_line_end}
use Rattle.pg_outside.specs.Reads.{ReadsWhole}
use Rattle.pg_script.specs.declared.fault.Reason.{Reason}
use Rattle.pg_script.specs.declared.fault.Reason.TheVariants as reason
use Rattle.pg_script.specs.Reading.{IsRefused, Say, most_bytes}
use Rattle.pg_stepped.specs.Setups.{Raises, RaisesNone}

-- the words of a reason; an error is told by its state and its text
abbrev pub reason_text : Reason → List ℕ
reason_text reason.Size = codes "size"
reason_text reason.Header = codes "header"
reason_text reason.Later = codes "later"
reason_text reason.Line = codes "line"
reason_text reason.Free = codes "free"
reason_text reason.Order = codes "order"
reason_text reason.Sessions = codes "sessions"
reason_text reason.Place = codes "place"
reason_text (reason.Byte place) = codes "byte at " ++ decimal place
reason_text (reason.Literal place) = codes "literal at " ++ decimal place
reason_text (reason.LongName place) = codes "name at " ++ decimal place
reason_text (reason.Syntax place) = codes "syntax at " ++ decimal place
reason_text (reason.Depth place) = codes "depth at " ++ decimal place
reason_text (reason.Items place) = codes "items at " ++ decimal place
reason_text (reason.Error error) = error_state error ++ codes " " ++ error_text error

-- `line N: REASON`
abbrev pub refusal_text : ℕ → Reason → List ℕ
refusal_text line why = with_line_end (codes "line " ++ decimal line ++ codes ": " ++ reason_text why)

-- the bytes say a free script, whose order of steps nobody has fixed: told of line 1
pub record SayFree (bytes : List ℕ) (line : ℕ) (why : Reason) : Type 0 where
  pub script : Script
  pub say : Say bytes script
  pub mode : script.mode ≡ free
  pub first : line ≡ 1
  pub reason : why ≡ reason.Free

-- the bytes say a stepped script of which an INSERT of setup, that of the line, raises an error
pub record FailInSetup (bytes : List ℕ) (line : ℕ) (why : Reason) : Type 0 where
  pub script : Script
  pub say : Say bytes script
  pub mode : script.mode ≡ Stepped
  pub error : SqlError
  pub raises : Raises script line error
  pub reason : why ≡ reason.Error error

-- the reader refuses the bytes, or they say a free script, or one whose setup raises an error
abbrev pub AreTurnedAway : List ℕ → ℕ → Reason → Type 0
AreTurnedAway bytes line why =
    IsRefused bytes line why ⊎ (SayFree bytes line why ⊎ FailInSetup bytes line why)

-- the bytes say this stepped script, and no INSERT of its setup raises an error
pub record AreRunnable (bytes : List ℕ) (script : Script) : Type 0 where
  pub say : Say bytes script
  pub mode : script.mode ≡ Stepped
  pub calm : RaisesNone script

-- these bytes were read: all that was left, or, where that is longer than a script may be, one byte
-- more than a script has at most
abbrev pub ReadsScript : Option (List ℕ) → Option (List ℕ) → List ℕ → Type 0
ReadsScript before now bytes =
    ReadsWhole before now bytes ⊎ ((length bytes ≡ most_bytes + 1) × Consumes before now bytes)

-- the input is refused at that line, for that reason
pub record IsTurnedAway (before now : Option (List ℕ)) (line : ℕ) (why : Reason) : Type 0 where
  pub bytes : List ℕ
  pub read : ReadsScript before now bytes
  pub away : AreTurnedAway bytes line why
