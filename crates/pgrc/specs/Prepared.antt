-- What is made of the words and the input, before anything is written.
use Rattle.std.specs.Prelude.{ℕ, ◌≡◌, ◌≢◌, ◌⊎◌, List, Option, None, Some, Result, Ok, Err, String}
use Rattle.std.specs.declared.alloc.Global.{Global}
use Rattle.std.specs.Io.KnownBytes.{Appends}
use Rattle.pg_model.specs.declared.error.SqlError.{SqlError}
use Rattle.pg_model.specs.declared.script.Mode.TheVariants.{Stepped}
use Rattle.pg_model.specs.declared.script.Script.{Script}
use Rattle.pg_outside.specs.Causes.{Rose}
use Rattle.pg_outside.specs.Reads.{ReadsWhole}
use Rattle.pg_outside.specs.Writes.{AppendsFront}
use Rattle.pg_relation.specs.Journals.{IsComplete, IsLegal}
use Rattle.pg_relation.specs.Stepped.{IsStepped}
use Rattle.pg_script.specs.declared.fault.Reason.{Reason}
use Rattle.pg_script.specs.declared.fault.Reason.TheVariants as reason
use Rattle.pg_script.specs.Reading.{Say}
use Rattle.pg_stepped.specs.Setups.{Raises, RaisesNone}
use Rattle.pgrc.specs.declared.command.Command.{Command}
use Rattle.pgrc.specs.declared.prepare.Fault.{Fault}
use Rattle.pgrc.specs.declared.prepare.Fault.TheVariants as fault
use Rattle.pgrc.specs.declared.prepare.Run.{Run}
use Rattle.pgrc.specs.declared.status.Status.{Status}
use Rattle.pgrc.specs.declared.status.Status.TheVariants as status
use Rattle.pgrc.specs.Answers.{IsRun}
use Rattle.pgrc.specs.Commands.{command_of, text_of}
use Rattle.pgrc.specs.Refusals.{AreTurnedAway, IsTurnedAway, refusal_text}
use Rattle.pgrc.specs.Statuses.{status_text}

-- the input was read to its end, and its bytes say the script, which is stepped
pub record ReadsTo (before now : Option (List ℕ)) (script : Script) : Type 0 where
  pub bytes : List ℕ
  pub whole : ReadsWhole before now bytes
  pub say : Say bytes script
  pub mode : script.mode ≡ Stepped

-- the text is the line that says so, and the input is refused at that line for that reason
pub record TellsAway (before now : Option (List ℕ)) (text : List ℕ) : Type 0 where
  pub line : ℕ
  pub why : Reason
  pub cause : IsTurnedAway before now line why
  pub says : text ≡ refusal_text line why

-- a refusal comes with its line, unless memory is wanting for that
abbrev pub IsRefusal : ℕ → Reason → Fault → Type 0
IsRefusal line why refusal = (refusal ≡ fault.Refused (refusal_text line why)) ⊎ (refusal ≡ fault.Memory)

-- the text is the line that says so, and the bytes are refused at that line for that reason
pub record TellRefusal (bytes : List ℕ) (text : List ℕ) : Type 0 where
  pub line : ℕ
  pub why : Reason
  pub away : AreTurnedAway bytes line why
  pub says : text ≡ refusal_text line why

-- the stepped script that bytes say, or why there is none
abbrev pub IsReading : List ℕ → Result Script Fault → Type 0
IsReading bytes (Ok script) = Say bytes script × (script.mode ≡ Stepped)
IsReading bytes (Err (fault.Refused text)) = TellRefusal bytes text
IsReading bytes (Err fault.Usage) = ⊥
IsReading bytes (Err fault.Memory) = Unit {0}
IsReading bytes (Err fault.Read) = ⊥

-- the script of the input, or why there is none to run
abbrev pub IsInput : Option (List ℕ) → Option (List ℕ) → Result Script Fault → Type 0
IsInput before now (Ok script) = ReadsTo before now script
IsInput before now (Err (fault.Refused text)) = TellsAway before now text
IsInput before now (Err fault.Usage) = ⊥
IsInput before now (Err fault.Memory) = Unit {0}
IsInput before now (Err fault.Read) = Unit {0}

-- a run of this script, and what the command writes of it
pub record IsRunOf (command : Command) (script : Script) (run : Run) : Type 0 where
  pub keeps : run.script ≡ script
  pub calm : RaisesNone script
  pub legal : IsLegal script run.journal
  pub complete : IsComplete script run.journal
  pub stepped : IsStepped script run.journal
  pub text : run.text ≡ text_of command script run.journal

-- the text is the line that tells of the error that the setup of the script raises
pub record TellsSetup (script : Script) (text : List ℕ) : Type 0 where
  pub line : ℕ
  pub error : SqlError
  pub raises : Raises script line error
  pub says : text ≡ refusal_text line (reason.Error error)

-- the run of a script, or the error of its setup
abbrev pub IsOutcome : Command → Script → Result Run Fault → Type 0
IsOutcome command script (Ok run) = IsRunOf command script run
IsOutcome command script (Err (fault.Refused text)) = TellsSetup script text
IsOutcome command script (Err fault.Usage) = ⊥
IsOutcome command script (Err fault.Memory) = Unit {0}
IsOutcome command script (Err fault.Read) = ⊥

-- a run of the script that was read, and what the command of the words writes of it
pub record IsMade (words : List (String Global)) (before now : Option (List ℕ)) (run : Run) : Type 0 where
  pub command : Command
  pub named : command_of words ≡ Some command
  pub made : IsRun before now run.script run.journal
  pub text : run.text ≡ text_of command run.script run.journal

-- the words are a command
abbrev pub IsCommand : List (String Global) → Type 0
IsCommand words = command_of words ≢ None

-- the run that the words and the input ask for, or why there is none
abbrev pub IsPrepared : List (String Global) → Option (List ℕ) → Option (List ℕ) → Result Run Fault → Type 0
IsPrepared words before now (Ok run) = IsMade words before now run
IsPrepared words before now (Err (fault.Refused text)) = IsCommand words × TellsAway before now text
IsPrepared words before now (Err fault.Usage) = command_of words ≡ None
IsPrepared words before now (Err fault.Memory) = IsCommand words
IsPrepared words before now (Err fault.Read) = IsCommand words

-- the status at which a fault ends a call
abbrev pub status_at : Fault → Status
status_at fault.Usage = status.Usage
status_at fault.Memory = status.Memory
status_at (fault.Refused text) = status.Refused
status_at fault.Read = status.ReadFault

-- what is said of it
abbrev pub fault_text : Fault → List ℕ
fault_text fault.Usage = status_text status.Usage
fault_text fault.Memory = status_text status.Memory
fault_text (fault.Refused text) = text
fault_text fault.Read = status_text status.ReadFault

-- how the text of a run was written: all of it, or a front of it where the sink has failed
abbrev pub IsWritten : Option (List ℕ) → Option (List ℕ) → ℕ → ℕ → List ℕ → Status → Type 0
IsWritten before now faults_before faults_now text status.Done = Appends before now text
IsWritten before now faults_before faults_now text status.WriteFault =
    AppendsFront before now text × Rose faults_before faults_now
IsWritten before now faults_before faults_now text status.Usage = ⊥
IsWritten before now faults_before faults_now text status.Memory = ⊥
IsWritten before now faults_before faults_now text status.Refused = ⊥
IsWritten before now faults_before faults_now text status.ReadFault = ⊥
