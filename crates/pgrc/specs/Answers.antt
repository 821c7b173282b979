-- What a call of the program promises.
use Rattle.std.specs.Prelude.{ℕ, ◌≡◌, ◌≢◌, ◌≤◌, ◌+◌, ◌⊎◌, ◌↔◌, List, [], Option, None, Some, String}
use Rattle.std.specs.declared.alloc.Global.{Global}
use Rattle.std.specs.Io.KnownBytes.{Appends}
use Rattle.pg_model.specs.declared.journal.Entry.{Entry}
use Rattle.pg_model.specs.declared.script.Script.{Script}
use Rattle.pg_outside.specs.Causes.{Rose}
use Rattle.pg_outside.specs.Reads.{ReadsFront, ReadsWhole}
use Rattle.pg_outside.specs.Writes.{AppendsFront}
use Rattle.pg_relation.specs.Journals.{IsComplete, IsLegal}
use Rattle.pg_relation.specs.Stepped.{IsStepped}
use Rattle.pg_script.specs.declared.fault.Reason.{Reason}
use Rattle.pg_script.specs.Reading.{most_bytes}
use Rattle.pgrc.specs.declared.command.Command.{Command}
use Rattle.pgrc.specs.declared.status.Report.{Report}
use Rattle.pgrc.specs.declared.status.Status.TheVariants.{Done, Usage, Memory, Refused, ReadFault, WriteFault}
use Rattle.pgrc.specs.Commands.{command_of, text_of}
use Rattle.pgrc.specs.Refusals.{AreRunnable, AreTurnedAway, IsTurnedAway, refusal_text}
use Rattle.pgrc.specs.Statuses.{IsCalm, IsTold, status_text}

-- the outside at one moment: the source and what is left of it, the sink and what it has taken, and what
-- was told to the user, each where it tells, and how many faults each of the three has had
pub record Outside (S K : Type 0) : Type 0 where
  pub source : S
  pub left : Option (List ℕ)
  pub read_faults : ℕ
  pub sink : K
  pub taken : Option (List ℕ)
  pub write_faults : ℕ
  pub told : Option (List ℕ)
  pub tell_faults : ℕ

-- the outside, put together of what the source, the sink and the one for errors tell
abbrev pub outside : {S K : Type 0} → S → Option (List ℕ) → ℕ → K → Option (List ℕ) → ℕ → Option (List ℕ) → ℕ → Outside S K
outside source left read_faults sink taken write_faults told tell_faults = record {
  source = source;
  left = left;
  read_faults = read_faults;
  sink = sink;
  taken = taken;
  write_faults = write_faults;
  told = told;
  tell_faults = tell_faults;
}

-- the input was read to its end, and its bytes say the script, which is stepped and whose setup raises
-- no error; each entry of the journal is a move that Read Committed permits, each statement has
-- exactly one reply and each session has ended, and the order is the stepped one
pub record IsRun (before now : Option (List ℕ)) (script : Script) (journal : List Entry) : Type 0 where
  pub bytes : List ℕ
  pub whole : ReadsWhole before now bytes
  pub runnable : AreRunnable bytes script
  pub legal : IsLegal script journal
  pub complete : IsComplete script journal
  pub stepped : IsStepped script journal

-- the words are a command, and such a run was made; what was written is as `Written` says of the text
-- that the command has of it
pub record Promises {S K : Type 0} (Written : List ℕ → Type 0) (words : List (String Global)) (before now : Outside S K) (report : Report) : Type 0 where
  pub command : Command
  pub named : command_of words ≡ Some command
  pub run : IsRun before.left now.left report.script report.journal
  pub text : Written (text_of command report.script report.journal)

-- the whole text was written
abbrev pub Headline : {S K : Type 0} → List (String Global) → Outside S K → Outside S K → Report → Type 0
Headline words before now report = Promises (λ text. Appends before.taken now.taken text) words before now report

-- a front of the text was written, and not all of it
abbrev pub IsCutShort : {S K : Type 0} → List (String Global) → Outside S K → Outside S K → Report → Type 0
IsCutShort words before now report =
    Promises (λ text. AppendsFront before.taken now.taken text) words before now report

-- the input was refused, and the line that says where and why was told
pub record TellsRefusal {S K : Type 0} (before now : Outside S K) : Type 0 where
  pub line : ℕ
  pub why : Reason
  pub cause : IsTurnedAway before.left now.left line why
  pub told : IsTold before.told now.told before.tell_faults now.tell_faults (refusal_text line why)

-- no script and no journal
pub record IsEmpty (report : Report) : Type 0 where
  pub sessions : report.script.sessions ≡ []
  pub catalogue : report.script.catalogue ≡ []
  pub setup : report.script.setup ≡ []
  pub lines : report.script.lines ≡ []
  pub journal : report.journal ≡ []

-- the words are a command, and no read fails
abbrev pub CanRead : {S K : Type 0} → List (String Global) → Outside S K → Outside S K → Type 0
CanRead words before now = (command_of words ≢ None) × IsCalm before.read_faults now.read_faults

-- what a call of the program promises: when each status comes, and what holds then
pub record IsAnswer {S K : Type 0} (words : List (String Global)) (before now : Outside S K) (report : Report) : Type 0 where
  pub headline : report.status ≡ Done → Headline words before now report
  pub cut : report.status ≡ WriteFault → IsCutShort words before now report
  pub unwritable : report.status ≡ WriteFault → Rose before.write_faults now.write_faults
  pub usage : (report.status ≡ Usage) ↔ (command_of words ≡ None)
  pub refused : report.status ≡ Refused → TellsRefusal before now
  pub unreadable : report.status ≡ ReadFault → Rose before.read_faults now.read_faults
  -- where nothing fails, a script is run and anything else is refused, unless memory is wanting
  pub runs : (left : List ℕ) (script : Script) → before.left ≡ Some left → AreRunnable left script →
      CanRead words before now → IsCalm before.write_faults now.write_faults →
      (report.status ≡ Done) ⊎ (report.status ≡ Memory)
  pub refuses : (left : List ℕ) (line : ℕ) (why : Reason) → before.left ≡ Some left → AreTurnedAway left line why →
      CanRead words before now → (report.status ≡ Refused) ⊎ (report.status ≡ Memory)
  pub told : report.status ≢ Refused →
      IsTold before.told now.told before.tell_faults now.tell_faults (status_text report.status)
  -- whatever the status, at most one byte more is read than a script may have
  pub short : ReadsFront before.left now.left (most_bytes + 1)
  pub unread : report.status ≡ Usage → now.source ≡ before.source
  pub unwritten : report.status ≢ Done → report.status ≢ WriteFault → now.sink ≡ before.sink
  pub empty : report.status ≢ Done → report.status ≢ WriteFault → IsEmpty report
  pub reads_later : before.read_faults ≤ now.read_faults
  pub writes_later : before.write_faults ≤ now.write_faults
  pub tells_later : before.tell_faults ≤ now.tell_faults
