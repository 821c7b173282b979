-- How a call of the program ends, and what it says then.
use Rattle.std.specs.Prelude.{ℕ, ◌⊎◌, List, [], codes}
use Rattle.std.specs.declared.option.Option.{Option}
use Rattle.std.specs.Io.KnownBytes.{Appends}
use Rattle.pg_model.specs.Texts.{with_line_end}
use Rattle.pg_outside.specs.Causes.{Rose}
use Rattle.pg_outside.specs.Writes.{AppendsFront}
use Rattle.pgrc.specs.declared.status.Status.{Status}
use Rattle.pgrc.specs.declared.status.Status.TheVariants.{Done, Usage, Memory, Refused, ReadFault, WriteFault}

-- the exit status of the program
abbrev pub exit_status : Status → ℕ
exit_status Done = 0
exit_status Usage = 2
exit_status Memory = 3
exit_status Refused = 4
exit_status ReadFault = 5
exit_status WriteFault = 6

-- what is said to the user at each status; a refusal has a line of its own
abbrev pub status_text : Status → List ℕ
status_text Done = []
status_text Usage = with_line_end (codes "usage: pgrc replay, trace")
status_text Memory = with_line_end (codes "out of memory")
status_text Refused = []
status_text ReadFault = with_line_end (codes "read failed")
status_text WriteFault = with_line_end (codes "write failed")

-- the count of faults stands where it stood
abbrev pub IsCalm : ℕ → ℕ → Type 0
IsCalm before now = Rose before now → ⊥

-- the text was written and nothing else, or there was a fault, and a front of the text was
abbrev pub IsTold : Option (List ℕ) → Option (List ℕ) → ℕ → ℕ → List ℕ → Type 0
IsTold before now faults_before faults_now text =
    Appends before now text ⊎ (Rose faults_before faults_now × AppendsFront before now text)
