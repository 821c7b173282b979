-- Each way in which a call ends meets what is promised.
use Rattle.std.proofs.Common.{◌≡◌, ◌≢◌, ◌≤◌, ◌+◌, ◌⊎◌, ◌↔◌, inl, inr, ℕ, List, Option, Some, None, Err, length, refl, sym, ◌∙◌, ap, subst, arith, length-append}
use Rattle.std.specs.Prelude.{String, Result}
use Rattle.std.specs.declared.alloc.Global.{Global}
use Rattle.std.specs.Io.KnownBytes.{Consumes}
use Rattle.pg_model.specs.declared.script.Mode.TheVariants as mode
use Rattle.pg_model.specs.declared.script.Script.{Script}
use Rattle.pg_outside.specs.Causes.{Rose}
use Rattle.pg_outside.specs.Reads.{ReadsFront, ReadsWhole}
use Rattle.pg_relation.specs.Setup.{setup_outcome}
use Rattle.pg_script.proofs.OneReading.{bytes_say_one_script, no_script_is_refused}
use Rattle.pg_script.specs.declared.fault.Reason.{Reason}
use Rattle.pg_script.specs.Laws.{HaveSameParts}
use Rattle.pg_script.specs.Reading.{most_bytes}
use Rattle.pgrc.specs.declared.prepare.Fault.{Fault}
use Rattle.pgrc.specs.declared.prepare.Fault.TheVariants as fault
use Rattle.pgrc.specs.declared.prepare.Run.{Run}
use Rattle.pgrc.specs.declared.status.Report.{Report}
use Rattle.pgrc.specs.declared.status.Status.{Status}
use Rattle.pgrc.specs.declared.status.Status.TheVariants as status
use Rattle.pgrc.specs.Answers.{IsAnswer, IsEmpty, IsRun, Outside, TellsRefusal}
use Rattle.pgrc.specs.Commands.{command_of}
use Rattle.pgrc.specs.Prepared.{IsMade, IsPrepared, IsWritten, fault_text, status_at}
use Rattle.pgrc.specs.Refusals.{AreRunnable, AreTurnedAway, IsTurnedAway, ReadsScript}
use Rattle.pgrc.specs.Statuses.{IsCalm, IsTold, status_text}

-- the setup of a script is the same for the same parts
same_outcome : (a b : Script) → HaveSameParts a b → setup_outcome a ≡ setup_outcome b
unfolding setup_outcome
same_outcome a b parts = rw (parts.setup, parts.catalogue) refl

-- bytes that say a script to run are not refused
not_both : (bytes : List ℕ) (script : Script) (line : ℕ) (why : Reason) →
    AreRunnable bytes script → AreTurnedAway bytes line why → ⊥
not_both bytes script line why run (inl refused) = no_script_is_refused bytes script line why run.say refused
not_both bytes script line why run (inr (inl free)) =
    let same = bytes_say_one_script bytes script free.script run.say free.say in
    let e : mode.Stepped ≡ mode.Free = sym run.mode ∙ same.mode ∙ free.mode in absurd (cc e)
not_both bytes script line why run (inr (inr fails)) =
    let same = bytes_say_one_script bytes script fails.script run.say fails.say in
    let e = sym run.calm.1 ∙ same_outcome script fails.script same ∙ fails.raises in absurd (cc e)

-- nor are the first bytes of it too many
not_long : (left bytes : List ℕ) (now : Option (List ℕ)) → length bytes ≡ most_bytes + 1 →
    Consumes (Some left) now bytes → length left ≤ most_bytes → ⊥
not_long left bytes None over consumed short = consumed
not_long left bytes (Some rest) over consumed short =
    let l = length-append bytes rest in let e = ap length consumed in absurd (omega (arith, l, e, over, short))

-- an input that says a script to run is not refused
never_refused : (left : List ℕ) (before now : Option (List ℕ)) (script : Script) (line : ℕ) (why : Reason) →
    before ≡ Some left → AreRunnable left script → IsTurnedAway before now line why → ⊥
never_refused left before now script line why is run refused = by_read (subst (λ b. ReadsScript b now refused.bytes) is refused.read)
  where
    by_read : ReadsScript (Some left) now refused.bytes → ⊥
    by_read (inl whole) =
        not_both refused.bytes script line why (subst (λ b. AreRunnable b script) whole.0 run) refused.away
    by_read (inr long) = not_long left refused.bytes now long.0 long.1 run.say.size

-- an input of which a run was made says a script to run
never_run : (left : List ℕ) (before now : Option (List ℕ)) (line : ℕ) (why : Reason) (run : Run) →
    before ≡ Some left → AreTurnedAway left line why → IsRun before now run.script run.journal → ⊥
never_run left before now line why run is away made =
    let whole : ReadsWhole (Some left) now made.bytes = subst (λ b. ReadsWhole b now made.bytes) is made.whole in
    not_both left run.script line why (subst (λ b. AreRunnable b run.script) (sym whole.0) made.runnable) away

-- a run is answered by one of two statuses
never_else : (before now : Option (List ℕ)) (faults_before faults_now : ℕ) (text : List ℕ) (s : Status) →
    IsWritten before now faults_before faults_now text s → (s ≡ status.Done) ⊎ (s ≡ status.WriteFault)
never_else before now faults_before faults_now text status.Done written = inl refl
never_else before now faults_before faults_now text status.WriteFault written = inr refl
never_else before now faults_before faults_now text status.Usage written = absurd written
never_else before now faults_before faults_now text status.Memory written = absurd written
never_else before now faults_before faults_now text status.Refused written = absurd written
never_else before now faults_before faults_now text status.ReadFault written = absurd written

-- so a run of which no write fails is done
done_or_faulted : (before now : Option (List ℕ)) (faults_before faults_now : ℕ) (text : List ℕ) (s : Status) →
    IsWritten before now faults_before faults_now text s → IsCalm faults_before faults_now → s ≡ status.Done
done_or_faulted before now faults_before faults_now text status.Done written calm = refl
done_or_faulted before now faults_before faults_now text status.WriteFault written calm = absurd (calm written.1)
done_or_faulted before now faults_before faults_now text status.Usage written calm = absurd written
done_or_faulted before now faults_before faults_now text status.Memory written calm = absurd written
done_or_faulted before now faults_before faults_now text status.Refused written calm = absurd written
done_or_faulted before now faults_before faults_now text status.ReadFault written calm = absurd written

-- a run was made and its text was written, or a front of it
pub answered_run : {S K : Type 0} (words : List (String Global)) (before now : Outside S K) (report : Report) (run : Run) →
    IsMade words before.left now.left run → report.script ≡ run.script → report.journal ≡ run.journal →
    IsWritten before.taken now.taken before.write_faults now.write_faults run.text report.status →
    IsTold before.told now.told before.tell_faults now.tell_faults (status_text report.status) →
    ReadsFront before.left now.left (most_bytes + 1) → before.read_faults ≤ now.read_faults →
    before.write_faults ≤ now.write_faults → before.tell_faults ≤ now.tell_faults → IsAnswer words before now report
answered_run words before now report run made script journal written told short reads writes tells = record {
  headline = λ e. record {
    command = made.command;
    named = made.named;
    run = is_run;
    text = rw (script, journal, ← made.text) (as_written status.Done e);
  };
  cut = λ e. record {
    command = made.command;
    named = made.named;
    run = is_run;
    text = rw (script, journal, ← made.text) (as_written status.WriteFault e).0;
  };
  unwritable = λ e. (as_written status.WriteFault e).1;
  usage = ((λ e. absurd (as_written status.Usage e)), (λ none. absurd (let e = sym made.named ∙ none in cc e)));
  refused = λ e. absurd (as_written status.Refused e);
  unreadable = λ e. absurd (as_written status.ReadFault e);
  runs = λ left s l r can calm. inl (done_or_faulted _ _ _ _ _ report.status written calm);
  refuses = λ left line why l away can. absurd (never_run left before.left now.left line why run l away made.made);
  told = λ other. told;
  short = short;
  unread = λ e. absurd (as_written status.Usage e);
  unwritten = λ undone unfaulted. absurd (neither undone unfaulted);
  empty = λ undone unfaulted. absurd (neither undone unfaulted);
  reads_later = reads;
  writes_later = writes;
  tells_later = tells;
}
  where
    as_written : (s : Status) → report.status ≡ s →
        IsWritten before.taken now.taken before.write_faults now.write_faults run.text s
    as_written s is =
        subst (λ t. IsWritten before.taken now.taken before.write_faults now.write_faults run.text t) is written

    is_run : IsRun before.left now.left report.script report.journal
    is_run = rw (script, journal) made.made

    neither : report.status ≢ status.Done → report.status ≢ status.WriteFault → ⊥
    neither undone unfaulted = by_how (never_else _ _ _ _ _ report.status written)
      where
        by_how : (report.status ≡ status.Done) ⊎ (report.status ≡ status.WriteFault) → ⊥
        by_how (inl e) = undone e
        by_how (inr e) = unfaulted e

-- a fault is neither that all was written, nor that a front was
not_written : (cause : Fault) → (status_at cause ≡ status.Done) ⊎ (status_at cause ≡ status.WriteFault) → ⊥
not_written fault.Usage (inl e) = absurd (cc e)
not_written fault.Usage (inr e) = absurd (cc e)
not_written fault.Memory (inl e) = absurd (cc e)
not_written fault.Memory (inr e) = absurd (cc e)
not_written (fault.Refused text) (inl e) = absurd (cc e)
not_written (fault.Refused text) (inr e) = absurd (cc e)
not_written fault.Read (inl e) = absurd (cc e)
not_written fault.Read (inr e) = absurd (cc e)

-- the fault that ends a call with this status
fault_of_usage : (cause : Fault) → status_at cause ≡ status.Usage → cause ≡ fault.Usage
fault_of_usage fault.Usage e = refl
fault_of_usage fault.Memory e = absurd (cc e)
fault_of_usage (fault.Refused text) e = absurd (cc e)
fault_of_usage fault.Read e = absurd (cc e)

fault_of_read : (cause : Fault) → status_at cause ≡ status.ReadFault → cause ≡ fault.Read
fault_of_read fault.Usage e = absurd (cc e)
fault_of_read fault.Memory e = absurd (cc e)
fault_of_read (fault.Refused text) e = absurd (cc e)
fault_of_read fault.Read e = refl

-- what is told of a fault that is no refusal is the text of its status
text_of_status : (cause : Fault) → status_at cause ≢ status.Refused → fault_text cause ≡ status_text (status_at cause)
text_of_status fault.Usage other = refl
text_of_status fault.Memory other = refl
text_of_status (fault.Refused text) other = absurd (other refl)
text_of_status fault.Read other = refl

-- the words are no command exactly where that is the fault
usage_exactly : (words : List (String Global)) (before now : Option (List ℕ)) (cause : Fault) →
    IsPrepared words before now (Err cause) → (status_at cause ≡ status.Usage) ↔ (command_of words ≡ None)
usage_exactly words before now fault.Usage none = ((λ e. none), (λ none. refl))
usage_exactly words before now fault.Memory command = ((λ e. absurd (cc e)), (λ none. absurd (command none)))
usage_exactly words before now (fault.Refused text) away = ((λ e. absurd (cc e)), (λ none. absurd (away.0 none)))
usage_exactly words before now fault.Read command = ((λ e. absurd (cc e)), (λ none. absurd (command none)))

-- an input was refused, which its line tells
tells_refusal : {S K : Type 0} (words : List (String Global)) (before now : Outside S K) (cause : Fault) →
    IsPrepared words before.left now.left (Err cause) →
    IsTold before.told now.told before.tell_faults now.tell_faults (fault_text cause) →
    status_at cause ≡ status.Refused → TellsRefusal before now
tells_refusal words before now fault.Usage none told e = absurd (cc e)
tells_refusal words before now fault.Memory command told e = absurd (cc e)
tells_refusal words before now (fault.Refused text) away told e =
    record {
      line = away.1.line;
      why = away.1.why;
      cause = away.1.cause;
      told = subst (λ line. IsTold before.told now.told before.tell_faults now.tell_faults line) away.1.says told;
    }
tells_refusal words before now fault.Read command told e = absurd (cc e)

-- where words are a command and no read fails, a script to run is run unless memory is wanting
memory_alone : (words : List (String Global)) (before now : Option (List ℕ)) (left : List ℕ) (script : Script) (cause : Fault) →
    IsPrepared words before now (Err cause) → before ≡ Some left → AreRunnable left script → command_of words ≢ None →
    cause ≢ fault.Read → status_at cause ≡ status.Memory
memory_alone words before now left script fault.Usage none is run command calm = absurd (command none)
memory_alone words before now left script fault.Memory known is run command calm = refl
memory_alone words before now left script (fault.Refused text) away is run command calm =
    absurd (never_refused left before now script away.1.line away.1.why is run away.1.cause)
memory_alone words before now left script fault.Read known is run command calm = absurd (calm refl)

-- and any other input is refused
refused_or_memory : (words : List (String Global)) (before now : Option (List ℕ)) (cause : Fault) →
    IsPrepared words before now (Err cause) → command_of words ≢ None → cause ≢ fault.Read →
    (status_at cause ≡ status.Refused) ⊎ (status_at cause ≡ status.Memory)
refused_or_memory words before now fault.Usage none command calm = absurd (command none)
refused_or_memory words before now fault.Memory known command calm = inr refl
refused_or_memory words before now (fault.Refused text) away command calm = inl refl
refused_or_memory words before now fault.Read known command calm = absurd (calm refl)

-- there is no run, and why was told
pub answered_fault : {S K : Type 0} (words : List (String Global)) (before now : Outside S K) (report : Report) (cause : Fault) →
    IsPrepared words before.left now.left (Err cause) → report.status ≡ status_at cause → IsEmpty report →
    (◌≡◌ {A = Result Run Fault} (Err cause) (Err fault.Read) → Rose before.read_faults now.read_faults) →
    (◌≡◌ {A = Result Run Fault} (Err cause) (Err fault.Usage) → now.source ≡ before.source) → now.sink ≡ before.sink →
    now.write_faults ≡ before.write_faults →
    IsTold before.told now.told before.tell_faults now.tell_faults (fault_text cause) →
    ReadsFront before.left now.left (most_bytes + 1) → before.read_faults ≤ now.read_faults →
    before.tell_faults ≤ now.tell_faults → IsAnswer words before now report
answered_fault words before now report cause prepared is empty failed unread unwritten same told short reads tells = record {
  headline = λ e. absurd (not_written cause (inl (sym is ∙ e)));
  cut = λ e. absurd (not_written cause (inr (sym is ∙ e)));
  unwritable = λ e. absurd (not_written cause (inr (sym is ∙ e)));
  usage = rw is (usage_exactly words before.left now.left cause prepared);
  refused = λ e. tells_refusal words before now cause prepared told (sym is ∙ e);
  unreadable = λ e. failed (ap Err (fault_of_read cause (sym is ∙ e)));
  runs = λ left script l run can calm.
      inr (is ∙ memory_alone words before.left now.left left script cause prepared l run can.0 (λ e. can.1 (failed (ap Err e))));
  refuses = λ left line why l away can.
      rw is (refused_or_memory words before.left now.left cause prepared can.0 (λ e. can.1 (failed (ap Err e))));
  told = λ other.
      rw is (subst (λ line. IsTold before.told now.told before.tell_faults now.tell_faults line)
      (text_of_status cause (λ e. other (is ∙ e))) told);
  short = short;
  unread = λ e. unread (ap Err (fault_of_usage cause (sym is ∙ e)));
  unwritten = λ undone unfaulted. unwritten;
  empty = λ undone unfaulted. empty;
  reads_later = reads;
  writes_later = omega (arith, same);
  tells_later = tells;
}
