-- What comes of a script that was read.
use Rattle.std.proofs.Common.{◌≡◌, ◌∙◌, ℕ, List, Option, None, Some, Ok, Err, inl, inr, refl, subst, sym}
use Rattle.std.specs.Prelude.{String, Result}
use Rattle.std.specs.declared.alloc.Global.{Global}
use Rattle.pg_model.specs.declared.script.Script.{Script}
use Rattle.pg_script.specs.declared.fault.Reason.TheVariants as reason
use Rattle.pgrc.specs.declared.command.Command.{Command}
use Rattle.pgrc.specs.declared.prepare.Fault.{Fault}
use Rattle.pgrc.specs.declared.prepare.Fault.TheVariants as fault
use Rattle.pgrc.specs.declared.prepare.Run.{Run}
use Rattle.pgrc.specs.Answers.{IsRun}
use Rattle.pgrc.specs.Commands.{command_of}
use Rattle.pgrc.specs.Prepared.{IsOutcome, IsPrepared, ReadsTo}

-- a script that was read is run, or refused for its setup, at the command of the words
pub outcome_prepared : (words : List (String Global)) (before now : Option (List ℕ)) (command : Command)
    (script : Script) (result : Result Run Fault) → Some command ≡ command_of words → ReadsTo before now script →
    IsOutcome command script result → IsPrepared words before now result
outcome_prepared words before now command script result named read outcome = at result outcome
  where
    is_command : command_of words ≡ None → ⊥
    is_command none = let e = named ∙ none in absurd (cc e)

    at : (answer : Result Run Fault) → IsOutcome command script answer → IsPrepared words before now answer
    at (Ok run) made = record {
      command = command;
      named = sym named;
      made = subst (λ s. IsRun before now s run.journal) (sym made.keeps) (record {
        bytes = read.bytes;
        whole = read.whole;
        runnable = record { say = read.say; mode = read.mode; calm = made.calm };
        legal = made.legal;
        complete = made.complete;
        stepped = made.stepped;
      });
      text = rw made.keeps made.text;
    }
    at (Err (fault.Refused text)) tells = (
      is_command,
      record {
        line = tells.line;
        why = reason.Error tells.error;
        cause = record {
          bytes = read.bytes;
          read = inl read.whole;
          away = inr (inr (record {
            script = script;
            say = read.say;
            mode = read.mode;
            error = tells.error;
            raises = tells.raises;
            reason = refl;
          }));
        };
        says = tells.says;
      },
    )
    at (Err fault.Usage) none = absurd none
    at (Err fault.Memory) memory = is_command
    at (Err fault.Read) none = absurd none
