-- The commands of the program, and the text that each writes.
use Rattle.std.specs.Prelude.{ℕ, List, [], ◌∷◌, codes, if◌then◌else◌, Option, None, Some, string_bytes, String}
use Rattle.std.specs.Str.{bytes_eq}
use Rattle.std.specs.declared.alloc.Global.{Global}
use Rattle.pg_model.specs.declared.journal.Entry.{Entry}
use Rattle.pg_model.specs.declared.script.Script.{Script}
use Rattle.pg_model.specs.Printed.{journal_text}
use Rattle.pg_relation.specs.Printed.{printed_text}
use Rattle.pgrc.specs.declared.command.Command.{Command}
use Rattle.pgrc.specs.declared.command.Command.TheVariants.{Replay, Trace}

-- the command that a word names
abbrev pub command_named : List ℕ → Option Command
command_named word =
    if bytes_eq word (codes "replay") then Some Replay
    else (if bytes_eq word (codes "trace") then Some Trace else None)

-- the command that the words behind the program's name are: one word alone
abbrev pub command_of : List (String Global) → Option Command
command_of [] = None
command_of (word ∷ []) = command_named (string_bytes word)
command_of (_ ∷ _ ∷ _) = None

-- what a command writes of a run: its replies and tables, or each entry of its journal
abbrev pub text_of : Command → Script → List Entry → List ℕ
text_of Replay script journal = printed_text script journal
text_of Trace script journal = journal_text script journal
