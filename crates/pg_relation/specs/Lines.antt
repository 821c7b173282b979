-- The statements that the lines of a script give to a session.
use Rattle.std.specs.Prelude.{ℕ, ◌==◌, if◌then◌else◌, List, drop, filter_map, Option, None, Some}
use Rattle.pg_lists.specs.Numbered.{item_at}
use Rattle.pg_model.specs.declared.script.Content.{Content}
use Rattle.pg_model.specs.declared.script.Content.TheVariants as content
use Rattle.pg_model.specs.declared.script.Line.{Line}
use Rattle.pg_model.specs.declared.script.Script.{Script}
use Rattle.pg_model.specs.declared.statement.Statement.{Statement}
use Rattle.pg_world.specs.Evaluation.{OrError}
use Rattle.pg_world.specs.declared.session.SessionView.{SessionView}

-- the statement that a line gives to that session, if it gives it one, or the first error that
-- analysis found in it
abbrev pub given_to : ℕ → Content → Option (OrError Statement)
given_to number (content.Given session given) = if session == number then Some given else None

-- the statements that lines give to a session, in order
abbrev pub statements_given : ℕ → List Line → List (OrError Statement)
statements_given number lines = filter_map (λ line. given_to number line.content) lines

-- those of a script
abbrev pub statements_of : Script → ℕ → List (OrError Statement)
statements_of script number = statements_given number script.lines

-- those of them that have no reply yet
abbrev pub statements_left : Script → ℕ → SessionView → List (OrError Statement)
statements_left script number session = drop session.answered (statements_of script number)

-- the statement that a session is at: the first without a reply
abbrev pub statement_at : Script → ℕ → SessionView → Option (OrError Statement)
statement_at script number session = item_at (statements_of script number) session.answered
