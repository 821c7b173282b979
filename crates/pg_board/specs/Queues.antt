-- The places of a session's lines in the script, and how many of them were taken.
use Rattle.std.specs.Prelude.{ℕ, ◌≡◌, ◌+◌, ◌<◌, ◌&&◌, Bool, is_some, if◌then◌else◌, nat_lt, List, [], ◌∷◌, length, take, Option, Some, option_and_then}
use Rattle.std.specs.Option.{option_map_or}
use Rattle.pg_lists.specs.Numbered.{item_at}
use Rattle.pg_model.specs.declared.script.Line.{Line}
use Rattle.pg_model.specs.declared.script.Script.{Script}
use Rattle.pg_model.specs.declared.statement.Statement.{Statement}
use Rattle.pg_world.specs.Evaluation.{OrError}
use Rattle.pg_world.specs.declared.session.SessionView.{SessionView}
use Rattle.pg_world.specs.Worlds.{World}
use Rattle.pg_relation.specs.Lines.{given_to, statements_given}
use Rattle.pg_relation.specs.Schedules.{continuing, is_idle, lowest, or_else, waking}
use Rattle.pg_board.specs.declared.queues.Queue.{Queue}

-- what the line at a place gives to the session, if it is one of its lines
unfoldable pub given_at : ℕ → List Line → ℕ → Option (OrError Statement)
given_at number lines place =
    option_and_then (λ line. given_to number line.content) (item_at lines place)

-- a line gives the session a statement
abbrev pub is_given_to : ℕ → Line → Bool
is_given_to number line = is_some (given_to number line.content)

-- the places of the lines that are given to a session, where the first of the lines is at `first`
abbrev pub places_of : ℕ → ℕ → List Line → List ℕ
places_of number first [] = []
places_of number first (line ∷ lines) =
    if is_given_to number line then first ∷ places_of number (first + 1) lines
    else places_of number (first + 1) lines

-- how many lines of a session are among the first ones of the script
abbrev pub taken_of : Script → ℕ → ℕ → ℕ
taken_of script taken number = length (statements_given number (take taken script.lines))

-- the queue of a session, where that many lines of the script were taken
abbrev pub queue_of : Script → ℕ → ℕ → Queue
queue_of script taken number =
    record { places = places_of number 0 script.lines; taken = taken_of script taken number }

-- each session of the script has its queue
pub record AreQueues (script : Script) (taken : ℕ) (queues : List Queue) : Type 0 where
  pub sessions : length queues ≡ length script.sessions
  pub each : (number : ℕ) → number < length queues →
      item_at queues number ≡ Some (queue_of script taken number)

-- more lines of the session were taken than it has answered
abbrev pub has_taken : List Queue → ℕ → SessionView → Bool
has_taken queues number session =
    nat_lt session.answered (option_map_or (λ queue. queue.taken) (item_at queues number) 0)

-- the session that moves next without another line taken, as the queues show it
abbrev pub ready_by : List Queue → World → Option ℕ → List ℕ → Option ℕ
ready_by queues world last waited =
    or_else (continuing world last)
    (or_else (waking world waited)
    (lowest (λ number session. is_idle session.progress && has_taken queues number session) 0
    world.sessions))

-- the queue with one line more taken
abbrev pub queued_more : Queue → Queue
queued_more queue = record queue { taken = queue.taken + 1 }
