-- What a board shows, and how a step changes it.
use Rattle.std.specs.Prelude.{ℕ, ◌≡◌, ◌<◌, ◌+◌, ◌*◌, ◌⊎◌, ◌++◌, ◌∷◌, ◌&&◌, [], List, Bool, false, not, nat_lt, length, map, unwrap_or, Option, None, Some, Ok, Err}
use Rattle.std.specs.Option.{option_map_or}
use Rattle.pg_model.specs.declared.script.Script.{Script}
use Rattle.pg_model.specs.declared.journal.Entry.{Entry}
use Rattle.pg_model.specs.declared.journal.EntryAct.{EntryAct}
use Rattle.pg_lists.specs.Numbered.{item_at}
use Rattle.pg_model.specs.declared.statement.Statement.{Statement}
use Rattle.pg_world.specs.Candidates.{tables_read}
use Rattle.pg_world.specs.Evaluation.{OrError}
use Rattle.pg_world.specs.Worlds.{World, session_of}
use Rattle.pg_relation.specs.Lines.{statement_at}
use Rattle.pg_relation.specs.Effect.{effect}
use Rattle.pg_relation.specs.Moves.{moves_of}
use Rattle.pg_relation.specs.Schedules.{Schedule, first_schedule, is_closed, is_idle, is_queued, schedule_after}
use Rattle.pg_relation.specs.Setup.{first_world}
use Rattle.pg_board.specs.Counts.{most_versions}
use Rattle.pg_relation.specs.Stepped.{first_of_list}

-- the script, the journal so far, the world that it leaves, which lines were taken, and for each
-- session how many steps without an entry it may still make before its next entry
pub record BoardView : Type 0 where
  pub script : Script
  pub journal : List Entry
  pub world : World
  pub schedule : Schedule
  pub quiet : List ℕ

-- the number of a session
abbrev pub quiet_left : BoardView → ℕ → ℕ
quiet_left board number = unwrap_or (item_at board.quiet number) 0

-- how many tables the statement reads that a session is at, each as often as it is written
abbrev pub tables_of_statement : Option (OrError Statement) → ℕ
tables_of_statement (Some (Ok given)) = length (tables_read given)
tables_of_statement (Some (Err error)) = 0
tables_of_statement None = 0

-- how many tables the statement of a session reads
abbrev pub tables_read_by : BoardView → ℕ → ℕ
tables_read_by board number =
    option_map_or (λ session. tables_of_statement (statement_at board.script number session))
    (session_of board.world number) 0

-- no session may make more steps without an entry than that: one for each table that its statement
-- reads, one more for each of their versions, and a few
abbrev pub most_quiet : BoardView → ℕ → ℕ
most_quiet board number =
    16 + tables_read_by board number * (1 + most_versions board.script board.journal)

-- the session has ended
abbrev pub has_ended : BoardView → ℕ → Bool
has_ended board number =
    option_map_or (λ session. is_closed session.progress) (session_of board.world number) false

-- the session is between statements without a queued line
abbrev pub is_unqueued : BoardView → ℕ → Bool
is_unqueued board number =
    option_map_or
    (λ session.
    is_idle session.progress && not (is_queued board.script board.schedule number session))
    (session_of board.world number) false

-- lines remain untaken, and the session is between statements without a queued line
abbrev pub waits_for_lines : BoardView → ℕ → Bool
waits_for_lines board number =
    nat_lt board.schedule.taken (length board.script.lines) && is_unqueued board number

-- the board of a script of which no line was taken
abbrev pub first_board : Script → BoardView
first_board script =
    record {
      script = script;
      journal = [];
      world = first_world script;
      schedule = first_schedule;
      quiet = map (λ name. 0) script.sessions;
    }

-- the session has made the first of its permitted moves
pub record HasMoved (number : ℕ) (old new : BoardView) : Type 0 where
  pub act : EntryAct
  pub first : first_of_list (moves_of old.script old.world number) ≡ Some act
  pub script : new.script ≡ old.script
  pub journal : new.journal ≡ old.journal ++ record { session = number; act = act } ∷ []
  pub world : new.world ≡ effect old.script old.world (record { session = number; act = act })
  pub schedule : new.schedule
      ≡ schedule_after old.schedule (record { session = number; act = act })

-- the session has come nearer to its next entry, and nothing else has changed
pub record HasComeNearer (number : ℕ) (old new : BoardView) : Type 0 where
  pub same : new ≡ record old { quiet = new.quiet }
  pub fewer : quiet_left new number < quiet_left old number
  pub others : (other : ℕ) → (other ≡ number → ⊥) → quiet_left new other ≡ quiet_left old other

-- what a step of the session that moves it comes to
abbrev pub MovedBy : ℕ → BoardView → BoardView → Type 0
MovedBy number old new = HasMoved number old new ⊎ HasComeNearer number old new
