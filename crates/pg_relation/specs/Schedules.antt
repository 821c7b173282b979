-- Which session of a stepped script moves next.
use Rattle.std.specs.Prelude.{ℕ, ◌+◌, ◌&&◌, ◌++◌, Bool, true, false, not, if◌then◌else◌, nat_eq, nat_lt, List, [], ◌∷◌, drop, filter, find, take, length, Option, None, Some, is_some}
use Rattle.std.specs.Option.{option_map_or}
use Rattle.pg_waits.specs.Slots.{wait_of}
use Rattle.pg_model.specs.declared.journal.Entry.{Entry}
use Rattle.pg_model.specs.declared.journal.EntryAct.{EntryAct}
use Rattle.pg_model.specs.declared.journal.EntryAct.TheVariants as entry
use Rattle.pg_model.specs.declared.script.Line.{Line}
use Rattle.pg_model.specs.declared.script.Script.{Script}
use Rattle.pg_world.specs.declared.session.Progress.{Progress}
use Rattle.pg_world.specs.declared.session.SessionView.{SessionView}
use Rattle.pg_world.specs.declared.session.Progress.TheVariants.{Idle as idle, Inside as inside, Ending as ending, Closed as closed}
use Rattle.pg_world.specs.Worlds.{World, session_of}
use Rattle.pg_relation.specs.Lines.{statements_given}

-- how many lines of the script were taken, and which session moved last; and who has begun to wait
-- and has not moved since, in the order in which the waits began
pub record Schedule : Type 0 where
  pub taken : ℕ
  pub last : Option ℕ
  pub waited : List ℕ

-- no line was taken, and nobody has moved
abbrev pub first_schedule : Schedule
first_schedule = record { taken = 0; last = None; waited = [] }

-- the session is inside a statement: a COMMIT or ROLLBACK is, until it is answered
abbrev pub is_inside : Progress → Bool
is_inside idle = false
is_inside (inside running) = true
is_inside (ending tag) = true
is_inside closed = false

-- the session is between two statements
abbrev pub is_idle : Progress → Bool
is_idle idle = true
is_idle (inside running) = false
is_idle (ending tag) = false
is_idle closed = false

-- the session has ended
abbrev pub is_closed : Progress → Bool
is_closed idle = false
is_closed (inside running) = false
is_closed (ending tag) = false
is_closed closed = true

-- a line taken gives the session a statement that has no reply yet
abbrev pub is_queued : Script → Schedule → ℕ → SessionView → Bool
is_queued script schedule number session =
    nat_lt session.answered (length (statements_given number (take schedule.taken script.lines)))

-- the lowest session, from `first` on, that passes the test
abbrev pub lowest : (ℕ → SessionView → Bool) → ℕ → List SessionView → Option ℕ
lowest test first [] = None
lowest test first (session ∷ sessions) =
    if test first session then Some first else lowest test (first + 1) sessions

-- the first answer, or else the second
abbrev pub or_else : {X : Type 0} → Option X → Option X → Option X
or_else (Some answer) other = Some answer
or_else None other = other

-- whether a wait of the session stands
abbrev pub is_waiting : World → ℕ → Bool
is_waiting world number = is_some (wait_of world.waits number)

-- whether the session is inside a statement, and does not wait
abbrev pub is_going_on : World → ℕ → Bool
is_going_on world number =
    option_map_or (λ session. is_inside session.progress) (session_of world number) false
    && not (is_waiting world number)

-- the session that moved last, where it is inside a statement and does not wait
abbrev pub continuing : World → Option ℕ → Option ℕ
continuing world None = None
continuing world (Some number) = if is_going_on world number then Some number else None

-- of the sessions whose wait has ended and that have not moved since, the one whose wait began
-- first
abbrev pub waking : World → List ℕ → Option ℕ
waking world waited = find (is_going_on world) waited

-- the lowest session that is between statements and has a queued line
abbrev pub beginning : Script → World → Schedule → Option ℕ
beginning script world schedule =
    lowest
    (λ number session. is_idle session.progress && is_queued script schedule number session)
    0 world.sessions

-- the session that moves next without another line taken: the one that moved last, where it goes
-- on; or else the one whose wait has ended; or else the lowest between statements that has a queued
-- line
abbrev pub ready : Script → World → Schedule → Option ℕ
ready script world schedule =
    or_else (continuing world schedule.last)
    (or_else (waking world schedule.waited) (beginning script world schedule))

-- the next line is taken: a statement is queued for its session
abbrev pub line_taken : Schedule → Schedule
line_taken schedule = record schedule { taken = schedule.taken + 1 }

-- lines are taken, in order, until a session is ready
abbrev pub schedule_behind : Script → World → Schedule → List Line → Schedule
schedule_behind script world schedule [] = schedule
schedule_behind script world schedule (line ∷ lines) =
    if is_some (ready script world schedule) then schedule
    else schedule_behind script world (line_taken schedule) lines

-- the schedule as it is when the next session is chosen
abbrev pub settled_schedule : Script → World → Schedule → Schedule
settled_schedule script world schedule =
    schedule_behind script world schedule (drop schedule.taken script.lines)

-- where no line is left to take, the lowest session between statements moves, and is closed; or
-- else the lowest that is inside a statement and does not wait, which serves after steps in another
-- order
abbrev pub remaining : World → Option ℕ
remaining world =
    or_else (lowest (λ number session. is_idle session.progress) 0 world.sessions)
    (lowest (λ number session. is_going_on world number) 0 world.sessions)

-- the session that moves next
abbrev pub next_session : Script → World → Schedule → Option ℕ
next_session script world schedule =
    or_else (ready script world (settled_schedule script world schedule)) (remaining world)

-- the numbers that are not that one, in their order
abbrev pub without : ℕ → List ℕ → List ℕ
without number numbers = filter (λ other. not (nat_eq other number)) numbers

-- who has waited once a session has made that act: where it begins to wait, it is the last
abbrev pub waited_with : List ℕ → ℕ → EntryAct → List ℕ
waited_with waited number (entry.Waits other) = waited ++ number ∷ []
waited_with waited number _ = waited

-- the schedule behind an entry: its session has moved last
abbrev pub schedule_after : Schedule → Entry → Schedule
schedule_after schedule made =
    record schedule {
      last = Some made.session;
      waited = waited_with (without made.session schedule.waited) made.session made.act;
    }
