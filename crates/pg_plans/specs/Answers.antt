-- What a step of an open statement answers, by what the statement may do next.
use Rattle.std.specs.Prelude.{ℕ, ◌≡◌, ◌+◌, if◌then◌else◌, nat_lt, List, [], ◌∷◌, Option, None, Some}
use Rattle.pg_model.specs.declared.error.SqlError.{SqlError}
use Rattle.pg_model.specs.declared.journal.EntryAct.TheVariants as entry
use Rattle.pg_world.specs.Choosing.{Choice, does, fails, waits}
use Rattle.pg_world.specs.Worlds.{until_end}
use Rattle.pg_world.specs.declared.session.Running.{Running}
use Rattle.pg_world.specs.declared.session.Stage.TheVariants.{Found as found}
use Rattle.pg_plans.specs.declared.act.Act.{Act}
use Rattle.pg_plans.specs.declared.act.Act.TheVariants as answer

-- The answer is the only choice: an act, a wait for the end of a session's transaction, or the error
-- that the statement fails with; the statement is done where there is none. A quiet step leaves the
-- choice to later ones, and so does one that got no memory.
abbrev pub IsAnswer : List Choice → Act → Type 0
IsAnswer given (answer.Entry act) = given ≡ does act ∷ []
IsAnswer given (answer.Blocked on) =
    (given ≡ waits on.session ∷ []) × (on ≡ until_end on.session)
IsAnswer given (answer.Failed error) = given ≡ fails error ∷ []
IsAnswer given answer.Done = given ≡ []
IsAnswer given answer.Quiet = Unit {0}
IsAnswer given answer.Memory = Unit {0}

-- a step that comes nearer to the end without an entry, where there is memory for it
abbrev pub IsQuiet : Act → Type 0
IsQuiet answer.Quiet = Unit {0}
IsQuiet answer.Memory = Unit {0}
IsQuiet _ = ⊥

-- the answer of a statement that reads its tables before it has its candidates: while it reads each
-- step is quiet
abbrev pub IsAnswerBehind : {R : Type 0} → Option R → List Choice → Act → Type 0
IsAnswerBehind (Some reading) given act = IsQuiet act
IsAnswerBehind None given act = IsAnswer given act

-- a statement fails with that error, where there is memory for it
abbrev pub IsFailure : SqlError → Act → Type 0
IsFailure error (answer.Failed given) = given ≡ error
IsFailure error answer.Memory = Unit {0}
IsFailure error _ = ⊥

-- the next of so many candidates is taken up; where none is left the statement is done
abbrev pub taking_up : ℕ → ℕ → Act
taking_up taken count =
    if nat_lt taken count then answer.Entry (entry.Found (taken + 1)) else answer.Done

-- and the statement behind that
abbrev pub running_taken_up : ℕ → Running → Running
running_taken_up count running =
    if nat_lt running.candidate count
    then record running { candidate = running.candidate + 1; stage = found } else running
