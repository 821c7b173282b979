-- What an open statement may do next: an act, a wait, or its failure.
use Rattle.std.specs.Prelude.{ℕ, ◌+◌, if◌then◌else◌, nat_lt, List, [], ◌∷◌, Ok, Err}
use Rattle.pg_model.specs.declared.error.SqlError.{SqlError}
use Rattle.pg_model.specs.declared.journal.EntryAct.{EntryAct}
use Rattle.pg_model.specs.declared.journal.EntryAct.TheVariants as entry
use Rattle.pg_world.specs.Evaluation.{OrError}

-- an act that is permitted now, a session for the end of whose transaction it waits, or an error that
-- the statement fails with
pub data Choice : Type 0 where
  does : EntryAct → Choice
  waits : ℕ → Choice
  fails : SqlError → Choice

-- the next of so many candidates is taken up; where none is left the statement is done
abbrev pub candidate_choices : ℕ → ℕ → List Choice
candidate_choices taken count =
    if nat_lt taken count then does (entry.Found (taken + 1)) ∷ [] else []

-- what may be done with what is made, or the failure with its error
abbrev pub if_made : {X : Type 0} → OrError X → (X → List Choice) → List Choice
if_made (Ok made) choices = choices made
if_made (Err error) choices = fails error ∷ []
