-- The reply of a statement that is done.
use Rattle.std.specs.Prelude.{ℕ, List, [], length, map, Option, None, Some, Ok, Err}
use Rattle.pg_lists.specs.Numbered.{nth_item}
use Rattle.pg_values.specs.declared.value.Value.{Value}
use Rattle.pg_values.specs.declared.value.Value.TheVariants.{Null, Bool, Int, Big, Text}
use Rattle.pg_model.specs.declared.journal.Reply.{Reply}
use Rattle.pg_model.specs.declared.journal.Tag.{Tag}
use Rattle.pg_model.specs.declared.journal.Tag.TheVariants as tag
use Rattle.pg_model.specs.declared.statement.Action.{Action}
use Rattle.pg_model.specs.declared.statement.Action.TheVariants as action
use Rattle.pg_model.specs.declared.statement.Statement.{Statement}
use Rattle.pg_model.specs.declared.statement.Statement.TheVariants as statement
use Rattle.pg_world.specs.declared.candidate.Candidate.{Candidate}
use Rattle.pg_world.specs.Evaluation.{OrError}
use Rattle.pg_world.specs.declared.session.Running.{Running}

-- the candidates, of which there are none where there was an error
abbrev pub candidate_list : OrError (List Candidate) → List Candidate
candidate_list (Ok candidates) = candidates
candidate_list (Err error) = []

-- what was made for a candidate, where there is one
abbrev pub made_values : Option Candidate → List Value
made_values (Some candidate) = candidate.made
made_values None = []

-- the proposed row of the candidate that a statement has taken up last
abbrev pub proposed_values : Running → List Value
proposed_values running =
    made_values (nth_item (candidate_list running.candidates) running.candidate)

-- a reply shows an integer as a bigint
abbrev pub shown_value : Value → Value
shown_value Null = Null
shown_value (Bool truth) = Bool truth
shown_value (Int number) = Big number
shown_value (Big number) = Big number
shown_value (Text bytes) = Text bytes

-- the rows that a statement returns: a plain SELECT its output rows, any other those of its acts
abbrev pub returned_rows : Statement → Running → List (List Value)
returned_rows (statement.Select select) running =
    map (λ candidate. candidate.made) (candidate_list running.candidates)
returned_rows (statement.Insert insert) running = running.output
returned_rows (statement.Change change) running = running.output
returned_rows statement.Begin running = []
returned_rows statement.Commit running = []
returned_rows statement.Rollback running = []

-- the tag of an UPDATE or DELETE of so many rows
abbrev pub change_tag : Action → ℕ → Tag
change_tag (action.Set assignments) rows = tag.Update rows
change_tag action.Delete rows = tag.Delete rows

-- the tag: what the statement did, and to how many rows
abbrev pub tag_of : Statement → Running → Tag
tag_of (statement.Select select) running = tag.Select (length (candidate_list running.candidates))
tag_of (statement.Insert insert) running = tag.Insert running.acts
tag_of (statement.Change change) running = change_tag change.action running.acts
tag_of statement.Begin running = tag.Begin
tag_of statement.Commit running = tag.Commit
tag_of statement.Rollback running = tag.Rollback

-- the reply of a statement that is done
abbrev pub reply_of : Statement → Running → Reply
reply_of given running =
    record {
      tag = tag_of given running;
      rows = map (λ row. map shown_value row) (returned_rows given running);
    }

-- the reply of BEGIN, COMMIT and ROLLBACK, which return no rows
abbrev pub bare_reply : Tag → Reply
bare_reply given = record { tag = given; rows = [] }
