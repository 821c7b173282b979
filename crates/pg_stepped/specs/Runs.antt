-- What the run of a stepped script leaves.
use Rattle.std.specs.Prelude.{◌≡◌}
use Rattle.pg_model.specs.declared.journal.Finished.{Finished}
use Rattle.pg_model.specs.declared.script.Script.{Script}
use Rattle.pg_relation.specs.Journals.{IsComplete, IsLegal, world_after}
use Rattle.pg_relation.specs.Printed.{tables_of}
use Rattle.pg_relation.specs.Stepped.{IsStepped}

-- each entry of the journal is a permitted move, each statement has its reply and each session has
-- ended, the order is the stepped one, and the tables are those that the journal leaves
pub record IsRun (script : Script) (finished : Finished) : Type 0 where
  pub legal : IsLegal script finished.journal
  pub complete : IsComplete script finished.journal
  pub stepped : IsStepped script finished.journal
  pub tables : finished.tables ≡ tables_of (world_after script finished.journal)
