use Rattle.pg_relation.proofs.WorkedChanges.{both_raise_worked, crossed_updates_worked, raised_away_worked, two_wait_worked, undone_raise_worked}
use Rattle.pg_relation.proofs.laws.worked_changes.Goals as goal

pub returns : goal.returns
returns c = record {
  raised = both_raise_worked;
  passed = raised_away_worked;
  undone = undone_raise_worked;
  order = two_wait_worked;
  deadlock = crossed_updates_worked;
}
