use Rattle.pg_relation.proofs.Worked.{failing_block_left, failing_block_worked, listed_columns_worked, own_block_worked, uncommitted_row_worked, undone_blocks_left, undone_blocks_worked}
use Rattle.pg_relation.proofs.laws.worked_examples.Goals as goal

pub returns : goal.returns
returns c = record {
  block = own_block_worked;
  failure = failing_block_worked;
  failed = failing_block_left;
  snapshot = uncommitted_row_worked;
  defaults = listed_columns_worked;
  undone = undone_blocks_worked;
  left = undone_blocks_left;
}
