use Rattle.pg_relation.proofs.OfRows.{guard_after, same_writer}
use Rattle.pg_relation.proofs.row_laws.one_running_writer.Goals as goal
use Rattle.pg_relation.specs.Journals.{world_after}

pub returns : goal.returns
returns c = record {
  one = λ script journal number row_number row locks version other legal of has also runs run.
      same_writer (world_after script journal).transactions row.versions version other
      (guard_after script journal number row_number row locks legal of).behind has also runs run;
  behind = λ script journal number row_number row locks xact legal of runs.
      (guard_after script journal number row_number row locks legal of).behind xact runs;
}
