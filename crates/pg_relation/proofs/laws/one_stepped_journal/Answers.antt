use Rattle.pg_relation.proofs.Complete.{stepped_exists, stepped_once}
use Rattle.pg_relation.proofs.laws.one_stepped_journal.Goals as goal

pub returns : goal.returns
returns c = record {
  one = λ script. let j = stepped_exists script in (j.0, record { stepped = j.1; complete = j.2 });
  only = λ script journal other a b. stepped_once script journal other a.stepped a.complete b.stepped b.complete;
}
