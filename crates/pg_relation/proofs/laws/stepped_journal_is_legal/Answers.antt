use Rattle.pg_relation.proofs.Runs.{legal_stepped}
use Rattle.pg_relation.proofs.laws.stepped_journal_is_legal.Goals as goal

pub returns : goal.returns
returns c = λ script journal stepped. legal_stepped script journal stepped
