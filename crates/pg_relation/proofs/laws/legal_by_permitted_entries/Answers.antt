use Rattle.pg_relation.specs.Setup.{first_world}
use Rattle.pg_relation.proofs.Journals.{legal_from_more}
use Rattle.pg_relation.proofs.laws.legal_by_permitted_entries.Goals as goal

pub returns : goal.returns
returns c = λ script journal entry legal permitted. legal_from_more script (first_world script) journal entry legal permitted
