use Rattle.pg_relation.proofs.Needs.{move_of}
use Rattle.pg_relation.proofs.laws.permitted_entries_have_their_needs.Goals as goal

pub returns : goal.returns
returns c = λ script world entry move. let m = move_of script world entry move in (m.session, m.is, m.needs)
