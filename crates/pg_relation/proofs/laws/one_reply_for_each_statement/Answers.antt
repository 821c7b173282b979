use Rattle.pg_relation.proofs.Replies.{replies_where_closed}
use Rattle.pg_relation.proofs.laws.one_reply_for_each_statement.Goals as goal

pub returns : goal.returns
returns c = λ script journal legal ended number within. replies_where_closed script journal number legal within (ended number within)
