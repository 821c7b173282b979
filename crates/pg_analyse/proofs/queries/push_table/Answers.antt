-- The table that was found is the source.
use Rattle.pg_analyse.proofs.queries.push_table.Goals as goal

pub returns-clause-sources : goal.returns-clause-sources
returns-clause-sources c = rw c.in_ok-named.ensures.table c.in_ok-push-2.ensures.ok
