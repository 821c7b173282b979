use Rattle.std.proofs.Common.{length}
use Rattle.pg_parse_stmt.proofs.Common.{more, Leads, behind, next_when, whens}
use Rattle.pg_parse_stmt.proofs.merge.whens.Given as goal

abbrev pub invariant-loop-behind : goal.invariant-loop-behind
invariant-loop-behind l = Leads whens l.fn.tokens (more next_when l.clauses) l.rest (behind 14)

abbrev pub decreases-loop-behind : goal.decreases-loop-behind
decreases-loop-behind l = length l.rest
