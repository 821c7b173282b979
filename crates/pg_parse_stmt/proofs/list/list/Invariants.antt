use Rattle.std.proofs.Common.{length}
use Rattle.pg_parse_stmt.proofs.Common.{more, Leads, behind_list, list_of, next_of}
use Rattle.pg_parse_stmt.proofs.list.list.Given as goal

abbrev pub invariant-loop-behind : goal.invariant-loop-behind
invariant-loop-behind g l =
    Leads (list_of g.T.Listed.rule) l.fn.tokens (more (next_of g.T.Listed.rule) l.items) l.rest
    (behind_list g.T.Listed.follows)

abbrev pub decreases-loop-behind : goal.decreases-loop-behind
decreases-loop-behind g l = length l.rest
