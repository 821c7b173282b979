use Rattle.std.proofs.Common.{[], length}
use Rattle.pg_parse_stmt.proofs.Common.{more, Leads, behind_part, next_rule}
use Rattle.pg_parse_stmt.proofs.create.column_rules.Given as goal

abbrev pub invariant-loop-word : goal.invariant-loop-word
invariant-loop-word l = Leads (more next_rule []) l.fn.tokens (more next_rule l.rules) l.rest behind_part

abbrev pub decreases-loop-word : goal.decreases-loop-word
decreases-loop-word l = length l.rest
