use Rattle.std.proofs.Common.{◌≡◌, ◌≤◌, ◌+◌, length}
use Rattle.pg_parse_stmt.proofs.Common.{more, Leads, behind_from, from_of, next_source, sources_in}
use Rattle.pg_parse_stmt.proofs.source.from.Given as goal

abbrev pub invariant-loop-link : goal.invariant-loop-link
invariant-loop-link g l =
    Leads (from_of g.S.FromSource.rule g.S.FromSource.count_of l.fn.before) l.fn.tokens
    (more (next_source g.S.FromSource.rule g.S.FromSource.count_of l.fn.before) l.sources) l.rest behind_from ×
    (l.count ≡ l.fn.before + sources_in g.S.FromSource.count_of l.sources) × (l.count ≤ 8)

abbrev pub decreases-loop-link : goal.decreases-loop-link
decreases-loop-link g l = length l.rest
