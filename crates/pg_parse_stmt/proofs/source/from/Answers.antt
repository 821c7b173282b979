use Rattle.pg_parse_stmt.proofs.source.from.Goals as goal
use Rattle.pg_parse_stmt.proofs.Froms.{from_begun, from_next, counted_first, counted_more, counted_limit}

pub loop-link-init : goal.loop-link-init
loop-link-init g c = (
  from_begun g.S.FromSource.rule g.S.FromSource.count_of g.met.S.FromSource.spelled c.args.before c.args.tokens.now
      c.in-Ok.first.rest.now c.in-Ok.first.value c.new-sources.result c.push.new.self c.new-sources.ensures
      c.in_ok-push.ensures.ok c.in-Ok.ensures.reads,
  counted_first g.S.FromSource.count_of c.in-Ok.first.value c.new-sources.result c.push.new.self c.count.result
      c.args.before c.new-sources.ensures c.in_ok-push.ensures.ok c.count.ensures,
  counted_limit c.args.before c.count.result _ c.count.ensures c.in-Ok.ensures.count,
)

pub loop-link-preserved : goal.loop-link-preserved
loop-link-preserved g c = (
  from_next g.S.FromSource.rule g.S.FromSource.count_of g.met.S.FromSource.spelled c.args.before c.loop-link.sources
      c.push-in-Ok-linked.new.self c.args.tokens.now c.loop-link.rest.now c.in-Some.behind.now
      c.in-Ok-linked.part.rest.now c.in-Some.link c.loop-link.count c.in-Ok-linked.part.value
      c.in_ok-push-in-Ok-linked.ensures.ok c.loop-link.invariant.0 c.in-Some.ensures c.loop-link.invariant.1
      c.in-Ok-linked.ensures.reads,
  counted_more g.S.FromSource.count_of c.in-Ok-linked.part.value c.loop-link.sources c.push-in-Ok-linked.new.self
      c.count-count.result c.loop-link.count c.args.before c.loop-link.invariant.1 c.in_ok-push-in-Ok-linked.ensures.ok
      c.count-count.ensures,
  counted_limit c.loop-link.count c.count-count.result _ c.count-count.ensures c.in-Ok-linked.ensures.count,
)
