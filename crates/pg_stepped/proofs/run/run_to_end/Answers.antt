-- One turn more, and the end of the run.
use Rattle.std.proofs.Common.{ap, sym, ◌∙◌}
use Rattle.pg_relation.specs.Printed.{tables_of}
use Rattle.pg_stepped.proofs.Replaying.{on_way_end, on_way_more}
use Rattle.pg_stepped.proofs.run.run_to_end.Goals as goal

pub loop-session-preserved : goal.loop-session-preserved
loop-session-preserved c =
    on_way_more _ _ _ _ _ c.loop-session.invariant (sym c.in-Some.ensures.session) c.next.ensures.schedule
    c.in_ok-move_next.ensures

pub returns-in-Ok : goal.returns-in-Ok
returns-in-Ok c =
    let run = on_way_end _ _ _ c.loop-session.invariant (sym c.in_default.ensures.session) c.next.ensures.schedule in
    record {
      legal = rw c.in-Ok.ensures.journal run.legal;
      complete = rw c.in-Ok.ensures.journal run.complete;
      stepped = rw c.in-Ok.ensures.journal run.stepped;
      tables = rw c.in-Ok.ensures.journal (c.in-Ok.ensures.tables ∙ ap tables_of run.leaves);
    }
