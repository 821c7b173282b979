-- Only lines were taken, the settled schedule is the one that it was, and the session is the one that is ready.
use Rattle.std.proofs.Common.{◌≡◌, ◌-◌, length}
use Rattle.pg_relation.specs.Schedules.{ready, settled_schedule}
use Rattle.pg_board.proofs.board.Board.settle.Given as goal

abbrev pub invariant-loop-ready : goal.invariant-loop-ready
invariant-loop-ready l =
    (l.self ≡ record l.initial.self { schedule = l.self.schedule })
    × (settled_schedule l.initial.self.script l.initial.self.world l.self.schedule
    ≡ settled_schedule l.initial.self.script l.initial.self.world l.initial.self.schedule)
    × (l.ready ≡ ready l.self.script l.self.world l.self.schedule)

abbrev pub decreases-loop-ready : goal.decreases-loop-ready
decreases-loop-ready l = length l.self.script.lines - l.self.schedule.taken
