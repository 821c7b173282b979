-- The slots in front are done with, and those behind are as they were.
use Rattle.std.proofs.Common.{◌≡◌, ◌++◌, drop, take}
use Rattle.pg_waits.specs.Effects.{is_for_candidate_of, waits_left}
use Rattle.pg_waits.proofs.waits.end_candidate_waits.Given as goal

abbrev pub invariant-loop-slot : goal.invariant-loop-slot
invariant-loop-slot l =
    take l.slot-index l.slot-items ++ waits_left (is_for_candidate_of l.session) (drop l.slot-index l.slot-items)
    ≡ waits_left (is_for_candidate_of l.session) l.initial.slot-items
