-- What was collected, with the places of the lines to come, is all places.
use Rattle.std.proofs.Common.{◌≡◌, ◌++◌, drop}
use Rattle.pg_board.specs.Queues.{places_of}
use Rattle.pg_board.proofs.queues.places_of_session.Given as goal

abbrev pub invariant-loop-place : goal.invariant-loop-place
invariant-loop-place l =
    l.places ++ places_of l.number l.place (drop l.place l.line-items)
    ≡ places_of l.number 0 l.line-items
