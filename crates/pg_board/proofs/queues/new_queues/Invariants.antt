-- Each session so far has its queue.
use Rattle.std.proofs.Common.{◌≡◌, ◌<◌, ℕ, length, slice_get, Some}
use Rattle.pg_board.specs.Queues.{queue_of}
use Rattle.pg_board.proofs.queues.new_queues.Given as goal

abbrev pub invariant-loop-number : goal.invariant-loop-number
invariant-loop-number l =
    (length l.queues ≡ l.number)
    × ((number : ℕ) → number < length l.queues →
    slice_get l.queues number ≡ Some (queue_of l.script 0 number))
