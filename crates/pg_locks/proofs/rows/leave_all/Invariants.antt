-- The transaction has left the rows so far.
use Rattle.std.proofs.Common.{◌≡◌, ℕ, nat_eq, option_map, take}
use Rattle.std.specs.List.{list_any}
use Rattle.pg_lists.specs.Numbered.{nth_item}
use Rattle.pg_locks.specs.Locks.{locks_left_where}
use Rattle.pg_locks.proofs.rows.leave_all.Given as goal

abbrev pub invariant-loop-row : goal.invariant-loop-row
invariant-loop-row l =
    (row : ℕ) → nth_item l.rows.items row
    ≡ option_map (locks_left_where (list_any (nat_eq row) (take l.row-index l.held)) l.xact) (nth_item l.initial.rows.items row)
