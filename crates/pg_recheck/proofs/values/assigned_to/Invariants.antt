-- The values left.
use Rattle.std.proofs.Common.{◌≡◌, drop}
use Rattle.std.specs.Prelude.{nat_eq}
use Rattle.std.specs.Map.{lookup}
use Rattle.pg_recheck.proofs.values.assigned_to.Given as goal

abbrev pub invariant-loop-column : goal.invariant-loop-column
invariant-loop-column l =
    lookup (nat_eq l.number) (drop l.column-index l.assigned) ≡ lookup (nat_eq l.number) l.assigned
