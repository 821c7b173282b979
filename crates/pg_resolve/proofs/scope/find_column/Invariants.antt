-- What is found so far, and what is left.
use Rattle.std.proofs.Common.{◌≡◌, drop}
use Rattle.pg_resolve.specs.declared.scope.Found.TheVariants.{Nowhere}
use Rattle.pg_resolve.specs.Scope.{found_in, places_from}
use Rattle.pg_resolve.proofs.scope.find_column.Given as goal

abbrev pub invariant-loop-known : goal.invariant-loop-known
invariant-loop-known l =
    (l.at ≡ l.known-index)
    × (found_in l.found (places_from l.at (drop l.known-index l.sources) l.name)
    ≡ found_in Nowhere (places_from 0 l.sources l.name))
