-- The tables so far, and the sources left.
use Rattle.std.proofs.Common.{◌≡◌, ◌++◌, drop, map}
use Rattle.pg_world.specs.Candidates.{table_of_source}
use Rattle.pg_plans.proofs.statements.push_tables.Given as goal

abbrev pub invariant-loop-source : goal.invariant-loop-source
invariant-loop-source l =
    l.tables ++ map table_of_source (drop l.source-index l.sources)
    ≡ l.initial.tables ++ map table_of_source l.sources
