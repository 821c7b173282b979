-- The numbers so far, and the columns left.
use Rattle.std.proofs.Common.{◌≡◌, ◌++◌, drop}
use Rattle.pg_analyse.specs.Inserts.{numbers_from}
use Rattle.pg_analyse.proofs.inserts.all_columns.Given as goal

abbrev pub invariant-loop-column : goal.invariant-loop-column
invariant-loop-column l =
    (l.at ≡ l._column-index)
    × (l.numbers ++ numbers_from l.at (drop l._column-index l.all) ≡ numbers_from 0 l.all)
