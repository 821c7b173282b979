-- Until a read succeeds or fails for good, the bytes and the count stay.
use Rattle.std.proofs.Common.{◌≡◌}
use Rattle.std.specs.Io.KnownBytes.{Keeps}
use Rattle.pg_outside.proofs.reading.ReadingSource.read.Given as goal

abbrev pub invariant-loop : goal.invariant-loop
invariant-loop g l = record {
  same : l.self.faults ≡ l.initial.self.faults;
  kept : Keeps (g.R.Read.remaining l.initial.self.inner) (g.R.Read.remaining l.self.inner);
}
