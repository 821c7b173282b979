-- The bytes are what was read so far, one more than the limit at most.
use Rattle.std.proofs.Common.{◌≡◌, ◌+◌, ◌-◌, ◌≤◌, vec_len}
use Rattle.std.specs.Io.KnownBytes.{Consumes}
use Rattle.pg_outside.proofs.reads.read_all.Given as goal

abbrev pub invariant-loop-block : goal.invariant-loop-block
invariant-loop-block g l = record {
  within : vec_len l.bytes ≤ l.limit + 1;
  block : vec_len l.block ≡ vec_len l.initial.block;
  later : g.S.Source.faults l.initial.source ≤ g.S.Source.faults l.source;
  consumed : Consumes (g.S.Source.left l.initial.source) (g.S.Source.left l.source) l.bytes.items;
}

abbrev pub decreases-loop-block : goal.decreases-loop-block
decreases-loop-block g l = l.limit + 1 - vec_len l.bytes
