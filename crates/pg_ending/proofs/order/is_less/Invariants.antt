use Rattle.std.proofs.Common.{◌≡◌, drop, length}
use Rattle.pg_ending.specs.Weight.{is_less}
use Rattle.pg_ending.proofs.order.is_less.Given as goal

abbrev pub invariant-loop-i : goal.invariant-loop-i
invariant-loop-i l = record {
  same : length l.first ≡ length l.second;
  rest : is_less l.first l.second ≡ is_less (drop l.i l.first) (drop l.i l.second);
}
