use Rattle.pg_relation.proofs.OfRows.{guard_after}
use Rattle.pg_relation.proofs.row_laws.locks_are_compatible.Goals as goal

pub returns : goal.returns
returns c = record {
  compatible = λ script journal number row_number row locks legal of.
      (guard_after script journal number row_number row locks legal of).compatible;
  running = λ script journal number row_number row locks xact held legal of holds.
      (guard_after script journal number row_number row locks legal of).running xact held holds;
}
