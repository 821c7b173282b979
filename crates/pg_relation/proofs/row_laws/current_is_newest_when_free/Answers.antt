use Rattle.pg_multi.specs.declared.strength.Strength.TheVariants.{NoKeyUpdate}
use Rattle.pg_relation.proofs.Guarded.{newest_current}
use Rattle.pg_relation.proofs.OfRows.{guard_after}
use Rattle.pg_relation.proofs.row_laws.current_is_newest_when_free.Goals as goal
use Rattle.pg_relation.specs.Journals.{world_after}
use Rattle.std.proofs.Common.{arith}

pub returns : goal.returns
returns c = λ script journal number row_number row locks xact version legal of free current_is.
    newest_current (world_after script journal).transactions row_number row locks
    (guard_after script journal number row_number row locks legal of) xact NoKeyUpdate version (omega arith) current_is free
