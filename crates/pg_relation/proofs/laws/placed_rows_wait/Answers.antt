use Rattle.pg_relation.proofs.LockingKept.{steady_after}
use Rattle.pg_relation.proofs.laws.placed_rows_wait.Goals as goal

pub returns : goal.returns
returns c = λ script journal number session running insert row legal is inside_is own_is stage_is.
    (steady_after script journal legal).tidy.waits number session is running insert row inside_is own_is stage_is
