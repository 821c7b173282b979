use Rattle.pg_relation.proofs.LockingKept.{steady_after}
use Rattle.pg_relation.proofs.row_laws.locked_rows_stay.Goals as goal

pub returns : goal.returns
returns c = λ script journal number session running change name legal is inside_is own_is stage_is.
    ((steady_after script journal legal).locking.sessions number session is).holding running change name inside_is own_is stage_is
