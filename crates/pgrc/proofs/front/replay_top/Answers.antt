-- A run is answered by its text, and a fault by its status.
use Rattle.std.proofs.Common.{refl}
use Rattle.pgrc.proofs.Answered.{answered_run, answered_fault}
use Rattle.pgrc.proofs.front.replay_top.Goals as goal

pub returns-in-Ok : goal.returns-in-Ok
returns-in-Ok g c =
    let run = c.in-Ok.ensures in let told = c.deliver.ensures in
    answered_run _ _ _ _ c.in-Ok.run' run.prepared told.script told.journal told.written told.told run.short run.later
    told.sink_later told.errors_later

pub returns-in-Err : goal.returns-in-Err
returns-in-Err g c =
    let fault = c.in-Err.ensures in let told = c.turn_away.ensures in
    answered_fault _ _ _ _ c.in-Err.fault fault.prepared told.status told.empty fault.failed fault.unread refl refl
    told.told fault.short fault.later told.later
