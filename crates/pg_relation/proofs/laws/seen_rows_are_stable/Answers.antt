use Rattle.pg_relation.specs.Journals.{world_after}
use Rattle.pg_relation.proofs.Sparing.{spares_entry}
use Rattle.pg_relation.proofs.Stable.{stable_after}
use Rattle.pg_relation.proofs.laws.seen_rows_are_stable.Goals as goal

pub returns : goal.returns
returns c = λ script journal entry number session running table legal is inside_is move apart.
    let stable = stable_after script journal legal in
    let reading = (stable.each number session is).reading running inside_is in
    (spares_entry script (world_after script journal) entry stable move).seen
    running.snapshot running.me number reading.snapshot reading.owned apart table
