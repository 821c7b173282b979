use Rattle.pg_table.proofs.Changed.{staged_shown}
use Rattle.pg_table.proofs.laws.staging_shows_nothing.Goals as goal

pub returns : goal.returns
returns c = staged_shown
