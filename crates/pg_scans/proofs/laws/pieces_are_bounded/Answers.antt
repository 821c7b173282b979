use Rattle.pg_scans.proofs.Bounds.{left_bounded}
use Rattle.pg_scans.proofs.laws.pieces_are_bounded.Goals as goal

pub returns : goal.returns
returns c = left_bounded
