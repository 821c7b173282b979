use Rattle.pg_rows.proofs.Shown.{piece_follows}
use Rattle.pg_rows.proofs.laws.pieces_follow.Goals as goal

pub returns : goal.returns
returns c = piece_follows
