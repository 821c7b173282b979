use Rattle.pg_table.proofs.Steady.{erasing_kept}
use Rattle.pg_table.proofs.laws.erasing_keeps_what_was_seen.Goals as goal

pub returns : goal.returns
returns c = λ transactions commits me state by row from unseen le. erasing_kept transactions commits me state by row unseen from le
