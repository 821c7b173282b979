-- The expressions so far, and those left.
use Rattle.pg_analyse.proofs.Storing.{Resolving}
use Rattle.pg_analyse.proofs.inserts.resolve_row.Given as goal

abbrev pub invariant-loop-tree : goal.invariant-loop-tree
invariant-loop-tree l = Resolving l.columns l.numbers l.row l.at l.tree-index l.exprs l.fits
