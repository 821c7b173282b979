-- The bytes to come make up what is wanted.
use Rattle.std.proofs.Common.{◌≡◌, ◌++◌, drop}
use Rattle.pg_model.specs.Texts.{quoted_form}
use Rattle.pg_print.proofs.pieces.put_doubled.Given as goal

abbrev pub invariant-loop-byte : goal.invariant-loop-byte
invariant-loop-byte l = l.out.items ++ quoted_form (drop l.byte-index l.bytes) ≡ l.initial.out.items ++ quoted_form l.bytes
