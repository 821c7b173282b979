-- A source that was not read has given no byte, and a sink that nothing was written to has taken none.
use Rattle.std.proofs.Common.{ℕ, List, [], Option, None, Some, arith, inl, refl, sym}
use Rattle.std.proofs.lemmas.List.{append-nil}
use Rattle.std.specs.Io.KnownBytes.{Appends}
use Rattle.pg_outside.specs.Reads.{ReadsFront}
use Rattle.pgrc.specs.Statuses.{IsTold}

pub reads_nothing : (left : Option (List ℕ)) (most : ℕ) → ReadsFront left left most
reads_nothing None most = ([], omega arith, tt)
reads_nothing (Some bytes) most = ([], omega arith, refl)

appends_nothing : (said : Option (List ℕ)) → Appends said said []
appends_nothing None = tt
appends_nothing (Some bytes) = sym (append-nil bytes)

-- where nothing is said, nothing is added
pub says_nothing : (said : Option (List ℕ)) (faults : ℕ) → IsTold said said faults faults []
says_nothing said faults = inl (appends_nothing said)
