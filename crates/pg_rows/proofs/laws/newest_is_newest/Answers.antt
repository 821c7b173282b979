use Rattle.pg_rows.specs.Stores.{is_version_of}
use Rattle.pg_rows.proofs.Read.{read_last}
use Rattle.pg_rows.proofs.laws.newest_is_newest.Goals as goal

pub returns : goal.returns
returns c =
    λ versions row. read_last (is_version_of row) versions
