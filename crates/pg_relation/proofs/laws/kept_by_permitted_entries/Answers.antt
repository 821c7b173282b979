use Rattle.std.proofs.Common.{◌≡◌, true}
use Rattle.pg_relation.specs.Setup.{first_world}
use Rattle.pg_relation.proofs.Journals.{holds_from}
use Rattle.pg_relation.proofs.laws.kept_by_permitted_entries.Goals as goal

pub returns : goal.returns
returns c = λ script test kept journal legal. holds_from script (λ world. test world ≡ true) kept.kept (first_world script) journal kept.first legal
