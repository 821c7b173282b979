-- What is left decides.
use Rattle.std.proofs.Common.{◌≡◌, drop}
use Rattle.std.specs.List.{list_all}
use Rattle.pg_analyse.specs.Built.{is_built_item}
use Rattle.pg_analyse.proofs.built.are_built_items.Given as goal

abbrev pub invariant-loop-item : goal.invariant-loop-item
invariant-loop-item l = list_all is_built_item (drop l.item-index l.items) ≡ list_all is_built_item l.items
