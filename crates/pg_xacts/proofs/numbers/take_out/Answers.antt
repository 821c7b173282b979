use Rattle.std.proofs.Common.{◌∙◌}
use Rattle.pg_xacts.proofs.Rising.{is_not_there, is_taken_out}
use Rattle.pg_xacts.proofs.numbers.take_out.Goals as goal

pub returns-in-Ok : goal.returns-in-Ok
returns-in-Ok c =
    c.remove.ensures.items
    ∙ is_taken_out c.args.numbers.now.items c.deref.result.now c.args.number c.binary_search.result c.in-Ok.place
    c.requires c.deref.ensures.value c.binary_search.ensures.position c.in-Ok.is

pub returns-in_default : goal.returns-in_default
returns-in_default c =
    is_not_there c.args.numbers.now.items c.deref.result.now c.args.number c.binary_search.result c.in_default.field-0
    c.requires c.deref.ensures.value c.binary_search.ensures.position c.in_default.is
