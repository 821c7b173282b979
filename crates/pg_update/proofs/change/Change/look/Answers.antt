use Rattle.std.proofs.Common.{subst, sym}
use Rattle.pg_update.specs.Steps.{HoldsItsRow}
use Rattle.pg_update.proofs.Doing.{look_held}
use Rattle.pg_update.proofs.change.Change.look.Goals as goal

pub returns : goal.returns
returns c =
    rw (← c.self.view_is)
    (λ given.
    look_held c.args.change.now c.args.tables.now c.args.xacts.now c.self.inside.running c.args.name
    (subst (λ machine. HoldsItsRow c.args.change.now c.args.tables.now c.args.xacts.now machine.running c.args.name) (sym c.self.view_is) c.requires)
    c.partners_in-partners.result.now c.partners_in-partners.ensures c.target_row-row.result c.target_row-row.ensures c.in-Some.version.now c.in-Some.ensures
    _ (c.look_at.ensures given))
