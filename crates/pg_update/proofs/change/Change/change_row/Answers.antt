use Rattle.std.proofs.Common.{Ok, ap, sym, ◌∙◌}
use Rattle.pg_update.specs.declared.look.Look.TheVariants.{ToHold}
use Rattle.pg_update.proofs.Doing.{staged_step}
use Rattle.pg_update.proofs.Staged.{can_change}
use Rattle.pg_update.proofs.change.Change.change_row.Goals as goal

pub erase-requires-clause-free : goal.erase-requires-clause-free
erase-requires-clause-free c = can_change c.args.change.now c.args.tables.now c.args.xacts.now c.args.self.now.running c.args.name c.requires.holds c.requires.free

pub stage-requires : goal.stage-requires
stage-requires c = can_change c.args.change.now c.args.tables.now c.args.xacts.now c.args.self.now.running c.args.name c.requires.holds c.requires.free

pub returns-in-Ok-clause-step : goal.returns-in-Ok-clause-step
returns-in-Ok-clause-step c =
    rw c.in-Ok.ensures.machine
    (staged_step c.args.change.now c.args.tables.now c.args.xacts.now c.args.self.now c.requires.known c.args.name c.requires.stage c.requires.planned
    c.requires.unstaged c.requires.holds
    (can_change c.args.change.now c.args.tables.now c.args.xacts.now c.args.self.now.running c.args.name c.requires.holds c.requires.free)
    c.in-Ok-ToHold-Some.values
    (sym (ap (λ look. Ok look) (c.in-Ok-ToHold-Some.field-0-is ∙ ap (λ values. ToHold values) c.in-Ok-ToHold-Some.field-0-0-is))
    ∙ c.in-Ok-ToHold-Some.ensures (λ e. cc e))
    c.stage.ensures.kept c.stage.new.tables c.in-Ok.ensures.tables)
