use Rattle.std.proofs.Common.{refl, rules, sym}
use Rattle.pg_lists.specs.Numbered.{item_at}
use Rattle.pg_update.proofs.Rows.{blocked_leaves, unchanged}
use Rattle.pg_update.proofs.Doing.{passed_step}
use Rattle.pg_update.proofs.change.Change.hold.Goals as goal

pub returns-in-Ok-Blocked-clause-step : goal.returns-in-Ok-Blocked-clause-step
returns-in-Ok-Blocked-clause-step c = (
  refl,
  blocked_leaves c.args.tables.now c.hold_row.new.tables c.args.change.now.target.table c.self.inside.running.me.xact c.target_row-row.result
      c.strength_for-strength.result c.in-Ok-Blocked.field-0 c.in-Ok-Blocked.on c.in-Ok-Blocked.field-0-is c.in-Ok-Blocked.ensures.ok,
)

pub returns-in-Ok-Own-clause-step : goal.returns-in-Ok-Own-clause-step
returns-in-Ok-Own-clause-step c =
    rw c.pass.ensures.machine
    (passed_step c.args.change.now c.args.tables.now c.args.xacts.now c.args.self.now c.requires.planned c.pass.result c.hold_row.new.tables c.pass.ensures.act
    (let same = sym (unchanged c.args.tables.now c.args.change.now.target.table (item_at c.args.tables.now c.args.change.now.target.table) refl) in search (rules, same)))
