use Rattle.std.proofs.Common.{sym, ◌∙◌}
use Rattle.pg_insert.proofs.Choices.{none_permitted, placing_permitted}
use Rattle.pg_insert.proofs.insert.Insert.place.Goals as goal

pub returns-in-Ok-Some-clause-choice : goal.returns-in-Ok-Some-clause-choice
returns-in-Ok-Some-clause-choice c = placing_permitted c.args.tables.now c.args.number c.in-Ok-Some.row (sym c.in-Ok-Some.field-0-is ∙ c.in-Ok-Some.ensures.row)

pub returns-in-Ok-None-clause-choice : goal.returns-in-Ok-None-clause-choice
returns-in-Ok-None-clause-choice c = none_permitted c.args.tables.now c.args.number (sym c.in-Ok-None.field-0-is ∙ c.in-Ok-None.ensures.row)
