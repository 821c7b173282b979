-- A row that is shorter than the list of columns.
use Rattle.std.proofs.Common.{drop}
use Rattle.pg_world.specs.Candidates.{listed_values}
use Rattle.pg_world.specs.Evaluation.{all_values}
use Rattle.pg_plans.proofs.Listing.{short_row}
use Rattle.pg_plans.proofs.inserts.listed_values.Goals as goal

pub returns-in_default : goal.returns-in_default
returns-in_default c =
    λ _. short_row c.args.columns.now
    (drop c.loop-number.number-index c.args.numbers.now) c.args.exprs.now
    c.loop-number.at c.loop-number.listed
    (all_values (listed_values c.args.columns.now c.args.numbers.now c.args.exprs.now))
    c.in_default.ensures.lookup.3 c.loop-number.invariant.1
