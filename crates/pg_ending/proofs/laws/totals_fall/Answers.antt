use Rattle.pg_ending.proofs.Totals as sums
use Rattle.pg_ending.proofs.laws.totals_fall.Goals as goal

pub returns : goal.returns
returns g c = λ fs xs party x y is less. sums.totals_fall_at fs xs party x y is less
