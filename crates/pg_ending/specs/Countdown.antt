-- The worked example: a clock of rounds and steps, whose weight is these two numbers.
use Rattle.std.specs.Prelude.{◌-◌, ℕ, zero, suc, List, [], ◌∷◌, Option, Some, None}
use Rattle.pg_ending.specs.declared.clock.Clock.{Clock}
use Rattle.pg_ending.specs.declared.clock.Tick.{Tick}
use Rattle.pg_ending.specs.declared.clock.Tick.TheVariants.{Step, Round}

-- what a clock does with so many rounds and steps: a step while one is left, and else a round
abbrev pub tick_of : ℕ → ℕ → Option Tick
tick_of zero zero = None
tick_of (suc rounds) zero = Some Round
tick_of rounds (suc steps) = Some Step

-- what a clock does next
abbrev pub next_tick : Clock → Option Tick
next_tick c = tick_of c.rounds c.steps

-- the clock after it: a round brings as many steps as `refill` says
abbrev pub after_tick : ℕ → Clock → Tick → Clock
after_tick refill c Step = record c { steps = c.steps - 1 }
after_tick refill c Round = record { rounds = c.rounds - 1; steps = refill }

-- the rounds weigh more than the steps
abbrev pub clock_weight : Clock → List ℕ
clock_weight c = c.rounds ∷ c.steps ∷ []
