-- The clock's weight falls.
use Rattle.std.proofs.Common.{◌≡◌, ◌<◌, ℕ, zero, suc, Some, None, List, [], ◌∷◌, ◌++◌, refl, inl, inr, arith}
use Rattle.pg_ending.specs.declared.clock.Clock.{Clock}
use Rattle.pg_ending.specs.declared.clock.Tick.{Tick}
use Rattle.pg_ending.specs.declared.clock.Tick.TheVariants.{Step, Round}
use Rattle.pg_ending.specs.Weight.{IsLess}
use Rattle.pg_ending.specs.Runs.{Falls, RunsTo, IsRunOf}
use Rattle.pg_ending.specs.Countdown.{tick_of, next_tick, after_tick, clock_weight}
use Rattle.pg_ending.proofs.Ending.{steps_left, steps_fall, runs_to_more, runs_to_end}

falls_at : (refill rounds steps : ℕ) (t : Tick) → tick_of rounds steps ≡ Some t →
    IsLess (clock_weight (after_tick refill (record { rounds = rounds; steps = steps }) t)) (rounds ∷ steps ∷ [])
falls_at refill zero zero t e = absurd (cc e)
falls_at refill (suc rounds) zero Step e = absurd (cc e)
falls_at refill (suc rounds) zero Round e = inl (omega arith, refl)
falls_at refill zero (suc steps) Step e = inr (refl, inl (omega arith, refl))
falls_at refill zero (suc steps) Round e = absurd (cc e)
falls_at refill (suc rounds) (suc steps) Step e = inr (refl, inl (omega arith, refl))
falls_at refill (suc rounds) (suc steps) Round e = absurd (cc e)

clock_falls : (refill : ℕ) → Falls next_tick (after_tick refill) clock_weight
clock_falls refill c t e = falls_at refill c.rounds c.steps t e

-- one turn of the loop: the measure falls
pub clock_steps_fall : (refill : ℕ) (c d : Clock) (t : Tick) → next_tick c ≡ Some t → d ≡ after_tick refill c t →
    steps_left next_tick (after_tick refill) clock_weight d < steps_left next_tick (after_tick refill) clock_weight c
clock_steps_fall refill c d t n e = steps_fall next_tick (after_tick refill) clock_weight c d t e n (clock_falls refill c t n)

-- and what was done grows
pub clock_runs_more : (refill : ℕ) (start c d : Clock) (t : Tick) (ts : List Tick) → next_tick c ≡ Some t →
    d ≡ after_tick refill c t → RunsTo next_tick (after_tick refill) start ts c →
    RunsTo next_tick (after_tick refill) start (ts ++ t ∷ []) d
clock_runs_more refill start c d t ts n e r = rw e (runs_to_more next_tick (after_tick refill) start ts c t r n)

pub clock_runs_end : (refill : ℕ) (start c : Clock) (ts : List Tick) → next_tick c ≡ None →
    RunsTo next_tick (after_tick refill) start ts c → IsRunOf next_tick (after_tick refill) start ts
clock_runs_end refill start c ts n r = runs_to_end next_tick (after_tick refill) start ts c r n
