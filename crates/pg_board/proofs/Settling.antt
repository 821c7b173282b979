-- Lines are taken until a session is ready.
use Rattle.std.proofs.Common.{◌≡◌, ◌<◌, ◌≤◌, ℕ, zero, suc, cond, List, [], ◌∷◌, length, drop, Some, None, refl, arith, ap, sym, ◌∙◌, add-one}
use Rattle.std.specs.Prelude.{is_some}
use Rattle.pg_model.specs.declared.script.Line.{Line}
use Rattle.pg_model.specs.declared.script.Script.{Script}
use Rattle.pg_world.specs.Worlds.{World}
use Rattle.pg_relation.specs.Schedules.{Schedule, line_taken, ready, schedule_behind, settled_schedule}

drop_past : {X : Type 0} (xs : List X) (n : ℕ) → length xs ≤ n → drop n xs ≡ []
drop_past [] zero past = refl
drop_past [] (suc n) past = refl
drop_past (x ∷ xs) zero past = absurd (omega (arith, past))
drop_past (x ∷ xs) (suc n) past = drop_past xs n (omega (arith, past))

drop_next : {X : Type 0} (xs : List X) (n : ℕ) → n < length xs → (x : X) × (drop n xs ≡ x ∷ drop (suc n) xs)
drop_next [] n within = absurd (omega (arith, within))
drop_next (x ∷ xs) zero within = (x, refl)
drop_next (x ∷ xs) (suc n) within = drop_next xs n (omega (arith, within))

-- where each line was taken, no more is
pub settled_at_end : (script : Script) (world : World) (schedule : Schedule) →
    length script.lines ≤ schedule.taken → settled_schedule script world schedule ≡ schedule
settled_at_end script world schedule past =
    ap (schedule_behind script world schedule) (drop_past script.lines schedule.taken past)

-- where a session is ready, no line is taken
pub settled_at_ready : (script : Script) (world : World) (schedule : Schedule) (session : ℕ) →
    ready script world schedule ≡ Some session → settled_schedule script world schedule ≡ schedule
settled_at_ready script world schedule session is = at (drop schedule.taken script.lines)
  where
    at : (lines : List Line) → schedule_behind script world schedule lines ≡ schedule
    at [] = refl
    at (line ∷ lines) =
        ap (λ o. cond (is_some o) schedule (schedule_behind script world (line_taken schedule) lines)) is

-- where no session is ready and a line is left, it is taken
pub settled_on : (script : Script) (world : World) (schedule : Schedule) → schedule.taken < length script.lines →
    ready script world schedule ≡ None →
    settled_schedule script world schedule ≡ settled_schedule script world (line_taken schedule)
settled_on script world schedule within is =
    let next = drop_next script.lines schedule.taken within in
    ap (schedule_behind script world schedule) next.1
    ∙ ap (λ o. cond (is_some o) schedule (schedule_behind script world (line_taken schedule) (drop (suc schedule.taken) script.lines))) is
    ∙ ap (λ n. schedule_behind script world (line_taken schedule) (drop n script.lines)) (sym (add-one schedule.taken))
