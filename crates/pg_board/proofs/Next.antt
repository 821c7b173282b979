-- The session that moves next is one of the script's and can move; there is none where each has ended.
use Rattle.std.proofs.Common.{◌≡◌, ◌<◌, ◌↔◌, ◌&&◌, ℕ, Bool, true, false, not, nat_lt, IfSome, length, Option, Some, None, refl, ap, sym, ◌∙◌, arith}
use Rattle.std.proofs.lemmas.Bool.Decides.{nat_tests}
use Rattle.std.specs.Prelude.{option_map}
use Rattle.pg_waits.specs.Slots.{waits_for}
use Rattle.pg_model.specs.declared.script.Script.{Script}
use Rattle.pg_world.specs.declared.session.Progress.{Progress}
use Rattle.pg_world.specs.declared.session.Progress.TheVariants.{Idle, Inside, Ending, Closed}
use Rattle.pg_world.specs.Worlds.{World}
use Rattle.pg_relation.specs.Sound.{HasSoundWaits, IsSound}
use Rattle.pg_relation.specs.Laws.{AreClosed}
use Rattle.pg_relation.specs.Schedules.{Schedule, is_closed, next_session, settled_schedule}
use Rattle.pg_relation.proofs.Schedules.{closed_none, next_can_move, next_free as free_to_move, next_unended, next_within, none_closed}
use Rattle.pg_board.specs.Board.{BoardView, has_ended, waits_for_lines}

-- it is one of the script's
pub next_in_script : (script : Script) (world : World) (schedule : Schedule) (next : Option ℕ) → IsSound script world →
    next ≡ next_session script world schedule → IfSome next (λ session. session < length script.sessions)
next_in_script script world schedule None sound is = tt
next_in_script script world schedule (Some session) sound is =
    omega (arith, next_within script world schedule session (sym is), sound.sessions)

not_closed : (p : Progress) → (p ≡ Closed → ⊥) → is_closed p ≡ false
not_closed Idle unended = refl
not_closed (Inside running) unended = refl
not_closed (Ending tag) unended = refl
not_closed Closed unended = absurd (unended refl)

waits_not : (more idle queued : Bool) → (more ≡ true → idle ≡ true → queued ≡ true) → (more && (idle && not queued)) ≡ false
waits_not true true true h = refl
waits_not true true false h = absurd (let e = h refl refl in cc e)
waits_not true false queued h = refl
waits_not false idle queued h = refl

less_of : (m n : ℕ) → nat_lt m n ≡ true → m < n
less_of m n is = grind (arith, nat_tests, is)

-- once lines are taken until a session is ready, it does not wait for lines, has not ended, and waits for nobody
pub next_free : (board : BoardView) (next : Option ℕ) → HasSoundWaits board.world →
    next ≡ next_session board.script board.world board.schedule →
    IfSome next (λ session. (waits_for_lines (record board { schedule = settled_schedule board.script board.world board.schedule }) session ≡ false)
    × (has_ended (record board { schedule = settled_schedule board.script board.world board.schedule }) session ≡ false)
    × (waits_for board.world.waits session ≡ None))
next_free board None waits is = tt
next_free board (Some session) waits is =
    let r = next_can_move board.script board.world board.schedule session (sym is) in
    let free = free_to_move board.script board.world board.schedule session r waits in (
      rw r.is (waits_not _ _ _ (λ more. r.has_line (less_of _ _ more))),
      rw r.is (not_closed r.session.progress (next_unended board.script board.world board.schedule session r)),
      ap (option_map (λ on. on.session)) free,
    )

-- there is none exactly where each session has ended
pub next_none : (script : Script) (world : World) (schedule : Schedule) (next : Option ℕ) → HasSoundWaits world →
    next ≡ next_session script world schedule → (next ≡ None) ↔ AreClosed world
next_none script world schedule next waits is = (
  λ e number session there. none_closed script world schedule number session waits (sym is ∙ e) there,
  λ all. is ∙ closed_none script world schedule all,
)
