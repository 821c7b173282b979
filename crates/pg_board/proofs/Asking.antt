-- Who waits is inside a statement: it is not between statements, and has not ended.
use Rattle.std.proofs.Common.{◌≡◌, ◌&&◌, ℕ, Bool, true, false, Option, Some, None, IfSome, refl, sym, ap, ◌∙◌}
use Rattle.std.specs.Prelude.{option_map, nat_lt, length}
use Rattle.pg_waits.specs.Slots.{wait_of, waits_for}
use Rattle.pg_xacts.specs.declared.on.On.{On}
use Rattle.pg_relation.specs.Sound.{HasSoundWaits, IsAtFound}
use Rattle.pg_board.specs.Board.{BoardView, has_ended, is_unqueued, waits_for_lines}

never : (more : Bool) → (more && false) ≡ false
never true = refl
never false = refl

module _ (board : BoardView) (waits : HasSoundWaits board.world) (number other : ℕ) (is : waits_for board.world.waits number ≡ Some other) where
  standing : IsAtFound board.world number
  standing = at (wait_of board.world.waits number) refl is
    where
      at : (wait : Option On) → wait_of board.world.waits number ≡ wait → option_map (λ on. on.session) wait ≡ Some other →
          IsAtFound board.world number
      at None there e = absurd (cc e)
      at (Some on) there e = waits.standing number on there

  pub waiting_served : waits_for_lines board number ≡ false
  waiting_served =
      ap (λ b. nat_lt board.schedule.taken (length board.script.lines) && b)
      (rw (standing.is, standing.inside_is) refl)
      ∙ never (nat_lt board.schedule.taken (length board.script.lines))

  pub waiting_unended : has_ended board number ≡ false
  waiting_unended = rw (standing.is, standing.inside_is) refl

-- so it is for whomever it waits
pub waiting_inside : (board : BoardView) (number : ℕ) (wait : Option ℕ) → HasSoundWaits board.world →
    wait ≡ waits_for board.world.waits number →
    IfSome wait (λ other. (waits_for_lines board number ≡ false) × (has_ended board number ≡ false))
waiting_inside board number None waits is = tt
waiting_inside board number (Some other) waits is =
    (waiting_served board waits number other (sym is), waiting_unended board waits number other (sym is))
