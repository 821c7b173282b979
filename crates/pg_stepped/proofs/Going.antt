-- A session comes nearer to its next entry until it makes it: till then only its steps without an
-- entry become fewer.
use Rattle.std.proofs.Common.{◌≡◌, ◌<◌, ℕ, length, inl, inr, ap, subst, arith}
use Rattle.pg_board.specs.Board.{BoardView, HasMoved, MovedBy}

-- the boards are the same but for the steps without an entry
abbrev pub IsSame : BoardView → BoardView → Type 0
IsSame old new = new ≡ record old { quiet = new.quiet }

-- once the journal is longer, the session has moved
pub has_moved : (session : ℕ) (first old new : BoardView) → IsSame first old → MovedBy session old new →
    length first.journal < length new.journal → HasMoved session first new
has_moved session first old new same (inl moved) long =
    let m = subst (λ b. HasMoved session b new) same moved in
    record { act = m.act; first = m.first; script = m.script; journal = m.journal; world = m.world; schedule = m.schedule }
has_moved session first old new same (inr near) long =
    let h = ap (λ b. length b.journal) same in
    let k = ap (λ b. length b.journal) near.same in
    absurd (omega (arith, h, k, long))
