-- The slots of a list by number, after one was written.
use Rattle.std.proofs.Common.{◌≡◌, ◌≢◌, ◌<◌, ◌≤◌, ℕ, zero, suc, List, [], ◌∷◌, length, Option, None, Some, slice_set, refl, ap, arith}
use Rattle.pg_xacts.specs.declared.on.On.{On}
use Rattle.pg_waits.specs.Slots.{wait_of, waits_for}

-- the slot that was written, and each other one
pub wait_written : (slots : List (Option On)) (session : ℕ) (slot : Option On) → session < length slots →
    wait_of (slice_set slots session slot) session ≡ slot
wait_written [] session slot within = absurd (omega (arith, within))
wait_written (first ∷ slots) zero slot within = refl
wait_written (first ∷ slots) (suc session) slot within = wait_written slots session slot (omega (arith, within))

pub wait_other : (slots : List (Option On)) (session other : ℕ) (slot : Option On) → other ≢ session →
    wait_of (slice_set slots session slot) other ≡ wait_of slots other
wait_other [] session other slot apart = refl
wait_other (first ∷ slots) zero zero slot apart = absurd (apart refl)
wait_other (first ∷ slots) zero (suc other) slot apart = refl
wait_other (first ∷ slots) (suc session) zero slot apart = refl
wait_other (first ∷ slots) (suc session) (suc other) slot apart =
    wait_other slots session other slot (λ e. apart (ap suc e))

-- an emptied slot is empty, also where there is none
pub wait_emptied : (slots : List (Option On)) (session : ℕ) → wait_of (slice_set slots session None) session ≡ None
wait_emptied [] session = refl
wait_emptied (first ∷ slots) zero = refl
wait_emptied (first ∷ slots) (suc session) = wait_emptied slots session

-- how many sessions wait
abbrev pub waiting_count : List (Option On) → ℕ
waiting_count [] = 0
waiting_count (None ∷ slots) = waiting_count slots
waiting_count (Some on ∷ slots) = suc (waiting_count slots)

-- at most all of them, and fewer where one does not
pub count_all : (slots : List (Option On)) → waiting_count slots ≤ length slots
count_all [] = omega arith
count_all (None ∷ slots) = let h = count_all slots in omega (arith, h)
count_all (Some on ∷ slots) = let h = count_all slots in omega (arith, h)

pub count_fewer : (slots : List (Option On)) (session : ℕ) → session < length slots → waits_for slots session ≡ None →
    waiting_count slots < length slots
count_fewer [] session within idle = absurd (omega (arith, within))
count_fewer (None ∷ slots) zero within idle = let h = count_all slots in omega (arith, h)
count_fewer (Some on ∷ slots) zero within idle = absurd (cc idle)
count_fewer (None ∷ slots) (suc session) within idle =
    let h = count_fewer slots session (omega (arith, within)) idle in omega (arith, h)
count_fewer (Some on ∷ slots) (suc session) within idle =
    let h = count_fewer slots session (omega (arith, within)) idle in omega (arith, h)

-- one fewer where the slot of one that waits was emptied
pub count_emptied : (slots : List (Option On)) (session other : ℕ) → waits_for slots session ≡ Some other →
    suc (waiting_count (slice_set slots session None)) ≡ waiting_count slots
count_emptied [] session other is = absurd (cc is)
count_emptied (None ∷ slots) zero other is = absurd (cc is)
count_emptied (Some on ∷ slots) zero other is = refl
count_emptied (None ∷ slots) (suc session) other is = count_emptied slots session other is
count_emptied (Some on ∷ slots) (suc session) other is = ap suc (count_emptied slots session other is)

pub count_some : (slots : List (Option On)) (session other : ℕ) → waits_for slots session ≡ Some other →
    0 < waiting_count slots
count_some slots session other is = let h = count_emptied slots session other is in omega (arith, h)
