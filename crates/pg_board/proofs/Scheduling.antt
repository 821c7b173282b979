-- Who has waited behind an act, and the lowest session that goes on.
use Rattle.std.proofs.Common.{◌≡◌, ◌<◌, ◌≤◌, ◌+◌, ◌++◌, ℕ, zero, suc, Bool, true, false, cond, List, [], ◌∷◌, length, map, drop, Option, Some, None, refl, ap, sym, ◌∙◌, arith, add-one}
use Rattle.pg_model.specs.declared.journal.EntryAct.{EntryAct}
use Rattle.pg_model.specs.declared.journal.EntryAct.TheVariants as entry
use Rattle.pg_relation.specs.Schedules.{lowest, waited_with}
use Rattle.pg_board.specs.declared.session.Session.{Session}
use Rattle.pg_board.specs.Kept.{begins_wait}
use Rattle.pg_board.specs.Servers.{kept_session}

-- who begins to wait is the last
pub waited_by : (waited : List ℕ) (number : ℕ) (act : EntryAct) →
    waited_with waited number act ≡ cond (begins_wait act) (waited ++ number ∷ []) waited
waited_by waited number (entry.Snapped commits) = refl
waited_by waited number (entry.Found candidate) = refl
waited_by waited number (entry.Locked table row strength) = refl
waited_by waited number (entry.Placed table row) = refl
waited_by waited number (entry.Inserted table row) = refl
waited_by waited number (entry.Updated table row) = refl
waited_by waited number (entry.Deleted table row) = refl
waited_by waited number entry.Passed = refl
waited_by waited number (entry.Waits other) = refl
waited_by waited number entry.Committed = refl
waited_by waited number entry.RolledBack = refl
waited_by waited number (entry.Replied reply) = refl
waited_by waited number (entry.Failed error) = refl
waited_by waited number entry.Closed = refl

-- from each session on the lowest that passes a test of numbers is it, or one behind it
at_place : (test : ℕ → Bool) (sessions : List Session) (first number : ℕ) → number < length sessions →
    lowest (λ n session. test n) first (map kept_session (drop number sessions))
    ≡ cond (test first) (Some first) (lowest (λ n session. test n) (first + 1) (map kept_session (drop (suc number) sessions)))
at_place test [] first number within = absurd (omega (arith, within))
at_place test (session ∷ sessions) first zero within = refl
at_place test (session ∷ sessions) first (suc number) within = at_place test sessions first number (omega (arith, within))

pub lowest_here : (test : ℕ → Bool) (sessions : List Session) (number : ℕ) → number < length sessions → test number ≡ true →
    lowest (λ n session. test n) number (map kept_session (drop number sessions)) ≡ Some number
lowest_here test sessions number within passes =
    at_place test sessions number number within
    ∙ ap (λ b. cond b (Some number) (lowest (λ n session. test n) (number + 1) (map kept_session (drop (suc number) sessions)))) passes

pub lowest_past : (test : ℕ → Bool) (sessions : List Session) (number : ℕ) → number < length sessions → test number ≡ false →
    lowest (λ n session. test n) number (map kept_session (drop number sessions))
    ≡ lowest (λ n session. test n) (number + 1) (map kept_session (drop (number + 1) sessions))
lowest_past test sessions number within fails =
    at_place test sessions number number within
    ∙ ap (λ b. cond b (Some number) (lowest (λ n session. test n) (number + 1) (map kept_session (drop (suc number) sessions)))) fails
    ∙ ap (λ place. lowest (λ n session. test n) (number + 1) (map kept_session (drop place sessions))) (sym (add-one number))

pub lowest_end : (test : ℕ → Bool) (sessions : List Session) (number : ℕ) → length sessions ≤ number →
    lowest (λ n session. test n) number (map kept_session (drop number sessions)) ≡ None
lowest_end test sessions number past = at sessions number number past
  where
    at : (rest : List Session) (first n : ℕ) → length rest ≤ n → lowest (λ n session. test n) first (map kept_session (drop n rest)) ≡ None
    at [] first zero le = refl
    at [] first (suc n) le = refl
    at (session ∷ rest) first zero le = absurd (omega (arith, le))
    at (session ∷ rest) first (suc n) le = at rest first n (omega (arith, le))
