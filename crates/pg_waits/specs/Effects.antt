-- What becomes of the waits when one begins, and when what was waited for has come.
use Rattle.std.specs.Prelude.{ℕ, ◌&&◌, Bool, true, false, nat_eq, List, Option, None, Some, is_some, map, if◌then◌else◌}
use Rattle.std.specs.Option.{option_map_or}
use Rattle.pg_lists.specs.Numbered.{with_item}
use Rattle.pg_xacts.specs.declared.on.On.{On}
use Rattle.pg_xacts.specs.declared.on.Until.{Until}
use Rattle.pg_xacts.specs.declared.on.Until.TheVariants.{Transaction, Candidate}
use Rattle.pg_waits.specs.declared.wait_answer.WaitAnswer.{WaitAnswer}
use Rattle.pg_waits.specs.declared.wait_answer.WaitAnswer.TheVariants.{Waiting, Cycle}
use Rattle.pg_waits.specs.Chains.{ring_of}

-- the waits, where `me` waits from now on
abbrev pub wait_begun : List (Option On) → ℕ → On → List (Option On)
wait_begun slots me on = with_item slots me (Some on)

-- what a session is answered that asks for a wait: it waits, unless that would close a ring
abbrev pub wait_answer : List (Option On) → ℕ → ℕ → WaitAnswer
wait_answer slots me other = option_map_or (λ ring. Cycle ring) (ring_of slots me other) Waiting

-- the waits after it has asked: a wait that would close a ring does not begin
abbrev pub waits_asked : List (Option On) → ℕ → On → List (Option On)
waits_asked slots me on =
    if is_some (ring_of slots me on.session) then slots else wait_begun slots me on

-- whether a wait is for a session
abbrev pub is_for : ℕ → On → Bool
is_for session on = nat_eq on.session session

-- whether a wait ends with the candidate of the session waited for
abbrev pub is_until_candidate : Until → Bool
is_until_candidate Transaction = false
is_until_candidate Candidate = true

-- whether a wait is for a session's candidate
abbrev pub is_for_candidate_of : ℕ → On → Bool
is_for_candidate_of session on = is_for session on && is_until_candidate on.until

-- a slot, where a wait that passes the test has ended
abbrev pub slot_left : (On → Bool) → Option On → Option On
slot_left ends None = None
slot_left ends (Some on) = if ends on then None else Some on

-- the waits, where those that pass the test have ended
abbrev pub waits_left : (On → Bool) → List (Option On) → List (Option On)
waits_left ends slots = map (slot_left ends) slots

-- the waits, where a session's candidate has its act or was withdrawn
abbrev pub waits_settled : List (Option On) → ℕ → List (Option On)
waits_settled slots session = waits_left (is_for_candidate_of session) slots

-- the waits, where a session's transaction has ended: nobody waits for the session, nor does the
-- session wait
abbrev pub waits_ended : List (Option On) → ℕ → List (Option On)
waits_ended slots session = with_item (waits_left (is_for session) slots) session None
