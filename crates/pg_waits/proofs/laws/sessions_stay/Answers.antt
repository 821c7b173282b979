use Rattle.std.proofs.Common.{◌∙◌, None, Some}
use Rattle.std.proofs.lemmas.List.{length-map, length-set}
use Rattle.pg_waits.specs.Effects.{is_for, is_for_candidate_of, slot_left, waits_left}
use Rattle.pg_waits.proofs.laws.sessions_stay.Goals as goal

pub returns-clause-begun : goal.returns-clause-begun
returns-clause-begun c = λ slots me on. length-set slots me (Some on)

pub returns-clause-settled : goal.returns-clause-settled
returns-clause-settled c = λ slots session. length-map slots (slot_left (is_for_candidate_of session))

pub returns-clause-ended : goal.returns-clause-ended
returns-clause-ended c =
    λ slots session.
    length-set (waits_left (is_for session) slots) session None ∙ length-map slots (slot_left (is_for session))
