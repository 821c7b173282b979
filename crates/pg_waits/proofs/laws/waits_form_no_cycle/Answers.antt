use Rattle.pg_waits.specs.Effects.{is_for_candidate_of}
use Rattle.pg_waits.proofs.Acyclic.{asked_acyclic, ended_acyclic, left_acyclic, none_acyclic}
use Rattle.pg_waits.proofs.laws.waits_form_no_cycle.Goals as goal

pub returns-clause-none : goal.returns-clause-none
returns-clause-none c = none_acyclic

pub returns-clause-asked : goal.returns-clause-asked
returns-clause-asked c = asked_acyclic

pub returns-clause-settled : goal.returns-clause-settled
returns-clause-settled c = λ slots session. left_acyclic (is_for_candidate_of session) slots

pub returns-clause-ended : goal.returns-clause-ended
returns-clause-ended c = ended_acyclic
