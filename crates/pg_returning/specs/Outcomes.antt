-- What a plan answers, as an outcome of the definitions.
use Rattle.std.specs.Prelude.{List, ◌++◌, Result, Ok, Err}
use Rattle.pg_exprs.specs.declared.evaluate.EvalFault.{EvalFault}
use Rattle.pg_exprs.specs.declared.evaluate.EvalFault.TheVariants as eval_fault
use Rattle.pg_values.specs.declared.number.NumberFault.{NumberFault}
use Rattle.pg_model.specs.declared.error.SqlError.TheVariants as error
use Rattle.pg_world.specs.Evaluation.{OrError, evaluation_error, number_error, with_value}
use Rattle.pg_returning.specs.declared.fault.PlanFault.{PlanFault}
use Rattle.pg_returning.specs.declared.fault.PlanFault.TheVariants.{Error, Memory}

-- the value or the error; want of memory is no outcome of a definition, and clauses leave it out
abbrev pub outcome : {X : Type 0} → Result X PlanFault → OrError X
outcome (Ok value) = Ok value
outcome (Err (Error error)) = Err error
outcome (Err Memory) = Err error.TooLong

-- the fault of an evaluation, as one of a plan
abbrev pub evaluation_fault : EvalFault → PlanFault
evaluation_fault eval_fault.Memory = Memory
evaluation_fault fault = Error (evaluation_error fault)

-- the fault of a number that does not fit, as one of a plan
abbrev pub number_fault : NumberFault → PlanFault
number_fault fault = Error (number_error fault)

-- the values of a list behind others
abbrev pub values_behind : {X : Type 0} → List X → OrError (List X) → OrError (List X)
values_behind before others = with_value (λ values. before ++ values) others
