use Rattle.pg_parse_stmt.proofs.insert.conflict_target.Goals as goal
use Rattle.pg_parse_stmt.proofs.Inserts.{target_elements_read, target_elements_failed, target_constraint_read, target_constraint_failed}

pub returns-in-Ok : goal.returns-in-Ok
returns-in-Ok c =
    target_elements_read c.args.tokens.now c.in-Some.field-0.now c.in-Ok.field-0.rest.now c.in-Ok.field-0.value
    c.in-Some.ensures c.in-Ok.ensures

pub returns-in-Err : goal.returns-in-Err
returns-in-Err c =
    target_elements_failed c.args.tokens.now c.in-Some.field-0.now c.in-Err.fault c.in-Some.ensures c.in-Err.ensures

pub returns-in-Ok-target_constraint : goal.returns-in-Ok-target_constraint
returns-in-Ok-target_constraint c =
    target_constraint_read c.args.tokens.now c.in-Some-accept_word.field-0.now
    c.in-Ok-target_constraint.field-0.rest.now c.in-Ok-target_constraint.field-0.value c.in-Some-accept_word.ensures
    c.in-Ok-target_constraint.ensures

pub returns-in-Err-target_constraint : goal.returns-in-Err-target_constraint
returns-in-Err-target_constraint c =
    target_constraint_failed c.args.tokens.now c.in-Some-accept_word.field-0.now c.in-Err-target_constraint.fault
    c.in-Some-accept_word.ensures c.in-Err-target_constraint.ensures
