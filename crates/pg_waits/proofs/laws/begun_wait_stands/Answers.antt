use Rattle.std.proofs.Common.{Some}
use Rattle.pg_waits.proofs.Lists.{wait_other, wait_written}
use Rattle.pg_waits.proofs.laws.begun_wait_stands.Goals as goal

pub returns-clause-own : goal.returns-clause-own
returns-clause-own c = λ slots me on within. wait_written slots me (Some on) within

pub returns-clause-others : goal.returns-clause-others
returns-clause-others c = λ slots me other on apart. wait_other slots me other (Some on) apart
