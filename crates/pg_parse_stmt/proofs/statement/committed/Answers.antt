use Rattle.pg_parse_stmt.proofs.Common.{steps}
use Rattle.pg_parse_stmt.proofs.statement.committed.Goals as goal
use Rattle.pg_parse_stmt.proofs.PartRules.{committed_read}

pub returns-in_default : goal.returns-in_default
returns-in_default c =
    committed_read (search (steps, c.in_default.ensures))

pub returns-in_default-accept_word : goal.returns-in_default-accept_word
returns-in_default-accept_word c =
    committed_read (search (steps, c.in-Some.ensures, c.in_default-accept_word.ensures))

pub returns-in_default-accept_word-2 : goal.returns-in_default-accept_word-2
returns-in_default-accept_word-2 c =
    committed_read (search (steps, c.in-Some.ensures, c.in-Some-accept_word.ensures, c.in_default-accept_word-2.ensures) depth 10)

pub returns : goal.returns
returns c =
    committed_read (search (steps, c.in-Some.ensures, c.in-Some-accept_word.ensures, c.in-Some-accept_word-2.ensures) depth 12)
