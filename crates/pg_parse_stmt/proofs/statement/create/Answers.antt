use Rattle.pg_parse_stmt.proofs.Common.{seen}
use Rattle.pg_parse_stmt.proofs.statement.create.Goals as goal
use Rattle.pg_parse_stmt.proofs.Statements.{table_on}

pub returns-in-Some : goal.returns-in-Some
returns-in-Some c =
    table_on c.args.tokens.now c.in-Some.field-0.now (seen c.create_table.result) c.in-Some.ensures
    c.create_table.ensures
