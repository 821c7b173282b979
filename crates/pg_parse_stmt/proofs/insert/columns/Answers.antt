use Rattle.pg_parse_stmt.proofs.Common.{seen}
use Rattle.pg_parse_stmt.proofs.insert.columns.Goals as goal
use Rattle.pg_parse_stmt.proofs.Elements.{columns_read}

pub returns-in-Some : goal.returns-in-Some
returns-in-Some c =
    columns_read c.args.tokens.now c.in-Some.field-0.now (seen c.list_in_brackets.result) c.in-Some.ensures
    c.list_in_brackets.ensures
