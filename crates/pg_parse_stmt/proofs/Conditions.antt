-- [WHERE expr]
use Rattle.pg_parse_stmt.proofs.Common.{expr, condition, Spelled, word, spelled_optional}
use Rattle.pg_lexer.specs.declared.keyword.Keyword.TheVariants as k

pub spelled_where : Spelled condition
unfolding condition
spelled_where = spelled_optional (word k.Where expr)
