-- expr [AS name]
use Rattle.std.proofs.Common.{◌≡◌, true, Option}
use Rattle.pg_parse_stmt.proofs.Common.{Spelled, Token, behind_expr, behind_as, behind_item, word, spelled_optional, name, as_name}
use Rattle.pg_lexer.specs.declared.keyword.Keyword.TheVariants as k
use Rattle.pg_parse_stmt.proofs.Lists.{and_left}

pub spelled_as_name : Spelled as_name
unfolding as_name
spelled_as_name = spelled_optional (word k.As name)

pub behind_item_behind_expr : (o : Option Token) → behind_item o ≡ true → behind_expr o ≡ true
unfolding behind_item
behind_item_behind_expr o e = and_left (behind_expr o) (behind_as o) e
