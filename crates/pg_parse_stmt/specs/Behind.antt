-- Which next token may stand behind each part of a statement: one that does not go on with it. None is the end.
use Rattle.std.specs.Prelude.{Bool, true, false, not, ◌&&◌, Option, Some, None}
use Rattle.std.specs.Str.{bytes_eq}
use Rattle.pg_lexer.specs.declared.keyword.Keyword.{Keyword}
use Rattle.pg_lexer.specs.declared.keyword.Keyword.TheVariants as k
use Rattle.pg_lexer.specs.declared.sign.Sign.TheVariants as s
use Rattle.pg_lexer.specs.declared.token.Token.{Token}
use Rattle.pg_lexer.specs.declared.token.Token.TheVariants as token
use Rattle.pg_lexer.specs.Keywords.{spelling}
use Rattle.pg_parse_expr.specs.Behind.{has, behind_expr}
use Rattle.pg_parse_stmt.specs.Words.{direction_of, link_of, rule_of}

-- any token
abbrev pub any : Option Token → Bool
any t = true

-- the next token is the reserved word w
unfoldable pub is_word : Keyword → Option Token → Bool
is_word w (Some (token.Keyword other)) = bytes_eq (spelling w) (spelling other)
is_word w _ = false

unfoldable pub is_comma : Option Token → Bool
is_comma (Some (token.Sign s.Comma)) = true
is_comma _ = false

unfoldable pub is_open : Option Token → Bool
is_open (Some (token.Sign s.Open)) = true
is_open _ = false

-- behind ["(" names ")"]
unfoldable pub behind_columns : Option Token → Bool
behind_columns t = not (is_open t)

-- behind a list of what f may stand behind
unfoldable pub behind_list : (Option Token → Bool) → Option Token → Bool
behind_list f t = f t && not (is_comma t)

-- behind [w L], where f may stand behind L
unfoldable pub behind_optional : Keyword → (Option Token → Bool) → Option Token → Bool
behind_optional w f t = f t && not (is_word w t)

-- an alias begins
unfoldable pub begins_alias : Option Token → Bool
begins_alias (Some (token.Keyword k.As)) = true
begins_alias (Some (token.Name _)) = true
begins_alias _ = false

-- behind a table with or without its alias
unfoldable pub behind_table : Option Token → Bool
behind_table t = not (begins_alias t)

-- behind [AS name]
unfoldable pub behind_as : Option Token → Bool
behind_as t = not (is_word k.As t)

-- behind [WHERE expr]
unfoldable pub behind_condition : Option Token → Bool
behind_condition t = behind_expr t && not (is_word k.Where t)

unfoldable pub behind_item : Option Token → Bool
behind_item t = behind_expr t && behind_as t

unfoldable pub behind_items : Option Token → Bool
behind_items = behind_list behind_item

unfoldable pub behind_sets : Option Token → Bool
behind_sets = behind_list behind_expr

unfoldable pub behind_tuples : Option Token → Bool
behind_tuples = behind_list any

-- behind a source with or without its join's condition, and behind a list of them
unfoldable pub behind_joined : Option Token → Bool
behind_joined t = behind_table t && behind_expr t

unfoldable pub behind_from : Option Token → Bool
behind_from t = behind_joined t && not (has link_of t)

-- behind a subselect: what closes it, what goes on with an INSERT, or what ends the statement
unfoldable pub behind_subselect : Option Token → Bool
behind_subselect None = true
behind_subselect (Some (token.Sign s.Close)) = true
behind_subselect (Some (token.Sign s.Semicolon)) = true
behind_subselect (Some (token.Keyword k.On)) = true
behind_subselect (Some (token.Keyword k.Returning)) = true
behind_subselect _ = false

unfoldable pub behind_direction : Option Token → Bool
behind_direction t = not (has direction_of t)

unfoldable pub behind_nulls : Option Token → Bool
behind_nulls t = not (is_word k.Nulls t)

unfoldable pub behind_order_key : Option Token → Bool
behind_order_key t = behind_expr t && behind_direction t && behind_nulls t

unfoldable pub behind_limit : Option Token → Bool
behind_limit t = not (is_word k.Limit t)

unfoldable pub behind_wait : Option Token → Bool
behind_wait t = not (is_word k.Nowait t) && not (is_word k.Skip t)

unfoldable pub behind_of : Option Token → Bool
behind_of t = not (is_word k.Of t)

unfoldable pub behind_locked : Option Token → Bool
behind_locked t = behind_of t && behind_wait t

unfoldable pub behind_locking : Option Token → Bool
behind_locking t = behind_locked t && not (is_word k.For t)

unfoldable pub behind_rows : Option Token → Bool
behind_rows t = behind_tuples t && behind_subselect t

-- behind the target of ON CONFLICT, or where it is left out: `(` and ON would begin one
unfoldable pub behind_target : Option Token → Bool
behind_target t = behind_condition t && not (is_word k.On t)

unfoldable pub behind_conflict : Option Token → Bool
behind_conflict t = behind_sets t && not (is_word k.Where t)

-- behind [ON CONFLICT ..]
unfoldable pub behind_on_conflict : Option Token → Bool
behind_on_conflict t = behind_conflict t && not (is_word k.On t)

-- behind [AND expr]
unfoldable pub behind_guard : Option Token → Bool
behind_guard t = behind_expr t && not (is_word k.And t)

-- behind [CONSTRAINT name]
unfoldable pub behind_constraint_name : Option Token → Bool
behind_constraint_name t = not (is_word k.Constraint t)

-- a constraint begins, and not a column
unfoldable pub begins_constraint : Option Token → Bool
begins_constraint (Some (token.Keyword k.Constraint)) = true
begins_constraint (Some (token.Keyword k.Primary)) = true
begins_constraint (Some (token.Keyword k.Unique)) = true
begins_constraint (Some (token.Keyword k.Check)) = true
begins_constraint _ = false

unfoldable pub behind_part : Option Token → Bool
behind_part t = not (has rule_of t)

unfoldable pub behind_transaction : Option Token → Bool
behind_transaction t = not (is_word k.Work t) && not (is_word k.Transaction t)

unfoldable pub behind_begin : Option Token → Bool
behind_begin t = behind_transaction t && not (is_word k.Isolation t)

-- behind a statement: the end, or the sign that ends it
unfoldable pub behind_statement : Option Token → Bool
behind_statement None = true
behind_statement (Some (token.Sign s.Semicolon)) = true
behind_statement _ = false
