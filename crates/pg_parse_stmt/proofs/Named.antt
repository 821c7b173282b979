-- The parts that rules name: each has a word and one reading before what may stand behind it, by level; and what a
-- function of the parser answers for it says so.
use Rattle.std.proofs.Common.{◌≡◌, ℕ, suc, true, [], refl, leb}
use Rattle.pg_parse_stmt.proofs.Common.{one, Starts, behind_expr, expr, any, behind_limit, behind_locking, behind_table, behind_condition, behind_items, behind_sets, behind_from, word, or_else, name, table_ref, sets, condition, from, returning, items, elements, source, order, limit, locked, locking, whens, integer_of, spelled_or_else, spelled_sets, spelled_name, spelled_expr, spelled_items, spelled_elements, spelled_source, Known, starts_any, own, rank, behind}
use Rattle.pg_lexer.specs.declared.keyword.Keyword.TheVariants as k
use Rattle.pg_lexer.specs.declared.token.Token.TheVariants as t
use Rattle.pg_parse_stmt.proofs.Tables.{spelled_table_ref}
use Rattle.pg_parse_stmt.proofs.Conditions.{spelled_where}
use Rattle.pg_parse_stmt.proofs.Orders.{spelled_returning, spelled_order, spelled_limit}
use Rattle.pg_parse_stmt.proofs.Locks.{spelled_locking}
use Rattle.pg_parse_stmt.proofs.Sources.{spelled_sources}
use Rattle.pg_parse_stmt.proofs.Merges.{spelled_whens, starts_whens}
use Rattle.pg_parse_stmt.proofs.AgreeParts.{expr_follows}
use Rattle.pg_parse_stmt.proofs.Follows.{statement_behind, table_follows, sets_follows, from_follows, condition_follows, items_follows, limit_follows, locking_follows}
use Rattle.pg_parse_stmt.proofs.Agreements.{starts_or_at, starts_optional_at}

-- the parts
pub known_name : Known any any name
known_name = record { spelled = spelled_name; below = λ o e. e }

pub known_expr : Known (behind 8) behind_expr expr
known_expr = record { spelled = spelled_expr; below = expr_follows }

pub known_items : Known (behind 11) behind_items items
known_items = record { spelled = spelled_items; below = items_follows }

pub known_elements : Known any any elements
known_elements = record { spelled = spelled_elements; below = λ o e. e }

pub known_source : (n : ℕ) → Known (behind 10) behind_table (source n)
known_source n = record { spelled = spelled_source n; below = table_follows }

pub known_from : Known (behind 11) behind_from from
known_from = record { spelled = spelled_sources; below = from_follows }

pub known_order : Known (behind 14) (behind 14) order
known_order = own spelled_order

pub starts_order : Starts (behind 13) order (behind 14)
unfolding rank order
starts_order = starts_or_at 13 14 [] (t.Keyword k.Order) _ refl refl

pub known_limit : Known (behind 15) behind_limit limit
known_limit = record { spelled = spelled_limit; below = limit_follows }

pub starts_limit : Starts (behind 14) limit (behind 15)
unfolding rank limit
starts_limit = starts_optional_at 14 15 (t.Keyword k.Limit) (one integer_of) refl refl

pub known_locking : Known (behind 18) behind_locking locking
known_locking = record { spelled = spelled_locking; below = locking_follows }

pub starts_locking : Starts (behind 15) locking (behind 18)
unfolding rank locking
starts_locking = starts_optional_at 15 18 (t.Keyword k.For) locked refl refl

pub known_whens : Known (behind 14) (behind 14) whens
known_whens = own spelled_whens

pub known_table : Known (behind 10) behind_table table_ref
known_table = record { spelled = spelled_table_ref; below = table_follows }

pub known_sets : Known (behind 11) behind_sets sets
known_sets = record { spelled = spelled_sets; below = sets_follows }

pub known_from_list : Known (behind 12) (behind 12) (or_else [] (word k.From from))
known_from_list = own (spelled_or_else [] (word k.From from))

pub starts_from_list : Starts (behind 11) (or_else [] (word k.From from)) (behind 12)
unfolding rank
starts_from_list = starts_or_at 11 12 [] (t.Keyword k.From) from refl refl

pub known_using_list : Known (behind 12) (behind 12) (or_else [] (word k.Using from))
known_using_list = own (spelled_or_else [] (word k.Using from))

pub starts_using_list : Starts (behind 10) (or_else [] (word k.Using from)) (behind 12)
unfolding rank
starts_using_list = starts_or_at 10 12 [] (t.Keyword k.Using) from refl refl

pub known_condition : Known (behind 13) behind_condition condition
known_condition = record { spelled = spelled_where; below = condition_follows }

pub starts_condition : (i : ℕ) → leb (suc i) 13 ≡ true → leb i 13 ≡ true → Starts (behind i) condition (behind 13)
unfolding rank condition
starts_condition i h l = starts_optional_at i 13 (t.Keyword k.Where) expr h l

pub known_returning : Known (behind 16) (behind 16) returning
known_returning = own spelled_returning

pub starts_returning : (i : ℕ) → leb (suc i) 16 ≡ true → leb i 16 ≡ true → Starts (behind i) returning (behind 16)
unfolding rank returning
starts_returning i h l = starts_or_at i 16 [] (t.Keyword k.Returning) items h l

-- all that a statement is made of
pub ruleset parts = (starts_any, known_name, known_expr, known_items, known_elements, known_source, known_from, known_order, known_limit, known_locking, known_whens, known_table, known_sets, known_from_list, known_using_list, known_condition, known_returning, starts_order, starts_limit, starts_locking, starts_whens, starts_from_list, starts_using_list, starts_condition, starts_returning, statement_behind)
