-- Each rule has words.
use Rattle.std.proofs.Common.{◌∷◌, ℕ, suc, [], Some, None, refl}
use Rattle.pg_grammar.specs.Limits.{sources}
use Rattle.pg_grammar.specs.Languages.{Lang, gives, one, bind, more}
use Rattle.pg_grammar.proofs.Words.{Spelled, spelled_gives, spelled_token, spelled_one, spelled_bind, spelled_left, spelled_right, spelled_more, spelled_reaches}
use Rattle.pg_lexer.specs.declared.keyword.Keyword.TheVariants as k
use Rattle.pg_lexer.specs.declared.sign.Sign.TheVariants as s
use Rattle.pg_lexer.specs.declared.token.Token.{Token}
use Rattle.pg_lexer.specs.declared.token.Token.TheVariants as t
use Rattle.pg_values.specs.declared.value.Kind.TheVariants as kind
use Rattle.pg_parse_expr.specs.Grammar.{expr, expr_at}
use Rattle.pg_parse_expr.specs.Operators.{name_of}
use Rattle.pg_parse_expr.proofs.Spelling.{spelled_disjunction}
use Rattle.pg_parse_stmt.specs.Forms.{word, sign, or_else, optional, next_of, list_of, in_brackets}
use Rattle.pg_parse_stmt.specs.Words.{integer_of, kind_of, direction_of, nulls_of, strength_of, lead_of, link_of, change_of, constraint_of, rule_of}
use Rattle.pg_parse_stmt.specs.declared.tree.Direction.TheVariants.{Ascending}
use Rattle.pg_parse_stmt.specs.declared.tree.NullsPlace.TheVariants.{First}
use Rattle.pg_parse_stmt.specs.declared.tree.LockStrength.{LockStrength}
use Rattle.pg_parse_stmt.specs.declared.tree.LockStrength.TheVariants as lock
use Rattle.pg_parse_stmt.specs.declared.word.Lead.TheVariants as lead
use Rattle.pg_parse_stmt.specs.declared.word.Link.TheVariants as link
use Rattle.pg_parse_stmt.specs.declared.word.ChangeWord.TheVariants as change_word
use Rattle.pg_parse_stmt.specs.declared.word.ConstraintWord.TheVariants as constraint_word
use Rattle.pg_parse_stmt.specs.declared.word.RuleWord.TheVariants as rule_word
use Rattle.pg_parse_stmt.specs.Grammar.{table_named, table_ref, table_source, source, name, names, alias, item, items, tuple, tuples, assignment, sets, element, elements, direction, nulls, nulls_by, order_key, strength_behind, strength, of_table, lock_wait, locked, column_part, constraint_part, part, next_rule}
use Rattle.pg_parse_stmt.specs.declared.tree.Item.TheVariants as item_of
use Rattle.pg_parse_stmt.specs.declared.tree.Element.TheVariants as element_of

pub spelled_name : Spelled name
unfolding name name_of
spelled_name = spelled_one name_of (t.Name []) [] refl

pub spelled_integer : Spelled (one integer_of)
unfolding integer_of
spelled_integer = spelled_one integer_of (t.Integer 0) 0 refl

pub spelled_expr : Spelled expr
unfolding expr expr_at
spelled_expr = spelled_disjunction 0

pub spelled_or_else : {V : Type 0} (x : V) (L : Lang Token V) → Spelled (or_else x L)
spelled_or_else x L = spelled_right L (gives x) (spelled_gives x)

pub spelled_optional : {V : Type 0} (L : Lang Token V) → Spelled (optional L)
spelled_optional L = spelled_or_else None (bind L (λ v. gives (Some v)))

pub spelled_list : {V : Type 0} (L : Lang Token V) → Spelled L → Spelled (list_of L)
unfolding list_of
spelled_list L a = spelled_bind L (λ v. more (next_of L) (v ∷ [])) a (λ v. spelled_more (next_of L) (v ∷ []))

pub spelled_in_brackets : {V : Type 0} (L : Lang Token V) → Spelled L → Spelled (in_brackets L)
unfolding in_brackets
spelled_in_brackets L a =
    spelled_token (t.Sign s.Open) (bind L (λ v. sign s.Close (gives v)))
    (spelled_bind L (λ v. sign s.Close (gives v)) a (λ v. spelled_token (t.Sign s.Close) (gives v) (spelled_gives v)))

pub spelled_names : Spelled names
unfolding names
spelled_names = spelled_list name spelled_name

pub spelled_tuple : Spelled tuple
unfolding tuple
spelled_tuple = spelled_in_brackets (list_of expr) (spelled_list expr spelled_expr)

pub spelled_tuples : Spelled tuples
unfolding tuples
spelled_tuples = spelled_list tuple spelled_tuple

pub spelled_item : Spelled item
unfolding item
spelled_item = spelled_left _ _ (spelled_token (t.Sign s.Star) (gives item_of.All) (spelled_gives item_of.All))

pub spelled_items : Spelled items
unfolding items
spelled_items = spelled_list item spelled_item

pub spelled_assignment : Spelled assignment
unfolding assignment
spelled_assignment =
    spelled_bind name _ spelled_name (λ n. spelled_token (t.Sign s.Equal) _
    (spelled_bind expr _ spelled_expr (λ e. spelled_gives _)))

pub spelled_sets : Spelled sets
unfolding sets
spelled_sets = spelled_list assignment spelled_assignment

pub spelled_element : Spelled element
unfolding element
spelled_element = spelled_left _ _ (spelled_bind name _ spelled_name (λ n. spelled_gives (element_of.Column n)))

pub spelled_elements : Spelled elements
unfolding elements
spelled_elements = spelled_in_brackets (list_of element) (spelled_list element spelled_element)

pub spelled_order_key : Spelled order_key
unfolding order_key direction nulls
spelled_order_key =
    spelled_bind expr _ spelled_expr (λ e. spelled_bind direction _ (spelled_or_else _ (one direction_of))
    (λ d. spelled_bind (nulls d) _ (spelled_or_else (nulls_by d) _) (λ n. spelled_gives _)))

pub spelled_part : Spelled part
unfolding part column_part kind_of
spelled_part =
    spelled_left column_part constraint_part
    (spelled_bind name _ spelled_name (λ n. spelled_bind (one kind_of) _
    (spelled_one kind_of (t.Keyword k.Int) kind.Int refl)
    (λ ty. spelled_bind (more next_rule []) _ (spelled_more next_rule []) (λ r. spelled_gives _))))

pub spelled_lead : Spelled (one lead_of)
unfolding lead_of
spelled_lead = spelled_one lead_of (t.Keyword k.Begin) lead.Begin refl

pub spelled_link : Spelled (one link_of)
unfolding link_of
spelled_link = spelled_one link_of (t.Keyword k.Join) link.Join refl

pub spelled_change : Spelled (one change_of)
unfolding change_of
spelled_change = spelled_one change_of (t.Keyword k.Delete) change_word.Delete refl

pub spelled_constraint : Spelled (one constraint_of)
unfolding constraint_of
spelled_constraint = spelled_one constraint_of (t.Keyword k.Unique) constraint_word.Unique refl

pub spelled_rule : Spelled (one rule_of)
unfolding rule_of
spelled_rule = spelled_one rule_of (t.Keyword k.Not) rule_word.Not refl

pub spelled_kind : Spelled (one kind_of)
unfolding kind_of
spelled_kind = spelled_one kind_of (t.Keyword k.Int) kind.Int refl

pub spelled_direction : Spelled (one direction_of)
unfolding direction_of
spelled_direction = spelled_one direction_of (t.Keyword k.Asc) Ascending refl

pub spelled_nulls : Spelled (one nulls_of)
unfolding nulls_of
spelled_nulls = spelled_one nulls_of (t.Keyword k.First) First refl

pub spelled_strength : Spelled (one strength_of)
unfolding strength_of
spelled_strength = spelled_one strength_of (t.Keyword k.Share) lock.Share refl

pub spelled_strength_behind : (v : LockStrength) → Spelled (strength_behind v)
unfolding strength_behind
spelled_strength_behind lock.KeyShare =
    spelled_token (t.Keyword k.Share) (gives lock.KeyShare) (spelled_gives lock.KeyShare)
spelled_strength_behind lock.Share = spelled_gives lock.Share
spelled_strength_behind lock.NoKeyUpdate =
    spelled_token (t.Keyword k.Key) (word k.Update (gives lock.NoKeyUpdate))
    (spelled_token (t.Keyword k.Update) (gives lock.NoKeyUpdate) (spelled_gives lock.NoKeyUpdate))
spelled_strength_behind lock.Update = spelled_gives lock.Update

pub spelled_locked : Spelled locked
unfolding locked strength of_table lock_wait
spelled_locked =
    spelled_bind strength _ (spelled_bind (one strength_of) strength_behind spelled_strength spelled_strength_behind)
    (λ st. spelled_bind of_table _ (spelled_optional (word k.Of name))
    (λ n. spelled_bind lock_wait _ (spelled_or_else _ _) (λ w. spelled_gives _)))

pub spelled_table_source : (n : ℕ) → Spelled (table_source n)
unfolding table_source table_ref table_named
spelled_table_source n =
    spelled_reaches sources (suc n) table_ref (spelled_bind name table_named spelled_name
    (λ u. spelled_bind (optional alias) _ (spelled_optional alias) (λ a. spelled_gives _)))

pub spelled_source : (n : ℕ) → Spelled (source n)
unfolding source table_ref table_named
spelled_source n =
    spelled_reaches sources (suc n) _ (spelled_left _ _ (spelled_bind table_ref _
    (spelled_bind name table_named spelled_name (λ u. spelled_bind (optional alias) _ (spelled_optional alias)
    (λ a. spelled_gives _))) (λ x. spelled_gives _)))
