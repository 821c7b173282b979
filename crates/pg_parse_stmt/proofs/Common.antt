-- The names that most lemmas cite, passed on from one place: tokens, languages, the grammar, trees, and their tests.
pub use Rattle.pg_exprs.specs.declared.operator.BinaryOp.{BinaryOp}
pub use Rattle.pg_exprs.specs.declared.operator.UnaryOp.TheVariants.{Negate, Not}
pub use Rattle.pg_grammar.proofs.Agreeing.{Agree, Apart, agree_bind, agree_either, agree_gives, agree_less, agree_more, agree_one, agree_reaches, agree_token, apart_starts}
pub use Rattle.pg_grammar.proofs.Combining.{leads_assoc, leads_bind, leads_gives, leads_left, leads_more, leads_no_more, leads_one, leads_reaches, leads_right, leads_token, leads_token_bind, reads_bind_failed, reads_gives, reads_left_by, reads_one, reads_over, reads_refused, reads_right_by}
pub use Rattle.pg_grammar.proofs.Fitting.{agrees, and_left, less, own, spelled, starts_any, starts_before}
pub use Rattle.pg_grammar.proofs.Keeping.{Keeps, Takes, keeps_bind, keeps_either, keeps_gives, keeps_more, keeps_one, keeps_reaches, keeps_token, takes_either, takes_one, takes_token}
pub use Rattle.pg_grammar.proofs.Leading.{Far, Leads, leads_on, reads_narrow}
pub use Rattle.pg_grammar.proofs.Reading.{Comes, comes_mapped, comes_none, comes_other, comes_passed, comes_some, comes_this, steps}
pub use Rattle.pg_grammar.proofs.Rules.{Fits, Known, Ones, Rule, last, made, maybe}
pub use Rattle.pg_grammar.proofs.Words.{Bars, Spelled, Starts, bars_bind, bars_either, bars_from, bars_gives, bars_knot, bars_one, bars_one_next, bars_reaches, bars_token, bars_token_next, begun_bind, begun_left, begun_one, begun_right, begun_token, spelled_bind, spelled_gives, spelled_left, spelled_more, spelled_one, spelled_reaches, spelled_token, starts_bind, starts_either, starts_gives, starts_more, starts_one, starts_token}
pub use Rattle.pg_grammar.specs.Answers.{IsFault, IsRead, Lacks, Misses, Reads, ReadsWhole, Seen, ends, failed, next, read, whole_of}
pub use Rattle.pg_grammar.specs.Languages.{Lang, Took, bind, either, gives, more, one, reaches, token}
pub use Rattle.pg_grammar.specs.Limits.{Limit, most, nodes, sources}
pub use Rattle.pg_grammar.specs.Parts.{seen}
pub use Rattle.pg_grammar.specs.declared.fault.Fault.{Fault}
pub use Rattle.pg_grammar.specs.declared.fault.Fault.TheVariants.{Deep, Many, Memory, Syntax}
unfoldable pub use Rattle.pg_lexer.specs.Keywords.{may_be_name, spelling}
pub use Rattle.pg_lexer.specs.declared.keyword.Keyword.{Keyword}
pub use Rattle.pg_lexer.specs.declared.sign.Sign.{Sign}
pub use Rattle.pg_lexer.specs.declared.token.Token.{Token}
pub use Rattle.pg_parse_expr.proofs.Spelled.{bigint_read, expr_spelled, integer_read, name_is_token, name_read, name_token}
pub use Rattle.pg_parse_expr.proofs.Within.{expr_keeps, name_free}
unfoldable pub use Rattle.pg_parse_expr.specs.Behind.{behind_comparison, behind_concatenation, behind_conjunction, behind_expr, behind_factor, behind_predicate, behind_product, behind_sum, has}
unfoldable pub use Rattle.pg_parse_expr.specs.Grammar.{bracket, called, chain, compared, comparison, concatenation, conjunction, disjunction, expr, expr_at, factor, factor_over, leaf, minus, named, negation, negation_over, operation, predicate, product, sum, test}
pub use Rattle.pg_parse_expr.specs.Laws.{is_free_name, is_literal, is_token, is_written}
pub use Rattle.pg_parse_expr.specs.Operators.{action_name}
unfoldable pub use Rattle.pg_parse_expr.specs.Operators.{and_op, compare_op, concat_op, literal_of, name_of, or_op, product_op, sum_op, value_of}
pub use Rattle.pg_parse_expr.specs.Tree.{Tree, action, column, column_of, height, unary}
pub use Rattle.pg_parse_stmt.specs.Behind.{any}
unfoldable pub use Rattle.pg_parse_stmt.specs.Behind.{begins_alias, begins_constraint, behind_as, behind_begin, behind_columns, behind_condition, behind_conflict, behind_constraint_name, behind_direction, behind_from, behind_guard, behind_item, behind_items, behind_joined, behind_limit, behind_list, behind_locked, behind_locking, behind_nulls, behind_of, behind_on_conflict, behind_optional, behind_order_key, behind_part, behind_rows, behind_sets, behind_statement, behind_subselect, behind_table, behind_target, behind_transaction, behind_tuples, behind_wait, is_comma, is_open, is_word}
pub use Rattle.pg_parse_stmt.specs.Expected.{BeginsAllOf, Dotted, NotDotted, no_dot, no_name}
pub use Rattle.pg_parse_stmt.specs.Forms.{optional, or_else, sign, word}
unfoldable pub use Rattle.pg_parse_stmt.specs.Forms.{in_brackets, list_of, next_of}
pub use Rattle.pg_parse_stmt.specs.Grammar.{SourceRule, nulls_by, one_source, sources_in, sources_of}
unfoldable pub use Rattle.pg_parse_stmt.specs.Grammar.{addition, addition_insert, addition_nothing, alias, all_of, alone, as_name, assignment, begin, bracketed, by_whom, change, change_behind, column_constraint_behind, column_constraint_named, column_part, column_rule_behind, columns, committed, condition, conflict, conflict_act, conflict_target, constraint_part, create_index, create_table, default, delete, direction, element, elements, from, from_of, insert, isolation, item, items, joined, limit, linked, lock_wait, locked, locking, merge, name, named_expr, names, next_rule, next_source, next_when, not_matched, nulls, of_table, order, order_key, part, query_source, returning, rows, select, sentence, sets, source, statement, statement_behind, strength, strength_behind, subselect, table_constraint_behind, table_named, table_ref, table_source, target_constraint, target_elements, then, transaction, tuple, tuples, update, upsert, values_source, when, when_behind, whens}
pub use Rattle.pg_parse_stmt.specs.Laws.{are_joined, are_names, are_proposed_rows, are_rows, are_sets, are_sources, is_addition, is_assignment, is_change, is_column_constraint, is_column_rule, is_conflict, is_create_index, is_create_table, is_delete, is_element, is_expr, is_insert, is_item, is_limit, is_locking, is_merge, is_negative, is_order_key, is_part, is_select, is_source, is_statement, is_subselect, is_table, is_table_constraint, is_target, is_update, is_when, none_or, some_and_all, sources_or_none}
pub use Rattle.pg_parse_stmt.specs.Ranks.{behind}
unfoldable pub use Rattle.pg_parse_stmt.specs.Ranks.{rank}
pub use Rattle.pg_parse_stmt.specs.Spellings.{spelled_change, spelled_constraint, spelled_elements, spelled_expr, spelled_in_brackets, spelled_items, spelled_kind, spelled_list, spelled_name, spelled_names, spelled_optional, spelled_or_else, spelled_order_key, spelled_part, spelled_sets, spelled_source, spelled_strength_behind, spelled_table_source, spelled_tuple, spelled_tuples}
unfoldable pub use Rattle.pg_parse_stmt.specs.Words.{bare_name_of, change_of, constraint_of, direction_of, integer_of, kind_of, lead_of, link_of, negative_of, nulls_of, rule_of, strength_of}
pub use Rattle.pg_parse_stmt.specs.declared.tree.Addition.{Addition}
pub use Rattle.pg_parse_stmt.specs.declared.tree.Assignment.{Assignment}
pub use Rattle.pg_parse_stmt.specs.declared.tree.Change.{Change}
pub use Rattle.pg_parse_stmt.specs.declared.tree.ColumnConstraint.{ColumnConstraint}
pub use Rattle.pg_parse_stmt.specs.declared.tree.ColumnRule.{ColumnRule}
pub use Rattle.pg_parse_stmt.specs.declared.tree.Conflict.{Conflict}
pub use Rattle.pg_parse_stmt.specs.declared.tree.ConflictTarget.{ConflictTarget}
pub use Rattle.pg_parse_stmt.specs.declared.tree.Delete.{Delete}
pub use Rattle.pg_parse_stmt.specs.declared.tree.Direction.{Direction}
pub use Rattle.pg_parse_stmt.specs.declared.tree.Direction.TheVariants.{Ascending, Descending}
pub use Rattle.pg_parse_stmt.specs.declared.tree.Element.{Element}
pub use Rattle.pg_parse_stmt.specs.declared.tree.Insert.{Insert}
pub use Rattle.pg_parse_stmt.specs.declared.tree.Item.{Item}
pub use Rattle.pg_parse_stmt.specs.declared.tree.Joined.{Joined}
pub use Rattle.pg_parse_stmt.specs.declared.tree.LockStrength.{LockStrength}
pub use Rattle.pg_parse_stmt.specs.declared.tree.LockWait.{LockWait}
pub use Rattle.pg_parse_stmt.specs.declared.tree.Locking.{Locking}
pub use Rattle.pg_parse_stmt.specs.declared.tree.Merge.{Merge}
pub use Rattle.pg_parse_stmt.specs.declared.tree.NullsPlace.{NullsPlace}
pub use Rattle.pg_parse_stmt.specs.declared.tree.OrderKey.{OrderKey}
pub use Rattle.pg_parse_stmt.specs.declared.tree.Rows.{Rows}
pub use Rattle.pg_parse_stmt.specs.declared.tree.Select.{Select}
pub use Rattle.pg_parse_stmt.specs.declared.tree.Source.{Source}
pub use Rattle.pg_parse_stmt.specs.declared.tree.StmtTree.{StmtTree}
pub use Rattle.pg_parse_stmt.specs.declared.tree.Subselect.{Subselect}
pub use Rattle.pg_parse_stmt.specs.declared.tree.TableConstraint.{TableConstraint}
pub use Rattle.pg_parse_stmt.specs.declared.tree.TablePart.{TablePart}
pub use Rattle.pg_parse_stmt.specs.declared.tree.TableRef.{TableRef}
pub use Rattle.pg_parse_stmt.specs.declared.tree.Update.{Update}
pub use Rattle.pg_parse_stmt.specs.declared.tree.When.{When}
pub use Rattle.pg_parse_stmt.specs.declared.word.ChangeWord.{ChangeWord}
pub use Rattle.pg_parse_stmt.specs.declared.word.ConstraintWord.{ConstraintWord}
pub use Rattle.pg_parse_stmt.specs.declared.word.Lead.{Lead}
pub use Rattle.pg_parse_stmt.specs.declared.word.Link.{Link}
pub use Rattle.pg_parse_stmt.specs.declared.word.RuleWord.{RuleWord}
pub use Rattle.pg_values.specs.declared.value.Value.{Value}
pub use Rattle.std.proofs.lemmas.Bool.{and_from, and_parts, and_right, both_ways, false≢true, lt-leb, not_from_true, or_cases}
pub use Rattle.std.specs.List.{list_all}
