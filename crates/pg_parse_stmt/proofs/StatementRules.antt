-- The statements as rules: what each has behind its first word.
use Rattle.std.proofs.Common.{List, []}
use Rattle.pg_parse_stmt.proofs.Common.{Seen, Reads, Spelled, Agree, Token, behind_expr, expr, any, behind_table, behind_sets, behind_condition, behind_from, behind_items, behind_limit, behind_locking, behind_statement, word, or_else, list_of, in_brackets, name, items, order, limit, locking, elements, source, whens, part, table_ref, sets, condition, from, returning, select, update, delete, merge, create_table, create_index, spelled_in_brackets, spelled_list, spelled_part, Select, Update, Delete, Merge, StmtTree, rank, behind, Rule, maybe, Known, Fits, Ones, spelled, agrees, Comes}
use Rattle.pg_lexer.specs.declared.keyword.Keyword.TheVariants as k
use Rattle.pg_lexer.specs.declared.token.Token.TheVariants as t
use Rattle.pg_parse_stmt.specs.declared.tree.StmtTree.TheVariants as stmt
use Rattle.pg_grammar.proofs.Rules as rule
use Rattle.pg_parse_stmt.proofs.AgreeParts.{single_expr, agree_name, agree_table_ref, agree_source, agree_items, agree_sets, agree_elements, agree_condition, agree_returning, agree_from, agree_from_word}
use Rattle.pg_parse_stmt.proofs.AgreeStatements.{agree_order, agree_limit, agree_locking, agree_whens}
use Rattle.pg_parse_stmt.proofs.AgreeCreates.{agree_parts}
use Rattle.pg_grammar.proofs.Rules.{token, gives}
use Rattle.pg_parse_stmt.proofs.Named.{parts}

-- the parts have one reading
ruleset readings = (agree_name, single_expr, agree_table_ref, agree_source, agree_items, agree_sets, agree_elements, agree_condition, agree_returning, agree_from, agree_from_word, agree_whens, agree_order, agree_limit, agree_locking, agree_parts)

-- items FROM from [WHERE expr] [ORDER BY order_key {"," order_key}] [LIMIT integer] [FOR locked], behind SELECT
abbrev pub select_rule : Rule Token Select
select_rule =
    rule.part (behind 11) behind_items items (λ i. token (t.Keyword k.From) (rule.part (behind 11) behind_from from (λ f.
    maybe (behind 13) behind_condition condition (λ c. maybe (behind 14) (behind 14) order (λ o.
    maybe (behind 15) behind_limit limit (λ l. maybe (behind 18) behind_locking locking (λ h.
    gives (record { items = i; from = f; condition = c; order = o; limit = l; locking = h }))))))))

pub select_fits : Fits select_rule behind_statement
unfolding rank
select_fits = search parts depth 14

pub select_read : {xs : List Token} {o : Seen Token Select} → Comes select_rule behind_statement xs o →
    Reads select behind_statement xs o
unfolding select
select_read c = c.to select_fits

pub spelled_select : Spelled select
unfolding select
spelled_select = spelled select_rule behind_statement select_fits

select_ones : Ones select_rule behind_statement
unfolding rank
select_ones = search readings depth 14

pub agree_select : Agree select select behind_statement
unfolding select
agree_select = agrees select_rule behind_statement select_fits select_ones

-- name [[AS] name] SET sets [FROM from] [WHERE expr] [RETURNING items], behind UPDATE
abbrev pub update_rule : Rule Token Update
update_rule =
    rule.part (behind 10) behind_table table_ref (λ x. token (t.Keyword k.Set) (rule.part (behind 11) behind_sets sets (λ a.
    maybe (behind 12) (behind 12) (or_else [] (word k.From from)) (λ f.
    maybe (behind 13) behind_condition condition (λ c. maybe (behind 16) (behind 16) returning (λ i.
    gives (record { target = x; sets = a; from = f; condition = c; returning = i })))))))

pub update_fits : Fits update_rule behind_statement
unfolding rank
update_fits = search parts depth 14

pub update_read : {xs : List Token} {o : Seen Token Update} → Comes update_rule behind_statement xs o →
    Reads update behind_statement xs o
unfolding update
update_read c = c.to update_fits

pub spelled_update : Spelled update
unfolding update
spelled_update = spelled update_rule behind_statement update_fits

update_ones : Ones update_rule behind_statement
unfolding rank
update_ones = search readings depth 14

pub agree_update : Agree update update behind_statement
unfolding update
agree_update = agrees update_rule behind_statement update_fits update_ones

-- FROM name [[AS] name] [USING from] [WHERE expr] [RETURNING items], behind DELETE
abbrev pub delete_rule : Rule Token Delete
delete_rule =
    token (t.Keyword k.From) (rule.part (behind 10) behind_table table_ref (λ x.
    maybe (behind 12) (behind 12) (or_else [] (word k.Using from)) (λ u.
    maybe (behind 13) behind_condition condition (λ c. maybe (behind 16) (behind 16) returning (λ i.
    gives (record { target = x; using = u; condition = c; returning = i }))))))

pub delete_fits : Fits delete_rule behind_statement
unfolding rank
delete_fits = search parts depth 14

pub delete_read : {xs : List Token} {o : Seen Token Delete} → Comes delete_rule behind_statement xs o →
    Reads delete behind_statement xs o
unfolding delete
delete_read c = c.to delete_fits

pub spelled_delete : Spelled delete
unfolding delete
spelled_delete = spelled delete_rule behind_statement delete_fits

delete_ones : Ones delete_rule behind_statement
unfolding rank
delete_ones = search readings depth 14

pub agree_delete : Agree delete delete behind_statement
unfolding delete
agree_delete = agrees delete_rule behind_statement delete_fits delete_ones

-- INTO name [[AS] name] USING source ON expr when {when} [RETURNING items], behind MERGE
abbrev pub merge_rule : Rule Token Merge
merge_rule =
    token (t.Keyword k.Into) (rule.part (behind 10) behind_table table_ref (λ x. token (t.Keyword k.Using)
    (rule.part (behind 10) behind_table (source 0) (λ y. token (t.Keyword k.On) (rule.part (behind 8) behind_expr expr (λ e.
    rule.part (behind 14) (behind 14) whens (λ w. maybe (behind 16) (behind 16) returning (λ i.
    gives (record { target = x; source = y; on = e; clauses = w; returning = i })))))))))

pub merge_fits : Fits merge_rule behind_statement
unfolding rank
merge_fits = search parts depth 14

pub merge_read : {xs : List Token} {o : Seen Token Merge} → Comes merge_rule behind_statement xs o →
    Reads merge behind_statement xs o
unfolding merge
merge_read c = c.to merge_fits

pub spelled_merge : Spelled merge
unfolding merge
spelled_merge = spelled merge_rule behind_statement merge_fits

merge_ones : Ones merge_rule behind_statement
unfolding rank
merge_ones = search readings depth 14

pub agree_merge : Agree merge merge behind_statement
unfolding merge
agree_merge = agrees merge_rule behind_statement merge_fits merge_ones

known_parts : Known any any (in_brackets (list_of part))
known_parts = record { spelled = spelled_in_brackets (list_of part) (spelled_list part spelled_part); below = λ o e. e }

-- TABLE name "(" part {"," part} ")", behind CREATE
abbrev pub create_table_rule : Rule Token StmtTree
create_table_rule =
    token (t.Keyword k.Table) (rule.part any any name (λ n. rule.part any any (in_brackets (list_of part)) (λ p.
    gives (stmt.CreateTable (record { name = n; parts = p })))))

pub create_table_fits : Fits create_table_rule behind_statement
unfolding rank
create_table_fits = search (parts, known_parts) depth 14

pub create_table_read : {xs : List Token} {o : Seen Token StmtTree} → Comes create_table_rule behind_statement xs o →
    Reads create_table behind_statement xs o
unfolding create_table
create_table_read c = c.to create_table_fits

pub spelled_create_table : Spelled create_table
unfolding create_table
spelled_create_table = spelled create_table_rule behind_statement create_table_fits

create_table_ones : Ones create_table_rule behind_statement
unfolding rank
create_table_ones = search readings depth 14

pub agree_create_table : Agree create_table create_table behind_statement
unfolding create_table
agree_create_table = agrees create_table_rule behind_statement create_table_fits create_table_ones

-- UNIQUE INDEX name ON name "(" element {"," element} ")" [WHERE expr], behind CREATE
abbrev pub create_index_rule : Rule Token StmtTree
create_index_rule =
    token (t.Keyword k.Unique) (token (t.Keyword k.Index) (rule.part any any name (λ n. token (t.Keyword k.On)
    (rule.part any any name (λ x. rule.part any any elements (λ e. maybe (behind 13) behind_condition condition (λ c.
    gives (stmt.CreateIndex (record { name = n; table = x; elements = e; predicate = c })))))))))

pub create_index_fits : Fits create_index_rule behind_statement
unfolding rank
create_index_fits = search parts depth 14

pub create_index_read : {xs : List Token} {o : Seen Token StmtTree} → Comes create_index_rule behind_statement xs o →
    Reads create_index behind_statement xs o
unfolding create_index
create_index_read c = c.to create_index_fits

create_index_ones : Ones create_index_rule behind_statement
unfolding rank
create_index_ones = search readings depth 14

pub agree_create_index : Agree create_index create_index behind_statement
unfolding create_index
agree_create_index = agrees create_index_rule behind_statement create_index_fits create_index_ones
