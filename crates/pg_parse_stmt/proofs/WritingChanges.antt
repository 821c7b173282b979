-- INSERT, UPDATE, DELETE and MERGE, written before any tokens.
use Rattle.std.proofs.Common.{◌≡◌, Bool, true, ◌&&◌, List, [], ◌∷◌, ◌++◌, Option, Some, None, refl, arith, leb-true}
use Rattle.pg_parse_stmt.proofs.Common.{list_all, and_parts, Lang, one, Token, expr, is_free_name, Tree, word, optional, or_else, change_of, none_or, some_and_all, is_expr, is_element, are_sources, sources_or_none, are_proposed_rows, is_target, is_conflict, is_insert, is_update, is_delete, is_change, is_addition, is_when, is_merge, name, table_ref, condition, as_name, returning, tuple, tuples, sets, elements, subselect, source, sources_of, from, rows, target_elements, target_constraint, conflict_target, upsert, conflict_act, conflict, columns, insert, update, delete, change_behind, change, addition_insert, addition_nothing, addition, then, by_whom, not_matched, when_behind, when, next_when, whens, merge, Source, Joined, Rows, ConflictTarget, Conflict, Insert, Update, Delete, Change, Addition, When, Merge}
use Rattle.pg_lexer.specs.declared.keyword.Keyword.TheVariants as k
use Rattle.pg_lexer.specs.declared.token.Token.TheVariants as token_of
use Rattle.pg_parse_stmt.specs.declared.tree.Rows.TheVariants as rows_of
use Rattle.pg_parse_stmt.specs.declared.tree.ConflictTarget.TheVariants as target_of
use Rattle.pg_parse_stmt.specs.declared.tree.Conflict.TheVariants as conflict_of
use Rattle.pg_parse_stmt.specs.declared.tree.Change.TheVariants as change_tree
use Rattle.pg_parse_stmt.specs.declared.tree.Addition.TheVariants as addition_of
use Rattle.pg_parse_stmt.specs.declared.tree.When.TheVariants as when_of
use Rattle.pg_parse_stmt.specs.declared.word.ChangeWord.TheVariants as change_word
use Rattle.pg_parse_stmt.proofs.Writing.{Writes, writes_gives, writes_word, writes_one, writes_bind, writes_left, writes_right, writes_some, writes_none, writes_else, writes_optional, writes_steps}
use Rattle.pg_parse_stmt.proofs.WritingParts.{writes_name, writes_columns, writes_as_name, writes_table_ref, writes_expr, writes_condition, writes_returning, writes_tuple, writes_tuples, writes_sets, writes_elements}
use Rattle.pg_parse_stmt.proofs.WritingFroms.{three_parts, writes_subselect, subselect_bound, writes_source, writes_from}
use Rattle.pg_parse_stmt.proofs.WritingSelects.{four_parts, six_parts}

five_parts : (a b c d e : Bool) → (a && b && c && d && e) ≡ true →
    (a ≡ true) × (b ≡ true) × (c ≡ true) × (d ≡ true) × (e ≡ true)
five_parts a b c d e h =
    let last = three_parts (a && b && c) d e h in
    let first = three_parts a b c last.0 in
    (first.0, first.1, first.2, last.1, last.2)

-- the rows of INSERT
writes_rows : (r : Rows) → are_proposed_rows r ≡ true → Writes rows r
unfolding rows
writes_rows (rows_of.Values r) h =
    writes_left _ _ _ (writes_word k.Values _ _ (writes_bind tuples _ r _ (writes_tuples r h)
    (writes_gives (rows_of.Values r))))
writes_rows (rows_of.Query q) h =
    writes_right _ _ _ (writes_word k.Select _ _
    (writes_bind (subselect 0) _ q _ (writes_subselect 0 0 q h (subselect_bound 0 q h))
    (writes_gives (rows_of.Query q))))

-- ON CONFLICT
writes_target : (x : ConflictTarget) → is_target x ≡ true → Writes conflict_target x
unfolding conflict_target target_elements target_constraint
writes_target (target_of.Elements e c) h =
    let parts = and_parts (some_and_all is_element e) (none_or is_expr c) h in
    writes_left _ _ _ (writes_bind elements _ e _ (writes_elements e parts.0)
    (writes_bind condition _ c _ (writes_condition c parts.1) (writes_gives (target_of.Elements e c))))
writes_target (target_of.Constraint n) h =
    writes_right _ _ _ (writes_word k.On _ _ (writes_word k.Constraint _ _
    (writes_bind name _ n _ (writes_name n h) (writes_gives (target_of.Constraint n)))))

writes_nothing : (o : Option ConflictTarget) → Writes (conflict_act o) (conflict_of.Nothing o)
unfolding conflict_act
writes_nothing None = writes_word k.Nothing _ _ (writes_gives (conflict_of.Nothing None))
writes_nothing (Some x) = writes_left _ _ _ (writes_word k.Nothing _ _ (writes_gives (conflict_of.Nothing (Some x))))

writes_conflict : (c : Conflict) → is_conflict c ≡ true → Writes conflict c
unfolding conflict conflict_act upsert
writes_conflict (conflict_of.Nothing o) h =
    writes_word k.On _ _ (writes_word k.Conflict _ _
    (writes_bind (optional conflict_target) _ o _ (writes_optional is_target conflict_target writes_target o h)
    (writes_word k.Do _ _ (writes_nothing o))))
writes_conflict (conflict_of.Update u) h =
    let tests = three_parts _ _ _ h in
    writes_word k.On _ _ (writes_word k.Conflict _ _
    (writes_bind (optional conflict_target) _ (Some u.target) _
    (writes_some conflict_target u.target (writes_target u.target tests.0))
    (writes_word k.Do _ _ (writes_right _ _ _ (writes_word k.Update _ _ (writes_word k.Set _ _
    (writes_bind sets _ u.sets _ (writes_sets u.sets tests.1)
    (writes_bind condition _ u.condition _ (writes_condition u.condition tests.2)
    (writes_gives (conflict_of.Update u))))))))))

pub writes_insert : (q : Insert) → is_insert q ≡ true → Writes insert q
unfolding insert
writes_insert q h =
    let tests = six_parts _ _ _ _ _ _ h in
    writes_word k.Into _ q (writes_bind name _ q.table q (writes_name q.table tests.0)
    (writes_bind as_name _ q.alias q (writes_as_name q.alias tests.1)
    (writes_bind columns _ q.columns q (writes_columns q.columns tests.2)
    (writes_bind rows _ q.rows q (writes_rows q.rows tests.3)
    (writes_bind (optional conflict) _ q.conflict q
    (writes_optional is_conflict conflict writes_conflict q.conflict tests.4)
    (writes_bind returning _ q.returning q (writes_returning q.returning tests.5) (writes_gives q)))))))

-- the sources of UPDATE and DELETE
writes_sources : (L : Lang Token (List (Joined Source))) →
    ((js : List (Joined Source)) → are_sources js ≡ true → Writes L js) → (js : List (Joined Source)) →
    sources_or_none js ≡ true → Writes (or_else [] L) js
writes_sources L a [] h = writes_none [] L
writes_sources L a (j ∷ js) h = writes_else [] (j ∷ js) L (a (j ∷ js) h)

pub writes_update : (q : Update) → is_update q ≡ true → Writes update q
unfolding update
writes_update q h =
    let tests = five_parts _ _ _ _ _ h in
    writes_bind table_ref _ q.target q (writes_table_ref q.target tests.0)
    (writes_word k.Set _ q (writes_bind sets _ q.sets q (writes_sets q.sets tests.1)
    (writes_bind (or_else [] (word k.From from)) _ q.from q
    (writes_sources (word k.From from) (λ js g. writes_word k.From from js (writes_from js g)) q.from tests.2)
    (writes_bind condition _ q.condition q (writes_condition q.condition tests.3)
    (writes_bind returning _ q.returning q (writes_returning q.returning tests.4) (writes_gives q))))))

pub writes_delete : (q : Delete) → is_delete q ≡ true → Writes delete q
unfolding delete
writes_delete q h =
    let tests = four_parts _ _ _ _ h in
    writes_word k.From _ q (writes_bind table_ref _ q.target q (writes_table_ref q.target tests.0)
    (writes_bind (or_else [] (word k.Using from)) _ q.using q
    (writes_sources (word k.Using from) (λ js g. writes_word k.Using from js (writes_from js g)) q.using tests.1)
    (writes_bind condition _ q.condition q (writes_condition q.condition tests.2)
    (writes_bind returning _ q.returning q (writes_returning q.returning tests.3) (writes_gives q)))))

-- what a WHEN clause does
writes_change : (c : Change) → is_change c ≡ true → Writes change c
unfolding change change_behind change_of
writes_change (change_tree.Update a) h =
    writes_bind (one change_of) change_behind change_word.Update _
    (writes_one change_of (token_of.Keyword k.Update) change_word.Update refl refl)
    (writes_word k.Set _ _ (writes_bind sets _ a _ (writes_sets a h) (writes_gives (change_tree.Update a))))
writes_change change_tree.Delete h =
    writes_bind (one change_of) change_behind change_word.Delete _
    (writes_one change_of (token_of.Keyword k.Delete) change_word.Delete refl refl) (writes_gives change_tree.Delete)
writes_change change_tree.Nothing h =
    writes_bind (one change_of) change_behind change_word.Do _
    (writes_one change_of (token_of.Keyword k.Do) change_word.Do refl refl)
    (writes_word k.Nothing _ _ (writes_gives change_tree.Nothing))

writes_addition : (a : Addition) → is_addition a ≡ true → Writes addition a
unfolding addition addition_insert addition_nothing
writes_addition (addition_of.Insert c v) h =
    let parts = and_parts (list_all is_free_name c) (some_and_all is_expr v) h in
    writes_left _ _ _ (writes_word k.Insert _ _ (writes_bind columns _ c _ (writes_columns c parts.0)
    (writes_word k.Values _ _ (writes_bind tuple _ v _ (writes_tuple v parts.1)
    (writes_gives (addition_of.Insert c v))))))
writes_addition addition_of.Nothing h =
    writes_right _ _ _ (writes_word k.Do _ _ (writes_word k.Nothing _ _ (writes_gives addition_of.Nothing)))

writes_then : {A : Type 0} (act : Lang Token A) (make : Option Tree → A → When) (c : Option Tree) (a : A) →
    none_or is_expr c ≡ true → Writes act a → Writes (then act make) (make c a)
unfolding then
writes_then act make c a h written =
    writes_bind (optional (word k.And expr)) _ c _
    (writes_optional is_expr (word k.And expr) (λ e g. writes_word k.And expr e (writes_expr e g)) c h)
    (writes_word k.Then _ _ (writes_bind act _ a _ written (writes_gives (make c a))))

writes_when : (w : When) → is_when w ≡ true → Writes when w
unfolding when when_behind not_matched by_whom
writes_when (when_of.Matched c a) h =
    let parts = and_parts (none_or is_expr c) (is_change a) h in
    writes_word k.When _ _ (writes_left _ _ _ (writes_word k.Matched _ _
    (writes_then change when_of.Matched c a parts.0 (writes_change a parts.1))))
writes_when (when_of.NotBySource c a) h =
    let parts = and_parts (none_or is_expr c) (is_change a) h in
    writes_word k.When _ _ (writes_right _ _ _ (writes_word k.Not _ _ (writes_word k.Matched _ _
    (writes_left _ _ _ (writes_word k.By _ _ (writes_left _ _ _ (writes_word k.Source _ _
    (writes_then change when_of.NotBySource c a parts.0 (writes_change a parts.1)))))))))
writes_when (when_of.NotByTarget c a) h =
    let parts = and_parts (none_or is_expr c) (is_addition a) h in
    writes_word k.When _ _ (writes_right _ _ _ (writes_word k.Not _ _ (writes_word k.Matched _ _
    (writes_right _ _ _ (writes_then addition when_of.NotByTarget c a parts.0 (writes_addition a parts.1))))))

writes_next_when : (list : List When) (w : When) → is_when w ≡ true → Writes (next_when list) (list ++ w ∷ [])
unfolding next_when
writes_next_when list w h = writes_bind when _ w _ (writes_when w h) (writes_gives (list ++ w ∷ []))

writes_whens : (ws : List When) → some_and_all is_when ws ≡ true → Writes whens ws
unfolding whens
writes_whens [] h = absurd (cc h)
writes_whens (w ∷ ws) h =
    let parts = and_parts (is_when w) (list_all is_when ws) h in
    writes_bind when _ w _ (writes_when w parts.0) (writes_steps is_when next_when writes_next_when ws (w ∷ []) parts.1)

pub writes_merge : (q : Merge) → is_merge q ≡ true → Writes merge q
unfolding merge
writes_merge q h =
    let tests = six_parts _ _ _ _ _ _ h in
    let bound = leb-true (sources_of q.source) 8 tests.2 in
    writes_word k.Into _ q (writes_bind table_ref _ q.target q (writes_table_ref q.target tests.0)
    (writes_word k.Using _ q (writes_bind (source 0) _ q.source q
    (writes_source 0 q.source tests.1 (omega (arith, bound)))
    (writes_word k.On _ q (writes_bind expr _ q.on q (writes_expr q.on tests.3)
    (writes_bind whens _ q.clauses q (writes_whens q.clauses tests.4)
    (writes_bind returning _ q.returning q (writes_returning q.returning tests.5) (writes_gives q))))))))
