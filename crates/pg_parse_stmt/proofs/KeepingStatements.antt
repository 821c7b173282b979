-- SELECT, INSERT, UPDATE, DELETE and MERGE pass their tests where they are read.
use Rattle.std.proofs.Common.{◌≡◌, Bool, true, [], ◌∷◌, Option, Some, None, refl, arith, le-leb}
use Rattle.pg_parse_stmt.proofs.Common.{list_all, Lang, keeps_more, Token, is_token, Tree, none_or, some_and_all, is_expr, is_order_key, is_limit, is_locking, is_select, are_proposed_rows, is_target, is_conflict, is_insert, is_update, is_delete, is_change, is_addition, is_when, is_merge, direction, nulls, order_key, order, limit, strength_behind, strength, lock_wait, of_table, locked, locking, select, rows, target_elements, target_constraint, conflict_target, upsert, conflict_act, conflict, insert, update, delete, change_behind, change, addition_insert, addition_nothing, addition, then, by_whom, not_matched, when_behind, when, next_when, whens, merge, sources_of, ConflictTarget, When, Direction, LockStrength, ChangeWord}
use Rattle.pg_parse_stmt.specs.declared.tree.LockStrength.TheVariants as lock
use Rattle.pg_parse_stmt.specs.declared.word.ChangeWord.TheVariants as change_word
use Rattle.pg_parse_stmt.proofs.Keeping.{Free, free_gives, free_one, Reading, both, some_and_one, reading_gives, reading_word, reading_bind, reading_either, reading_optional, reading_list, reading_list_or_none}
use Rattle.pg_parse_stmt.proofs.KeepingTokens.{reading_integer_of}
use Rattle.pg_parse_stmt.proofs.KeepingParts.{reading_name, reading_columns, reading_as_name, reading_table_ref, reading_expr, reading_condition, reading_items, reading_returning, reading_tuple, reading_tuples, reading_sets, reading_elements}
use Rattle.pg_parse_stmt.proofs.KeepingFroms.{reading_subselect, reading_source, reading_from, reading_no_or_sources}

-- ORDER BY, LIMIT and FOR
keeps_direction : Free direction
unfolding direction
keeps_direction = reading_either free_one free_gives

keeps_nulls : (d : Direction) → Free (nulls d)
unfolding nulls
keeps_nulls d = reading_either (reading_word free_one) free_gives

reading_order_key : Reading order_key is_order_key
unfolding order_key
reading_order_key =
    reading_bind reading_expr (λ e h. reading_bind keeps_direction
    (λ d u. reading_bind (keeps_nulls d) (λ n w. reading_gives h)))

reading_order : Reading order (list_all is_order_key)
unfolding order
reading_order =
    reading_list_or_none is_order_key (reading_word (reading_word
    (reading_list is_order_key order_key reading_order_key)))

reading_limit : Reading limit (none_or is_limit)
unfolding limit
reading_limit = reading_optional (reading_word reading_integer_of)

keeps_strength_behind : (l : LockStrength) → Free (strength_behind l)
unfolding strength_behind
keeps_strength_behind lock.KeyShare = reading_word free_gives
keeps_strength_behind lock.Share = free_gives
keeps_strength_behind lock.NoKeyUpdate = reading_word (reading_word free_gives)
keeps_strength_behind lock.Update = free_gives

keeps_strength : Free strength
unfolding strength
keeps_strength = reading_bind free_one (λ l u. keeps_strength_behind l)

keeps_lock_wait : Free lock_wait
unfolding lock_wait
keeps_lock_wait =
    reading_either (reading_either (reading_word free_gives) (reading_word (reading_word free_gives))) free_gives

reading_locking : Reading locking (none_or is_locking)
unfolding locking locked of_table
reading_locking =
    reading_optional (reading_word (reading_bind keeps_strength
    (λ l u. reading_bind (reading_optional (reading_word reading_name))
    (λ t h. reading_bind keeps_lock_wait (λ w v. reading_gives h)))))

-- SELECT
pub reading_select : Reading select is_select
unfolding select
reading_select =
    reading_bind reading_items
    (λ i a. reading_word (reading_bind reading_from
    (λ f b. reading_bind reading_condition
    (λ c d. reading_bind reading_order
    (λ o e. reading_bind reading_limit
    (λ l g. reading_bind reading_locking
    (λ k h. reading_gives (both (both (both (both (both a b) d) e) g) h))))))))

-- INSERT
reading_rows : Reading rows are_proposed_rows
unfolding rows
reading_rows =
    reading_either (reading_word (reading_bind reading_tuples (λ r h. reading_gives h)))
    (reading_word (reading_bind (reading_subselect 0 0 (omega arith)) (λ q h. reading_gives h.0)))

reading_conflict_target : Reading conflict_target is_target
unfolding conflict_target target_elements target_constraint
reading_conflict_target =
    reading_either (reading_bind reading_elements (λ e h. reading_bind reading_condition
    (λ c g. reading_gives (both h g))))
    (reading_word (reading_word (reading_bind reading_name (λ n h. reading_gives h))))

reading_upsert : (t : ConflictTarget) → is_target t ≡ true → Reading (upsert t) is_conflict
unfolding upsert
reading_upsert t h =
    reading_word (reading_word (reading_bind reading_sets
    (λ a g. reading_bind reading_condition (λ c q. reading_gives (both (both h g) q)))))

reading_conflict_act : (t : Option ConflictTarget) → none_or is_target t ≡ true → Reading (conflict_act t) is_conflict
unfolding conflict_act
reading_conflict_act None h = reading_word (reading_gives refl)
reading_conflict_act (Some t) h = reading_either (reading_word (reading_gives h)) (reading_upsert t h)

reading_conflict : Reading conflict is_conflict
unfolding conflict
reading_conflict =
    reading_word (reading_word (reading_bind (reading_optional reading_conflict_target)
    (λ t h. reading_word (reading_conflict_act t h))))

pub reading_insert : Reading insert is_insert
unfolding insert
reading_insert =
    reading_word (reading_bind reading_name
    (λ t a. reading_bind reading_as_name
    (λ l b. reading_bind reading_columns
    (λ c d. reading_bind reading_rows
    (λ r e. reading_bind (reading_optional reading_conflict)
    (λ o g. reading_bind reading_returning
    (λ i h. reading_gives (both (both (both (both (both a b) d) e) g) h))))))))

-- UPDATE and DELETE
pub reading_update : Reading update is_update
unfolding update
reading_update =
    reading_bind reading_table_ref
    (λ t a. reading_word (reading_bind reading_sets
    (λ s b. reading_bind (reading_no_or_sources (reading_word reading_from))
    (λ f d. reading_bind reading_condition
    (λ c e. reading_bind reading_returning
    (λ i g. reading_gives (both (both (both (both a b) d) e) g)))))))

pub reading_delete : Reading delete is_delete
unfolding delete
reading_delete =
    reading_word (reading_bind reading_table_ref
    (λ t a. reading_bind (reading_no_or_sources (reading_word reading_from))
    (λ u b. reading_bind reading_condition
    (λ c d. reading_bind reading_returning
    (λ i e. reading_gives (both (both (both a b) d) e))))))

-- MERGE
reading_change_behind : (w : ChangeWord) → Reading (change_behind w) is_change
unfolding change_behind
reading_change_behind change_word.Update = reading_word (reading_bind reading_sets (λ a h. reading_gives h))
reading_change_behind change_word.Delete = reading_gives refl
reading_change_behind change_word.Do = reading_word (reading_gives refl)

reading_change : Reading change is_change
unfolding change
reading_change = reading_bind free_one (λ w u. reading_change_behind w)

reading_addition : Reading addition is_addition
unfolding addition addition_insert addition_nothing
reading_addition =
    reading_either (reading_word (reading_bind reading_columns (λ c h. reading_word (reading_bind reading_tuple
    (λ t g. reading_gives (both h g))))))
    (reading_word (reading_word (reading_gives refl)))

reading_then : {A : Type 0} {act : Lang Token A} {p : A → Bool} (make : Option Tree → A → When) →
    ((c : Option Tree) (a : A) → none_or is_expr c ≡ true → p a ≡ true → is_when (make c a) ≡ true) → Reading act p →
    Reading (then act make) is_when
unfolding then
reading_then make h a =
    reading_bind (reading_optional (reading_word reading_expr))
    (λ c g. reading_word (reading_bind a (λ x q. reading_gives (h c x g q))))

reading_when : Reading when is_when
unfolding when when_behind not_matched by_whom
reading_when =
    reading_word (reading_either (reading_word (reading_then _ (λ c a h g. both h g) reading_change))
    (reading_word (reading_word (reading_either
    (reading_word (reading_either (reading_word (reading_then _ (λ c a h g. both h g) reading_change))
    (reading_word (reading_then _ (λ c a h g. both h g) reading_addition))))
    (reading_then _ (λ c a h g. both h g) reading_addition)))))

reading_whens : Reading whens (some_and_all is_when)
unfolding whens next_when
reading_whens =
    reading_bind reading_when
    (λ w h. keeps_more is_token (λ list. some_and_all is_when list ≡ true) next_when
    (λ list g. reading_bind reading_when (λ x q. reading_gives (some_and_one is_when list x g q))) (w ∷ [])
    (both h refl))

pub reading_merge : Reading merge is_merge
unfolding merge
reading_merge =
    reading_word (reading_bind reading_table_ref
    (λ t a. reading_word (reading_bind (reading_source 0)
    (λ x b. reading_word (reading_bind reading_expr
    (λ e d. reading_bind reading_whens
    (λ w g. reading_bind reading_returning
    (λ i h.
    let counted = b.1 in
    let low = le-leb (sources_of x) 8 (omega (arith, counted)) in
    reading_gives (both (both (both (both (both a b.0) low) d) g) h)))))))))
