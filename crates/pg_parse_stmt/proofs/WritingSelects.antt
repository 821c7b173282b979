-- SELECT, written before any tokens.
use Rattle.std.proofs.Common.{◌≡◌, ℕ, Bool, true, ◌&&◌, List, Option, refl}
use Rattle.pg_parse_stmt.proofs.Common.{list_all, and_parts, one, expr, is_free_name, word, list_of, integer_of, direction_of, nulls_of, strength_of, none_or, is_order_key, is_limit, is_locking, is_select, name, items, condition, from, direction, nulls_by, nulls, order_key, order, limit, strength_behind, strength, lock_wait, of_table, locked, locking, select, Direction, Ascending, Descending, NullsPlace, OrderKey, LockStrength, LockWait, Locking, Select}
use Rattle.pg_lexer.specs.declared.keyword.Keyword.TheVariants as k
use Rattle.pg_lexer.specs.declared.token.Token.TheVariants as token_of
use Rattle.pg_parse_stmt.specs.declared.tree.LockStrength.TheVariants as lock
use Rattle.pg_parse_stmt.specs.declared.tree.LockWait.TheVariants as wait_of
use Rattle.pg_parse_stmt.specs.declared.tree.NullsPlace.TheVariants.{First, Last}
use Rattle.pg_parse_stmt.proofs.Writing.{Writes, writes_gives, writes_word, writes_one, writes_bind, writes_left, writes_right, writes_none, writes_else, writes_optional, writes_list, writes_any}
use Rattle.pg_parse_stmt.proofs.WritingParts.{writes_name, writes_expr, writes_condition, writes_items}
use Rattle.pg_parse_stmt.proofs.WritingFroms.{three_parts, writes_from}

-- four tests that all hold, and six
pub four_parts : (a b c d : Bool) → (a && b && c && d) ≡ true → (a ≡ true) × (b ≡ true) × (c ≡ true) × (d ≡ true)
four_parts a b c d h =
    let last = three_parts (a && b) c d h in
    let first = and_parts a b last.0 in
    (first.0, first.1, last.1, last.2)

pub six_parts : (a b c d e f : Bool) → (a && b && c && d && e && f) ≡ true →
    (a ≡ true) × (b ≡ true) × (c ≡ true) × (d ≡ true) × (e ≡ true) × (f ≡ true)
six_parts a b c d e f h =
    let last = three_parts (a && b && c && d) e f h in
    let first = four_parts a b c d last.0 in
    (first.0, first.1, first.2, first.3, last.1, last.2)

-- ORDER BY
writes_direction : (d : Direction) → Writes direction d
unfolding direction direction_of
writes_direction Ascending =
    writes_else Ascending Ascending (one direction_of) (writes_one direction_of
    (token_of.Keyword k.Asc) Ascending refl refl)
writes_direction Descending =
    writes_else Ascending Descending (one direction_of) (writes_one direction_of
    (token_of.Keyword k.Desc) Descending refl refl)

writes_nulls : (d : Direction) (n : NullsPlace) → Writes (nulls d) n
unfolding nulls nulls_of
writes_nulls d First =
    writes_else (nulls_by d) First _ (writes_word k.Nulls _ _
    (writes_one nulls_of (token_of.Keyword k.First) First refl refl))
writes_nulls d Last =
    writes_else (nulls_by d) Last _ (writes_word k.Nulls _ _ (writes_one nulls_of
    (token_of.Keyword k.Last) Last refl refl))

writes_order_key : (o : OrderKey) → is_order_key o ≡ true → Writes order_key o
unfolding order_key
writes_order_key o h =
    writes_bind expr _ o.expr o (writes_expr o.expr h)
    (writes_bind direction _ o.direction o (writes_direction o.direction)
    (writes_bind (nulls o.direction) _ o.nulls o (writes_nulls o.direction o.nulls) (writes_gives o)))

writes_order : (list : List OrderKey) → list_all is_order_key list ≡ true → Writes order list
unfolding order
writes_order list h =
    writes_any is_order_key (word k.Order (word k.By (list_of order_key)))
    (λ keys g. writes_word k.Order _ keys (writes_word k.By _ keys
    (writes_list is_order_key order_key writes_order_key keys g)))
    list h

-- LIMIT: each such number is a token
writes_limit : (o : Option ℕ) → none_or is_limit o ≡ true → Writes limit o
unfolding limit integer_of
writes_limit o h =
    writes_optional is_limit (word k.Limit (one integer_of))
    (λ n g. writes_word k.Limit (one integer_of) n (writes_one integer_of (token_of.Integer n) n refl g)) o h

-- FOR
writes_strength : (strong : LockStrength) → Writes strength strong
unfolding strength strength_behind strength_of
writes_strength lock.KeyShare =
    writes_bind (one strength_of) strength_behind lock.KeyShare _
    (writes_one strength_of (token_of.Keyword k.Key) lock.KeyShare refl refl)
    (writes_word k.Share _ _ (writes_gives lock.KeyShare))
writes_strength lock.Share =
    writes_bind (one strength_of) strength_behind lock.Share _
    (writes_one strength_of (token_of.Keyword k.Share) lock.Share refl refl) (writes_gives lock.Share)
writes_strength lock.NoKeyUpdate =
    writes_bind (one strength_of) strength_behind lock.NoKeyUpdate _
    (writes_one strength_of (token_of.Keyword k.No) lock.NoKeyUpdate refl refl)
    (writes_word k.Key _ _ (writes_word k.Update _ _ (writes_gives lock.NoKeyUpdate)))
writes_strength lock.Update =
    writes_bind (one strength_of) strength_behind lock.Update _
    (writes_one strength_of (token_of.Keyword k.Update) lock.Update refl refl) (writes_gives lock.Update)

writes_lock_wait : (wait : LockWait) → Writes lock_wait wait
unfolding lock_wait
writes_lock_wait wait_of.Wait = writes_none wait_of.Wait _
writes_lock_wait wait_of.Fail =
    writes_else wait_of.Wait wait_of.Fail _ (writes_left _ _ _ (writes_word k.Nowait _ _ (writes_gives wait_of.Fail)))
writes_lock_wait wait_of.Skip =
    writes_else wait_of.Wait wait_of.Skip _
    (writes_right _ _ _ (writes_word k.Skip _ _ (writes_word k.Locked _ _ (writes_gives wait_of.Skip))))

writes_of_table : (o : Option (List ℕ)) → none_or is_free_name o ≡ true → Writes of_table o
unfolding of_table
writes_of_table o h =
    writes_optional is_free_name (word k.Of name) (λ n g. writes_word k.Of name n (writes_name n g)) o h

writes_locked : (l : Locking) → is_locking l ≡ true → Writes locked l
unfolding locked
writes_locked l h =
    writes_bind strength _ l.strength l (writes_strength l.strength)
    (writes_bind of_table _ l.table l (writes_of_table l.table h)
    (writes_bind lock_wait _ l.wait l (writes_lock_wait l.wait) (writes_gives l)))

writes_locking : (o : Option Locking) → none_or is_locking o ≡ true → Writes locking o
unfolding locking
writes_locking o h =
    writes_optional is_locking (word k.For locked) (λ l g. writes_word k.For locked l (writes_locked l g)) o h

pub writes_select : (q : Select) → is_select q ≡ true → Writes select q
unfolding select
writes_select q h =
    let tests = six_parts _ _ _ _ _ _ h in
    writes_bind items _ q.items q (writes_items q.items tests.0)
    (writes_word k.From _ q (writes_bind from _ q.from q (writes_from q.from tests.1)
    (writes_bind condition _ q.condition q (writes_condition q.condition tests.2)
    (writes_bind order _ q.order q (writes_order q.order tests.3)
    (writes_bind limit _ q.limit q (writes_limit q.limit tests.4)
    (writes_bind locking _ q.locking q (writes_locking q.locking tests.5) (writes_gives q)))))))
