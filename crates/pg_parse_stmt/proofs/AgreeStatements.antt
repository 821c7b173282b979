-- One reading of the statements that read and write rows.
use Rattle.std.proofs.Common.{◌≡◌, ◌∷◌, ◌++◌, Bool, true, false, List, [], Option, Some, None, refl}
use Rattle.pg_parse_stmt.proofs.Common.{Lang, gives, one, either, Agree, agree_gives, agree_token, agree_one, agree_less, Starts, starts_gives, starts_token, starts_one, starts_bind, starts_either, Token, spelling, expr, Tree, any, is_word, is_open, behind_as, behind_columns, word, optional, list_of, in_brackets, name, as_name, condition, tuple, tuples, sets, element, elements, columns, subselect, direction, nulls_by, nulls, order_key, order, limit, strength_behind, strength, lock_wait, of_table, locked, locking, rows, target_elements, target_constraint, conflict_target, upsert, conflict_act, conflict, change_behind, change, addition_insert, addition_nothing, addition, then, by_whom, not_matched, when_behind, when, next_when, whens, integer_of, direction_of, nulls_of, strength_of, change_of, ConflictTarget, Direction, Ascending, LockStrength, When, ChangeWord, rank, behind}
use Rattle.pg_lexer.specs.declared.keyword.Keyword.TheVariants as k
use Rattle.pg_lexer.specs.declared.sign.Sign.TheVariants as s
use Rattle.pg_lexer.specs.declared.token.Token.TheVariants as t
use Rattle.pg_parse_stmt.specs.declared.tree.Addition.TheVariants as addition_of
use Rattle.pg_parse_stmt.specs.declared.tree.LockStrength.TheVariants as lock
use Rattle.pg_parse_stmt.specs.declared.tree.LockWait.TheVariants as wait_of
use Rattle.pg_parse_stmt.specs.declared.tree.When.TheVariants as when_of
use Rattle.pg_parse_stmt.specs.declared.word.ChangeWord.TheVariants as change_word
use Rattle.pg_parse_stmt.proofs.AgreeParts.{agree_name, single_expr, agree_condition, tail_condition, agree_tuple, agree_tuples, agree_sets, agree_elements, agree_columns, agree_subselect}
use Rattle.pg_parse_stmt.proofs.Agreements.{outside, between, starts_first, deeper, Single, single, loosened, single_list, tail_gives, tail_token, tail_bind, tail_or, agree_rule, apart_flip, apart_words, apart_token, agree_then, agree_free, agree_made, agree_choice, agree_words, agree_or, agree_or_word, agree_optional, agree_optional_word, agree_repeat}
use Rattle.pg_parse_stmt.proofs.Steps.{starts_or, starts_optional}

-- the order of rows
direction_outside : (u : Token) (d : Direction) → direction_of u ≡ Some d → outside (behind 9) (Some u) ≡ true
unfolding direction_of rank
direction_outside (t.Keyword k.Asc) d e = refl
direction_outside (t.Keyword k.Desc) d e = refl
direction_outside _ d e = absurd (cc e)

direction_behind : (u : Token) (d : Direction) → direction_of u ≡ Some d → behind 8 (Some u) ≡ true
unfolding direction_of rank
direction_behind (t.Keyword k.Asc) d e = refl
direction_behind (t.Keyword k.Desc) d e = refl
direction_behind _ d e = absurd (cc e)

agree_direction : Single 9 direction
unfolding direction
agree_direction =
    agree_or (behind 9) Ascending (one direction_of) (agree_one (behind 9) direction_of)
    (starts_one (outside (behind 9)) (behind 9) direction_of direction_outside)

starts_direction : Starts (behind 8) direction (behind 9)
unfolding direction
starts_direction =
    starts_either (behind 8) (behind 9) (one direction_of) (gives Ascending)
    (starts_one (behind 8) (behind 9) direction_of direction_behind)
    (starts_gives (behind 8) (behind 9) Ascending (deeper 8 9 refl))

pub agree_order_key : Single 10 order_key
unfolding order_key nulls rank
agree_order_key =
    agree_rule 8 10 expr _ single_expr
    (λ e. tail_bind 8 9 10 direction _ agree_direction starts_direction
    (λ d. tail_or 9 10 10 (nulls_by d) (t.Keyword k.Nulls) (one nulls_of) _ refl refl refl
    (agree_one (behind 10) nulls_of)
    (λ n. tail_gives 10 10 _ refl)))

-- locks
agree_strength_behind : (x : LockStrength) → Agree (strength_behind x) (strength_behind x) any
unfolding strength_behind
agree_strength_behind lock.KeyShare = agree_token any (t.Keyword k.Share) _ _ (agree_gives any lock.KeyShare)
agree_strength_behind lock.Share = agree_gives any lock.Share
agree_strength_behind lock.NoKeyUpdate =
    agree_token any (t.Keyword k.Key) _ _ (agree_token any (t.Keyword k.Update) _ _ (agree_gives any lock.NoKeyUpdate))
agree_strength_behind lock.Update = agree_gives any lock.Update

agree_strength : Agree strength strength any
unfolding strength
agree_strength = agree_free any (one strength_of) strength_behind (agree_one any strength_of) agree_strength_behind

starts_waits : (f : Option Token → Bool) → f (Some (t.Keyword k.Nowait)) ≡ true → f (Some (t.Keyword k.Skip)) ≡ true →
    (g : Option Token → Bool) → Starts f (either (word k.Nowait (gives wait_of.Fail))
    (word k.Skip (word k.Locked (gives wait_of.Skip)))) g
starts_waits f a b g =
    starts_either f g _ _ (starts_token f g (t.Keyword k.Nowait) _ a) (starts_token f g (t.Keyword k.Skip) _ b)

agree_lock_wait : Single 18 lock_wait
unfolding lock_wait rank
agree_lock_wait =
    agree_or (behind 18) wait_of.Wait _
    (agree_words (behind 18) (t.Keyword k.Nowait) (t.Keyword k.Skip) _ _ (λ e. cc e)
    (agree_gives (behind 18) wait_of.Fail)
    (agree_token (behind 18) (t.Keyword k.Locked) _ _ (agree_gives (behind 18) wait_of.Skip)))
    (starts_waits (outside (behind 18)) refl refl (behind 18))

starts_lock_wait : Starts (behind 17) lock_wait (behind 18)
unfolding lock_wait rank
starts_lock_wait =
    starts_either (behind 17) (behind 18) _ (gives wait_of.Wait) (starts_waits (behind 17) refl refl (behind 18))
    (starts_gives (behind 17) (behind 18) wait_of.Wait (deeper 17 18 refl))

agree_of_table : Single 17 of_table
unfolding of_table rank
agree_of_table = agree_optional_word (behind 17) (t.Keyword k.Of) name refl (single 17 name agree_name)

pub agree_locked : Single 18 locked
unfolding locked
agree_locked =
    agree_free (behind 18) strength _ agree_strength
    (λ x. agree_rule 17 18 of_table _ agree_of_table
    (λ u. tail_bind 17 18 18 lock_wait _ agree_lock_wait starts_lock_wait (λ w. tail_gives 18 18 _ refl)))

-- [ORDER BY ..], [LIMIT integer] and [FOR ..]
pub agree_order : Single 14 order
unfolding order rank
agree_order =
    agree_or_word (behind 14) [] (t.Keyword k.Order) _ refl
    (agree_token (behind 14) (t.Keyword k.By) _ _ (loosened 11 14 _ refl (single_list order_key agree_order_key)))

pub agree_limit : Single 15 limit
unfolding limit rank
agree_limit = agree_optional_word (behind 15) (t.Keyword k.Limit) (one integer_of) refl (agree_one (behind 15) integer_of)

pub agree_locking : Single 18 locking
unfolding locking rank
agree_locking = agree_optional_word (behind 18) (t.Keyword k.For) locked refl agree_locked

-- INSERT
pub starts_rows : (b : Option Token → Bool) → b (Some (t.Keyword k.Values)) ≡ true →
    b (Some (t.Keyword k.Select)) ≡ true → (g : Option Token → Bool) → Starts b rows g
unfolding rows
starts_rows b h i g =
    starts_either b g _ _ (starts_token b g (t.Keyword k.Values) _ h) (starts_token b g (t.Keyword k.Select) _ i)

pub agree_rows : Single 13 rows
unfolding rows
agree_rows =
    agree_words (behind 13) (t.Keyword k.Values) (t.Keyword k.Select) _ _ (λ e. cc e)
    (agree_made (behind 13) tuples _ (loosened 11 13 tuples refl agree_tuples))
    (agree_made (behind 13) (subselect 0) _ (agree_subselect 0))

agree_target_elements : Single 15 target_elements
unfolding target_elements
agree_target_elements =
    agree_free (behind 15) elements _ agree_elements (λ e. agree_rule 13 15 condition _ agree_condition
    (λ c. tail_gives 13 15 _ refl))

starts_target_elements : (f g : Option Token → Bool) → f (Some (t.Sign s.Open)) ≡ true → Starts f target_elements g
unfolding target_elements elements in_brackets
starts_target_elements f g h =
    starts_first f g (in_brackets (list_of element)) _ (starts_token f any (t.Sign s.Open) _ h)

agree_target_constraint : Single 15 target_constraint
unfolding target_constraint
agree_target_constraint =
    agree_token (behind 15) (t.Keyword k.On) _ _ (agree_token (behind 15) (t.Keyword k.Constraint) _ _
    (agree_made (behind 15) name _ (single 15 name agree_name)))

agree_conflict_target : Single 15 conflict_target
unfolding conflict_target target_constraint is_open
agree_conflict_target =
    agree_choice (behind 15) target_elements target_constraint agree_target_elements agree_target_constraint
    (apart_flip (apart_token is_open (behind 15) (t.Keyword k.On) _ target_elements refl
    (starts_target_elements is_open (behind 15) refl)))

starts_conflict_target : Starts (outside (behind 15)) conflict_target (behind 15)
unfolding conflict_target target_constraint rank
starts_conflict_target =
    starts_either (outside (behind 15)) (behind 15) target_elements _
    (starts_target_elements (outside (behind 15)) (behind 15) refl)
    (starts_token (outside (behind 15)) (behind 15) (t.Keyword k.On) _ refl)

agree_upsert : (x : ConflictTarget) → Single 15 (upsert x)
unfolding upsert
agree_upsert x =
    agree_token (behind 15) (t.Keyword k.Update) _ _ (agree_token (behind 15) (t.Keyword k.Set) _ _
    (agree_rule 11 15 sets _ agree_sets
    (λ a. tail_condition 11 15 _ refl refl (λ c. tail_gives 13 15 _ refl))))

agree_conflict_act : (x : Option ConflictTarget) → Single 15 (conflict_act x)
unfolding conflict_act upsert
agree_conflict_act None = agree_token (behind 15) (t.Keyword k.Nothing) _ _ (agree_gives (behind 15) _)
agree_conflict_act (Some x) =
    agree_choice (behind 15) _ (upsert x) (agree_token (behind 15) (t.Keyword k.Nothing) _ _
    (agree_gives (behind 15) _)) (agree_upsert x)
    (apart_words (behind 15) (t.Keyword k.Nothing) (t.Keyword k.Update) _ _ (λ e. cc e))

pub agree_conflict : Single 15 conflict
unfolding conflict rank
agree_conflict =
    agree_token (behind 15) (t.Keyword k.On) _ _ (agree_token (behind 15) (t.Keyword k.Conflict) _ _
    (agree_rule 15 15 (optional conflict_target) _ (agree_optional
    (behind 15) conflict_target agree_conflict_target starts_conflict_target)
    (λ x. tail_token 15 15 (t.Keyword k.Do) _ refl (agree_conflict_act x))))

pub agree_optional_conflict : Single 15 (optional conflict)
unfolding conflict rank
agree_optional_conflict =
    agree_optional (behind 15) conflict agree_conflict (starts_token (outside (behind 15)) (behind 15) (t.Keyword k.On) _ refl)

-- [AS name] and ["(" names ")"] stand before VALUES and SELECT
pub agree_as : Agree as_name as_name behind_as
unfolding as_name behind_as is_word spelling
agree_as =
    agree_optional_word behind_as (t.Keyword k.As) name refl (agree_less any behind_as name name
    (λ o e. refl) agree_name)

pub starts_columns : Starts behind_as columns behind_as
unfolding columns in_brackets behind_as is_word
starts_columns = starts_or [] (t.Sign s.Open) _ behind_as refl

-- MERGE
agree_change_behind : (w : ChangeWord) → Single 11 (change_behind w)
unfolding change_behind
agree_change_behind change_word.Update =
    agree_token (behind 11) (t.Keyword k.Set) _ _ (agree_made (behind 11) sets _ agree_sets)
agree_change_behind change_word.Delete = agree_gives (behind 11) _
agree_change_behind change_word.Do = agree_token (behind 11) (t.Keyword k.Nothing) _ _ (agree_gives (behind 11) _)

agree_change : Single 11 change
unfolding change
agree_change = agree_free (behind 11) (one change_of) change_behind (agree_one any change_of) agree_change_behind

agree_addition : Single 11 addition
unfolding addition addition_insert addition_nothing behind_columns is_open
agree_addition =
    agree_words (behind 11) (t.Keyword k.Insert) (t.Keyword k.Do) _ _ (λ e. cc e)
    (agree_then behind_columns (behind 11) columns _ agree_columns
    (λ c. agree_token (behind 11) (t.Keyword k.Values) _ _ (agree_made (behind 11) tuple _
    (single 11 tuple agree_tuple)))
    (λ c. starts_token behind_columns (behind 11) (t.Keyword k.Values) _ refl))
    (agree_token (behind 11) (t.Keyword k.Nothing) _ _ (agree_gives (behind 11) addition_of.Nothing))

module _ {A : Type 0} (act : Lang Token A) (make : Option Tree → A → When) where
  agree_then_act : Single 11 act → Single 11 (then act make)
  unfolding then rank
  agree_then_act a =
      agree_rule 8 11 (optional (word k.And expr)) _ (agree_optional_word (behind 8)
      (t.Keyword k.And) expr refl single_expr)
      (λ c. tail_token 8 11 (t.Keyword k.Then) _ refl (agree_made (behind 11) act _ a))

  starts_then_act : (f g : Option Token → Bool) → f (Some (t.Keyword k.And)) ≡ true →
      f (Some (t.Keyword k.Then)) ≡ true →
      Starts f (then act make) g
  unfolding then
  starts_then_act f g h i =
      starts_bind f f g (optional (word k.And expr)) _ (starts_optional (t.Keyword k.And) expr f h)
      (λ c. starts_token f g (t.Keyword k.Then) _ i)

agree_by_whom : Single 11 by_whom
unfolding by_whom
agree_by_whom =
    agree_words (behind 11) (t.Keyword k.Source) (t.Keyword k.Target) _ _ (λ e. cc e)
    (agree_then_act change when_of.NotBySource agree_change)
    (agree_then_act addition when_of.NotByTarget agree_addition)

no_by : Option Token → Bool
no_by (Some (t.Keyword k.By)) = false
no_by _ = true

agree_not_matched : Single 11 not_matched
unfolding not_matched no_by
agree_not_matched =
    agree_choice (behind 11) _ _ (agree_token (behind 11) (t.Keyword k.By) _ _ agree_by_whom)
    (agree_then_act addition when_of.NotByTarget agree_addition)
    (apart_token no_by (behind 11) (t.Keyword k.By) _ _ refl (starts_then_act addition when_of.NotByTarget no_by
    (behind 11) refl refl))

pub agree_when : Single 11 when
unfolding when when_behind
agree_when =
    agree_token (behind 11) (t.Keyword k.When) _ _
    (agree_words (behind 11) (t.Keyword k.Matched) (t.Keyword k.Not) _ _ (λ e. cc e)
    (agree_then_act change when_of.Matched agree_change)
    (agree_token (behind 11) (t.Keyword k.Matched) _ _ agree_not_matched))

pub begins_when : (list : List When) → Starts (between (behind 11) (behind 14)) (next_when list) (behind 11)
unfolding next_when when rank
begins_when list =
    starts_first (between (behind 11) (behind 14)) (behind 11) _ _
    (starts_token (between (behind 11) (behind 14)) any (t.Keyword k.When) _ refl)

pub agree_whens : Single 14 whens
unfolding whens next_when
agree_whens =
    agree_repeat (behind 11) (behind 14) when next_when (λ w. w ∷ []) (deeper 11 14 refl) begins_when
    (λ list. agree_made (behind 11) when (λ w. list ++ w ∷ []) agree_when) agree_when
