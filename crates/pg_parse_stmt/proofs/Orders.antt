-- ORDER BY, LIMIT and RETURNING
use Rattle.std.proofs.Common.{◌≡◌, ◌∷◌, ℕ, Bool, true, false, List, [], length, Option, Some, refl, ap, not, is_some}
use Rattle.pg_parse_stmt.proofs.Common.{Syntax, Took, gives, one, Misses, Lacks, Seen, read, failed, Reads, Starts, Spelled, starts_gives, starts_one, starts_either, bars_one, reads_one, Token, has, any, behind_list, behind_items, behind_direction, behind_nulls, behind_order_key, word, list_of, spelled_or_else, spelled_optional, spelled_list, spelled_order_key, direction_of, items, returning, direction, nulls_by, nulls, order_key, order, limit, integer_of, nulls_of, Item, Direction, Ascending, NullsPlace, OrderKey, rank, behind}
use Rattle.pg_parse_stmt.proofs.Forms.{nothing, word_then, no_word, right_side, there, next_is, left_out_as, before, before_any}
use Rattle.pg_lexer.specs.declared.keyword.Keyword.TheVariants as k
use Rattle.pg_lexer.specs.declared.token.Token.TheVariants as t
use Rattle.pg_parse_stmt.proofs.Agreements.{deeper}
use Rattle.pg_parse_stmt.proofs.Follows.{items_follows, order_keys_follow}
use Rattle.pg_parse_stmt.proofs.Following.{nulls_goes_on_nulls}

pub returning_read : (xs ys : List Token) (o : Seen Token (List Item)) → xs ≡ t.Keyword k.Returning ∷ ys →
    Reads items behind_items ys o →
    Reads returning (behind 16) xs o
unfolding returning rank
returning_read xs ys o e r =
    there (next_is (behind 16) e refl) (word_then e (before (λ q b. items_follows q (deeper 11 16 refl q b)) r))

pub returning_none : (xs : List Token) (v : List Item) → v ≡ [] → Misses (t.Keyword k.Returning) xs →
    Reads returning (behind 16) xs (read v xs)
unfolding returning
returning_none xs v e miss = left_out_as e miss

pub spelled_returning : Spelled returning
unfolding returning
spelled_returning = spelled_or_else [] (word k.Returning items)

direction_on : (u : Token) (d : Direction) → direction_of u ≡ Some d → behind_direction (Some u) ≡ false
unfolding behind_direction has
direction_on u d e = ap (λ o. not (is_some o)) e

pub direction_written : (xs ys : List Token) (d : Direction) → Took direction_of xs d ys →
    Reads direction behind_direction xs (read d ys)
unfolding direction
direction_written xs ys d k =
    there (next_is behind_direction k.is (direction_on k.head d k.value))
    (reads_one direction_of behind_direction xs ys k.head d k.is k.value)

pub direction_none : (xs : List Token) → Lacks direction_of xs → Reads direction behind_direction xs (read Ascending xs)
unfolding direction
direction_none xs lacks =
    right_side (bars_one behind_direction direction_of 0 xs (λ u y a b. lacks.lacks u y a b)) nothing

pub starts_direction : (b : Option Token → Bool) →
    ((u : Token) (d : Direction) → direction_of u ≡ Some d → b (Some u) ≡ true) → Starts b direction b
unfolding direction
starts_direction b h =
    starts_either b b (one direction_of) (gives Ascending) (starts_one b b direction_of h)
    (starts_gives b b Ascending (λ o e. e))

pub spelled_direction : Spelled direction
unfolding direction
spelled_direction = spelled_or_else Ascending (one direction_of)

pub nulls_read : (d : Direction) (xs ys : List Token) (o : Seen Token NullsPlace) → xs ≡ t.Keyword k.Nulls ∷ ys →
    Reads (one nulls_of) any ys o →
    Reads (nulls d) behind_nulls xs o
unfolding nulls
nulls_read d xs ys o e r = there (next_is behind_nulls e nulls_goes_on_nulls) (word_then e (before_any r))

pub nulls_none : (d : Direction) (xs : List Token) (v : NullsPlace) → v ≡ nulls_by d → Misses (t.Keyword k.Nulls) xs →
    Reads (nulls d) behind_nulls xs (read v xs)
unfolding nulls
nulls_none d xs v e miss = left_out_as e miss

pub spelled_nulls : (d : Direction) → Spelled (nulls d)
unfolding nulls
spelled_nulls d = spelled_or_else (nulls_by d) (word k.Nulls (one nulls_of))

pub order_read : (xs ys zs : List Token) (o : Seen Token (List OrderKey)) → xs ≡ t.Keyword k.Order ∷ ys →
    ys ≡ t.Keyword k.By ∷ zs →
    Reads (list_of order_key) (behind_list behind_order_key) zs o → Reads order (behind 14) xs o
unfolding order rank
order_read xs ys zs o e h r =
    there (next_is (behind 14) e refl) (word_then e (word_then h (before order_keys_follow r)))

pub order_no_by : (xs ys : List Token) (l : ℕ) → xs ≡ t.Keyword k.Order ∷ ys → Misses (t.Keyword k.By) ys →
    l ≡ length ys →
    Reads order (behind 14) xs (failed (Syntax l))
unfolding order rank
order_no_by xs ys l e miss q =
    there (next_is (behind 14) e refl) (word_then e (no_word (spelled_list order_key spelled_order_key) miss q))

pub order_none : (xs : List Token) (v : List OrderKey) → v ≡ [] → Misses (t.Keyword k.Order) xs →
    Reads order (behind 14) xs (read v xs)
unfolding order
order_none xs v e miss = left_out_as e miss

pub spelled_order : Spelled order
unfolding order
spelled_order = spelled_or_else [] (word k.Order (word k.By (list_of order_key)))

pub spelled_limit : Spelled limit
unfolding limit
spelled_limit = spelled_optional (word k.Limit (one integer_of))
