-- FOR and what stands behind it
use Rattle.std.proofs.Common.{◌≡◌, ◌∷◌, ℕ, Bool, true, List, length, Option, Some}
use Rattle.pg_parse_stmt.proofs.Common.{Fault, Syntax, gives, one, either, Misses, Seen, read, failed, Reads, Starts, Spelled, starts_gives, starts_token, starts_either, spelled_gives, spelled_token, spelled_bind, Token, any, behind_wait, word, spelled_or_else, spelled_optional, name, strength_behind, strength, of_table, lock_wait, locked, locking, spelled_strength_behind, strength_of, LockStrength}
use Rattle.pg_parse_stmt.proofs.Forms.{nothing, word_then, no_word, word_alone, no_word_alone, part_then, no_part, one_word, other, there, both_left_out, next_is}
use Rattle.pg_lexer.specs.declared.keyword.Keyword.TheVariants as k
use Rattle.pg_lexer.specs.declared.token.Token.TheVariants as t
use Rattle.pg_parse_stmt.specs.declared.tree.LockStrength.TheVariants as lock
use Rattle.pg_parse_stmt.specs.declared.tree.LockWait.TheVariants as wait_of
use Rattle.pg_parse_stmt.specs.Spellings.{spelled_strength as spelled_strength_word}
use Rattle.pg_parse_stmt.proofs.Following.{nowait_goes_on_wait, skip_goes_on_wait}

module _ (xs ys zs : List Token) (l : ℕ) where
  -- a strength, by its first word
  pub key_share : xs ≡ t.Keyword k.Share ∷ ys → Reads (strength_behind lock.KeyShare) any xs (read lock.KeyShare ys)
  unfolding strength_behind
  key_share e = word_alone e

  pub key_no_share : Misses (t.Keyword k.Share) xs → l ≡ length xs →
      Reads (strength_behind lock.KeyShare) any xs (failed (Syntax l))
  unfolding strength_behind
  key_no_share miss q = no_word_alone miss q

  pub share : Reads (strength_behind lock.Share) any xs (read lock.Share xs)
  unfolding strength_behind
  share = nothing

  pub update : Reads (strength_behind lock.Update) any xs (read lock.Update xs)
  unfolding strength_behind
  update = nothing

  pub no_key_update : xs ≡ t.Keyword k.Key ∷ ys → ys ≡ t.Keyword k.Update ∷ zs →
      Reads (strength_behind lock.NoKeyUpdate) any xs (read lock.NoKeyUpdate zs)
  unfolding strength_behind
  no_key_update e h = word_then e (word_alone h)

  pub no_key : Misses (t.Keyword k.Key) xs → l ≡ length xs →
      Reads (strength_behind lock.NoKeyUpdate) any xs (failed (Syntax l))
  unfolding strength_behind
  no_key miss q = no_word (spelled_token (t.Keyword k.Update) _ (spelled_gives lock.NoKeyUpdate)) miss q

  pub no_update : xs ≡ t.Keyword k.Key ∷ ys → Misses (t.Keyword k.Update) ys → l ≡ length ys →
      Reads (strength_behind lock.NoKeyUpdate) any xs (failed (Syntax l))
  unfolding strength_behind
  no_update e miss q = word_then e (no_word_alone miss q)

pub strength_read : (xs ys : List Token) (v : LockStrength) (o : Seen Token LockStrength) →
    Reads (one strength_of) any xs (read v ys) → Reads (strength_behind v) any ys o → Reads strength any xs o
unfolding strength
strength_read xs ys v o r q = part_then r q

pub strength_failed : (xs : List Token) (f : Fault) → Reads (one strength_of) any xs (failed f) →
    Reads strength any xs (failed f)
unfolding strength
strength_failed xs f r = no_part spelled_strength_behind r

pub spelled_strength : Spelled strength
unfolding strength
spelled_strength = spelled_bind (one strength_of) strength_behind spelled_strength_word spelled_strength_behind

pub spelled_of : Spelled of_table
unfolding of_table
spelled_of = spelled_optional (word k.Of (name))

module _ (xs ys zs : List Token) (l : ℕ) where
  pub nowait_read : xs ≡ t.Keyword k.Nowait ∷ ys → Reads lock_wait behind_wait xs (read wait_of.Fail ys)
  unfolding lock_wait
  nowait_read e = there (next_is behind_wait e nowait_goes_on_wait) (one_word (λ h. cc h) e nothing)

  -- SKIP stands there, so NOWAIT does not
  skip_first : xs ≡ t.Keyword k.Skip ∷ ys → Misses (t.Keyword k.Nowait) xs
  skip_first e = record { misses = λ n. cc (e, n) }

  pub skip_read : xs ≡ t.Keyword k.Skip ∷ ys → ys ≡ t.Keyword k.Locked ∷ zs →
      Reads lock_wait behind_wait xs (read wait_of.Skip zs)
  unfolding lock_wait
  skip_read e h =
      there (next_is behind_wait e skip_goes_on_wait) (other (skip_first e) (word_then e (word_alone h)))

  pub skip_failed : xs ≡ t.Keyword k.Skip ∷ ys → Misses (t.Keyword k.Locked) ys → l ≡ length ys →
      Reads lock_wait behind_wait xs (failed (Syntax l))
  unfolding lock_wait
  skip_failed e miss q =
      there (next_is behind_wait e skip_goes_on_wait) (other (skip_first e) (word_then e (no_word_alone miss q)))

  pub wait_read : Misses (t.Keyword k.Nowait) xs → Misses (t.Keyword k.Skip) xs →
      Reads lock_wait behind_wait xs (read wait_of.Wait xs)
  unfolding lock_wait
  wait_read fails miss = both_left_out fails miss

pub spelled_wait : Spelled lock_wait
unfolding lock_wait
spelled_wait =
    spelled_or_else wait_of.Wait (either (word k.Nowait (gives wait_of.Fail))
    (word k.Skip (word k.Locked (gives wait_of.Skip))))

pub starts_wait : (b : Option Token → Bool) → b (Some (t.Keyword k.Nowait)) ≡ true → b (Some (t.Keyword k.Skip)) ≡ true →
    Starts b lock_wait b
unfolding lock_wait
starts_wait b h i =
    starts_either b b (either (word k.Nowait (gives wait_of.Fail)) (word k.Skip (word k.Locked (gives wait_of.Skip))))
    (gives wait_of.Wait)
    (starts_either b b (word k.Nowait (gives wait_of.Fail)) (word k.Skip (word k.Locked (gives wait_of.Skip)))
    (starts_token b b (t.Keyword k.Nowait) (gives wait_of.Fail) h)
    (starts_token b b (t.Keyword k.Skip) (word k.Locked (gives wait_of.Skip)) i))
    (starts_gives b b wait_of.Wait (λ o e. e))

pub spelled_locking : Spelled locking
unfolding locking
spelled_locking = spelled_optional (word k.For (locked))

-- what a strength answers, by its word
pub ruleset strengths = (key_share, key_no_share, share, update, no_key_update, no_key, no_update)
