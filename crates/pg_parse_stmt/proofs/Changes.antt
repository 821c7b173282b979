-- What a WHEN clause does: a change of a row, or an addition of one.
use Rattle.std.proofs.Common.{◌≡◌, ◌∷◌, ℕ, List, length}
use Rattle.pg_parse_stmt.proofs.Common.{Fault, Syntax, one, Misses, Seen, read, failed, Reads, Spelled, spelled_gives, spelled_token, spelled_bind, bars_token, leads_left, Token, any, behind_sets, word, spelled_left, tuple, sets, change_behind, change, addition_insert, addition_nothing, addition, spelled_sets, spelled_change, change_of, ChangeWord, Assignment, Change, Addition}
use Rattle.pg_lexer.specs.declared.keyword.Keyword.TheVariants as k
use Rattle.pg_lexer.specs.declared.token.Token.TheVariants as t
use Rattle.pg_parse_stmt.specs.declared.word.ChangeWord.TheVariants as change_word
use Rattle.pg_parse_stmt.specs.declared.tree.Change.TheVariants as change_tree
use Rattle.pg_parse_stmt.specs.declared.tree.Addition.TheVariants as addition_of
use Rattle.pg_parse_stmt.proofs.Forms.{nothing, word_then, no_word, word_alone, no_word_alone, part_then, no_part, made_read, made_failed, spelled_made, other}
use Rattle.pg_parse_stmt.proofs.PartRules.{spelled_addition_insert}

module _ (xs ys zs : List Token) (l : ℕ) where
  -- a change, by its first word
  pub change_no_set : Misses (t.Keyword k.Set) xs → l ≡ length xs →
      Reads (change_behind change_word.Update) behind_sets xs (failed (Syntax l))
  unfolding change_behind
  change_no_set miss q = no_word (spelled_made spelled_sets) miss q

  pub change_no_sets : (f : Fault) → xs ≡ t.Keyword k.Set ∷ ys → Reads sets behind_sets ys (failed f) →
      Reads (change_behind change_word.Update) behind_sets xs (failed f)
  unfolding change_behind
  change_no_sets f e r = word_then e (made_failed r)

  pub change_sets : (a : List Assignment) → xs ≡ t.Keyword k.Set ∷ ys → Reads sets behind_sets ys (read a zs) →
      Reads (change_behind change_word.Update) behind_sets xs (read (change_tree.Update a) zs)
  unfolding change_behind
  change_sets a e r = word_then e (made_read r)

  pub change_delete : Reads (change_behind change_word.Delete) behind_sets xs (read change_tree.Delete xs)
  unfolding change_behind
  change_delete = nothing

  pub change_nothing : xs ≡ t.Keyword k.Nothing ∷ ys →
      Reads (change_behind change_word.Do) behind_sets xs (read change_tree.Nothing ys)
  unfolding change_behind
  change_nothing e = word_alone e

  pub change_no_nothing : Misses (t.Keyword k.Nothing) xs → l ≡ length xs →
      Reads (change_behind change_word.Do) behind_sets xs (failed (Syntax l))
  unfolding change_behind
  change_no_nothing miss q = no_word_alone miss q

  -- DO NOTHING
  pub addition_nothing_no_do : Misses (t.Keyword k.Do) xs → l ≡ length xs →
      Reads addition_nothing any xs (failed (Syntax l))
  unfolding addition_nothing
  addition_nothing_no_do miss q =
      no_word (spelled_token (t.Keyword k.Nothing) _ (spelled_gives addition_of.Nothing)) miss q

  pub addition_nothing_no_word : xs ≡ t.Keyword k.Do ∷ ys → Misses (t.Keyword k.Nothing) ys → l ≡ length ys →
      Reads addition_nothing any xs (failed (Syntax l))
  unfolding addition_nothing
  addition_nothing_no_word e miss q = word_then e (no_word_alone miss q)

  pub addition_nothing_whole : xs ≡ t.Keyword k.Do ∷ ys → ys ≡ t.Keyword k.Nothing ∷ zs →
      Reads addition_nothing any xs (read addition_of.Nothing zs)
  unfolding addition_nothing
  addition_nothing_whole e h = word_then e (word_alone h)

spelled_change_behind : (w : ChangeWord) → Spelled (change_behind w)
unfolding change_behind
spelled_change_behind change_word.Update = spelled_token (t.Keyword k.Set) _ (spelled_made spelled_sets)
spelled_change_behind change_word.Delete = spelled_gives change_tree.Delete
spelled_change_behind change_word.Do = spelled_token (t.Keyword k.Nothing) _ (spelled_gives change_tree.Nothing)

pub change_read : (xs ys : List Token) (w : ChangeWord) (o : Seen Token Change) →
    Reads (one change_of) any xs (read w ys) → Reads (change_behind w) behind_sets ys o → Reads change behind_sets xs o
unfolding change
change_read xs ys w o r q = part_then r q

pub change_failed : (xs : List Token) (f : Fault) → Reads (one change_of) any xs (failed f) →
    Reads change behind_sets xs (failed f)
unfolding change
change_failed xs f r = no_part spelled_change_behind r

pub spelled_the_change : Spelled change
unfolding change
spelled_the_change = spelled_bind (one change_of) change_behind spelled_change spelled_change_behind

-- INSERT ["(" names ")"] VALUES tuple | DO NOTHING
pub spelled_addition : Spelled addition
unfolding addition
spelled_addition = spelled_left addition_insert addition_nothing spelled_addition_insert

pub addition_left : (xs ys : List Token) (o : Seen Token Addition) → xs ≡ t.Keyword k.Insert ∷ ys →
    Reads addition_insert any xs o → Reads addition any xs o
unfolding addition addition_nothing
addition_left xs ys o e r =
    (leads_left addition_insert _ any xs (bars_token any (t.Keyword k.Do) _ 0 xs (λ n. cc (e, n)))).to o r

pub addition_right : (xs : List Token) (o : Seen Token Addition) → Misses (t.Keyword k.Insert) xs →
    Reads addition_nothing any xs o → Reads addition any xs o
unfolding addition addition_insert
addition_right xs o miss r = other miss r

-- what a change answers, by its word
pub ruleset changes = (change_no_set, change_no_sets, change_sets, change_delete, change_nothing, change_no_nothing)
