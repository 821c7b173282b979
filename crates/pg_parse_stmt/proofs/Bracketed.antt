-- Sources in brackets
use Rattle.std.proofs.Common.{◌≡◌, ◌∷◌, ◌+◌, ℕ, suc, true, false, List, [], length, Some, refl, sym, ◌≤◌, arith, subst}
use Rattle.pg_parse_stmt.proofs.Common.{Fault, Syntax, gives, one, bind, either, next, Misses, Seen, read, failed, Reads, Bars, Spelled, spelled_gives, spelled_token, bars_token, bars_one, bars_bind, reads_refused, Token, has, name_of, any, behind_table, word, sign, false≢true, Many, sources, begun_bind, begun_one, begun_token, begun_left, begun_right, bars_reaches, bars_either, spelled_left, spelled_reaches, reads_over, leads_reaches, name, table_named, table_ref, values_source, query_source, bracketed, source, TableRef, Source}
use Rattle.pg_parse_stmt.proofs.Lists.{starts_any}
use Rattle.pg_parse_stmt.proofs.Forms.{word_then, made_read, made_failed, spelled_made, one_word, neither_word, other, left_side, right_side, before_any}
use Rattle.pg_lexer.specs.declared.keyword.Keyword.TheVariants as k
use Rattle.pg_lexer.specs.declared.sign.Sign.TheVariants as s
use Rattle.pg_lexer.specs.declared.token.Token.TheVariants as t
use Rattle.pg_parse_stmt.specs.declared.tree.Source.TheVariants as source_of
use Rattle.pg_parse_stmt.proofs.Tables.{spelled_named, spelled_table_ref, some_name, no_name_first}
use Rattle.pg_parse_stmt.proofs.Elements.{open_is_no_name}
use Rattle.pg_parse_stmt.proofs.SourceRules.{spelled_values_source}

-- behind "("
pub spelled_bracketed : (n : ℕ) → Spelled (bracketed n)
unfolding bracketed
spelled_bracketed n =
    spelled_left (word k.Values values_source) (word k.Select (query_source n))
    (spelled_token (t.Keyword k.Values) values_source spelled_values_source)

module _ (n : ℕ) (xs ys : List Token) where
  bracketed_values : (o : Seen Token Source) → xs ≡ t.Keyword k.Values ∷ ys → Reads values_source any ys o →
      Reads (bracketed n) any xs o
  unfolding bracketed
  bracketed_values o e r = one_word (λ h. cc h) e r

  bracketed_select : (o : Seen Token Source) → Misses (t.Keyword k.Values) xs → xs ≡ t.Keyword k.Select ∷ ys →
      Reads (query_source n) any ys o → Reads (bracketed n) any xs o
  unfolding bracketed
  bracketed_select o miss e r = other miss (word_then e r)

  pub bracketed_values_read : (zs : List Token) (v : Source) → xs ≡ t.Keyword k.Values ∷ ys →
      Reads values_source any ys (read v zs) → Reads (bracketed n) any xs (read v zs)
  bracketed_values_read zs v e r = bracketed_values (read v zs) e r

  pub bracketed_values_failed : (f : Fault) → xs ≡ t.Keyword k.Values ∷ ys → Reads values_source any ys (failed f) →
      Reads (bracketed n) any xs (failed f)
  bracketed_values_failed f e r = bracketed_values (failed f) e r

  pub bracketed_select_read : (zs : List Token) (v : Source) → Misses (t.Keyword k.Values) xs →
      xs ≡ t.Keyword k.Select ∷ ys → Reads (query_source n) any ys (read v zs) → Reads (bracketed n) any xs (read v zs)
  bracketed_select_read zs v miss e r = bracketed_select (read v zs) miss e r

  pub bracketed_select_failed : (f : Fault) → Misses (t.Keyword k.Values) xs → xs ≡ t.Keyword k.Select ∷ ys →
      Reads (query_source n) any ys (failed f) → Reads (bracketed n) any xs (failed f)
  bracketed_select_failed f miss e r = bracketed_select (failed f) miss e r

pub bracketed_neither : (n : ℕ) (xs : List Token) (l : ℕ) → Misses (t.Keyword k.Values) xs →
    Misses (t.Keyword k.Select) xs → l ≡ length xs → Reads (bracketed n) any xs (failed (Syntax l))
unfolding bracketed
bracketed_neither n xs l a b q = neither_word spelled_values_source a b q

bars_table : (xs : List Token) → ((u : Token) (x : List ℕ) → next xs ≡ Some u → name_of u ≡ Some x → ⊥) →
    Bars (bind table_ref (λ v. gives (source_of.Table v))) behind_table 1 xs
unfolding table_ref name
bars_table xs h =
    bars_bind any behind_table (bind (one name_of) table_named) _ 1 xs
    (bars_bind any any (one name_of) table_named 1 xs (bars_one any name_of 0 xs h)
    (λ u. starts_any (table_named u) any))
    (λ u. starts_any (gives (source_of.Table u)) behind_table)

spelled_choice : (n : ℕ) → Spelled (either (bind table_ref (λ v. gives (source_of.Table v))) (sign s.Open (bracketed (suc n))))
spelled_choice n =
    spelled_left _ _ (spelled_made spelled_table_ref)

-- a table
source_table : (n : ℕ) (xs : List Token) (o : Seen Token Source) → suc n ≤ 8 → Misses (t.Sign s.Open) xs →
    Reads (bind table_ref (λ v. gives (source_of.Table v))) behind_table xs o →
    Reads (source n) behind_table xs o
unfolding source
source_table n xs o le miss r =
    (leads_reaches sources (suc n) (either (bind table_ref (λ v. gives (source_of.Table v)))
    (sign s.Open (bracketed (suc n)))) behind_table xs le).to o
    (left_side (bars_token behind_table (t.Sign s.Open) (bracketed (suc n)) 0 xs (λ h. miss.misses h)) r)

pub source_table_read : (n : ℕ) (xs ys : List Token) (v : TableRef) → suc n ≤ 8 → Misses (t.Sign s.Open) xs →
    Reads table_ref behind_table xs (read v ys) →
    Reads (source n) behind_table xs (read (source_of.Table v) ys)
source_table_read n xs ys v le miss r = source_table n xs (read (source_of.Table v) ys) le miss (made_read r)

pub source_table_failed : (n : ℕ) (xs : List Token) (f : Fault) → suc n ≤ 8 → Misses (t.Sign s.Open) xs →
    Reads table_ref behind_table xs (failed f) →
    Reads (source n) behind_table xs (failed f)
source_table_failed n xs f le miss r = source_table n xs (failed f) le miss (made_failed r)

-- in brackets
source_bracket : (n k : ℕ) (xs ys : List Token) (o : Seen Token Source) → suc n ≤ 8 → k ≡ n + 1 →
    xs ≡ t.Sign s.Open ∷ ys → Reads (bracketed k) any ys o →
    Reads (source n) behind_table xs o
unfolding source
source_bracket n k xs ys o le i e r =
    let same : k ≡ suc n = omega (arith, i) in
    (leads_reaches sources (suc n) (either (bind table_ref (λ v. gives (source_of.Table v)))
    (sign s.Open (bracketed (suc n)))) behind_table xs le).to o
    (right_side (bars_table xs (λ u x a b. open_is_no_name u x (cc (a, e)) b))
    (word_then e (before_any (subst (λ j. Reads (bracketed j) any ys o) same r))))

pub source_bracket_read : (n k : ℕ) (xs ys zs : List Token) (v : Source) → suc n ≤ 8 → k ≡ n + 1 →
    xs ≡ t.Sign s.Open ∷ ys → Reads (bracketed k) any ys (read v zs) →
    Reads (source n) behind_table xs (read v zs)
source_bracket_read n k xs ys zs v le i e r = source_bracket n k xs ys (read v zs) le i e r

pub source_bracket_failed : (n k : ℕ) (xs ys : List Token) (f : Fault) → suc n ≤ 8 → k ≡ n + 1 →
    xs ≡ t.Sign s.Open ∷ ys → Reads (bracketed k) any ys (failed f) →
    Reads (source n) behind_table xs (failed f)
source_bracket_failed n k xs ys f le i e r = source_bracket n k xs ys (failed f) le i e r

-- the ninth source
pub source_ninth_bracket : (n : ℕ) (xs ys : List Token) (l : ℕ) → 8 ≤ n → xs ≡ t.Sign s.Open ∷ ys → l ≡ length xs →
    Reads (source n) behind_table xs (failed (Many l))
unfolding source
source_ninth_bracket n xs ys l le e q =
    reads_over sources (suc n) (either (bind table_ref (λ v. gives (source_of.Table v))) (sign s.Open (bracketed (suc n)))) behind_table xs ys
    (t.Sign s.Open) l (omega (arith, le)) e
    (begun_right (t.Sign s.Open) (bind table_ref (λ v. gives (source_of.Table v))) (sign s.Open (bracketed (suc n)))
    (begun_token (t.Sign s.Open) (bracketed (suc n)) (spelled_bracketed (suc n)))) q

pub source_ninth_table : (n : ℕ) (xs : List Token) (l : ℕ) → 8 ≤ n → true ≡ has name_of (next xs) → l ≡ length xs →
    Reads (source n) behind_table xs (failed (Many l))
unfolding source table_ref name has
source_ninth_table n [] l le h q = absurd (false≢true (sym h))
source_ninth_table n (u ∷ ys) l le h q =
    let v = some_name u (name_of u) refl h in
    reads_over sources (suc n) (either (bind (bind (one name_of) table_named) (λ v. gives (source_of.Table v)))
    (sign s.Open (bracketed (suc n)))) behind_table (u ∷ ys) ys u l (omega (arith, le)) refl
    (begun_left u (bind (bind (one name_of) table_named) (λ v. gives (source_of.Table v))) (sign s.Open (bracketed (suc n)))
    (begun_bind u (bind (one name_of) table_named) (λ v. gives (source_of.Table v))
    (begun_bind u (one name_of) table_named (begun_one name_of u v.0 v.1) spelled_named) (λ v. spelled_gives (source_of.Table v)))) q

pub source_nothing : (n : ℕ) (xs : List Token) (l : ℕ) → Misses (t.Sign s.Open) xs → false ≡ has name_of (next xs) →
    l ≡ length xs →
    Reads (source n) behind_table xs (failed (Syntax l))
unfolding source
source_nothing n xs l miss h q =
    let lacks = no_name_first xs h in
    reads_refused (source n) behind_table xs l
    (bars_reaches behind_table sources (suc n) (either (bind table_ref (λ v. gives (source_of.Table v)))
    (sign s.Open (bracketed (suc n)))) 1 xs
    (bars_either behind_table (bind table_ref (λ v. gives (source_of.Table v))) (sign s.Open (bracketed (suc n))) 1 xs
    (bars_table xs (λ u y a b. lacks.lacks u y a b)) (bars_token behind_table (t.Sign s.Open) (bracketed (suc n)) 0 xs
    (λ h. miss.misses h))))
    (spelled_reaches sources (suc n) (either (bind table_ref (λ v. gives (source_of.Table v))) (sign s.Open (bracketed (suc n))))
    (spelled_choice n)) q

-- what a source in brackets answers
pub ruleset brackets = (bracketed_values_read, bracketed_values_failed, bracketed_select_read, bracketed_select_failed, bracketed_neither)

-- what a source answers
pub ruleset each_source = (source_table_read, source_table_failed, source_bracket_read, source_bracket_failed)
