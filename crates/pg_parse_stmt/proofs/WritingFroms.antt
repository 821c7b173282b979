-- FROM and USING lists within the limit, written before any tokens.
use Rattle.std.proofs.Common.{◌≡◌, ◌≤◌, ◌+◌, ℕ, suc, Bool, true, ◌&&◌, List, [], ◌∷◌, ◌++◌, length, Option, Some, None, refl, sym, subst, append_assoc, append-nil, arith, nat_le, is_none, leb-true}
use Rattle.pg_parse_stmt.proofs.Common.{list_all, and_parts, sources, one, more, expr, is_free_name, Tree, in_brackets, link_of, none_or, some_and_all, is_expr, are_names, is_item, is_table, are_joined, is_subselect, are_rows, is_source, are_sources, SourceRule, sources_in, joined, alone, linked, next_source, from_of, table_ref, table_source, one_source, names, alias, items, condition, tuples, subselect, values_source, query_source, bracketed, source, sources_of, from, TableRef, Source, Joined, Subselect}
use Rattle.pg_lexer.specs.declared.keyword.Keyword.TheVariants as k
use Rattle.pg_lexer.specs.declared.sign.Sign.TheVariants as s
use Rattle.pg_lexer.specs.declared.token.Token.TheVariants as token_of
use Rattle.pg_parse_stmt.specs.declared.tree.Source.TheVariants as source_of
use Rattle.pg_parse_stmt.specs.declared.word.Link.TheVariants as link
use Rattle.pg_parse_stmt.specs.declared.tree.ValuesSource.{ValuesSource}
use Rattle.pg_parse_stmt.specs.declared.tree.QuerySource.{QuerySource}
use Rattle.pg_parse_stmt.proofs.Froms.{sources_more, tables_counted}
use Rattle.pg_parse_stmt.proofs.Writing.{Writes, writes_gives, writes_word, writes_sign, writes_one, writes_bind, writes_left, writes_right, writes_reaches, writes_no_more, writes_more, writes_in_brackets}
use Rattle.pg_parse_stmt.proofs.WritingParts.{writes_names, writes_alias, writes_table_ref, writes_expr, writes_condition, writes_items, writes_tuples}

-- three tests that all hold
pub three_parts : (a b c : Bool) → (a && b && c) ≡ true → (a ≡ true) × (b ≡ true) × (c ≡ true)
three_parts a b c h =
    let last = and_parts (a && b) c h in
    let first = and_parts a b last.0 in
    (first.0, first.1, last.1)

-- a list of sources, by a rule that writes each source which is at most the eighth with those inside it
module _ {S : Type 0} (is_one : S → Bool) (count : S → ℕ) (rule : SourceRule S)
    (each : (n : ℕ) (x : S) → is_one x ≡ true → n + count x ≤ 8 → Writes (rule n) x) where
  is_joined : Joined S → Bool
  is_joined j = is_one j.source && none_or is_expr j.on

  joined_tree : S → Option Tree → Joined S
  joined_tree x o = record { source = x; on = o }

  writes_alone : (n : ℕ) (x : S) → is_one x ≡ true → n + count x ≤ 8 → Writes (alone (rule n)) (joined_tree x None)
  unfolding alone joined_tree
  writes_alone n x h low = writes_bind (rule n) _ x _ (each n x h low) (writes_gives (joined_tree x None))

  writes_on : (n : ℕ) (x : S) (e : Tree) → is_one x ≡ true → is_expr e ≡ true → n + count x ≤ 8 →
      Writes (joined (rule n)) (joined_tree x (Some e))
  unfolding joined joined_tree
  writes_on n x e h g low =
      writes_bind (rule n) _ x _ (each n x h low)
      (writes_word k.On _ _ (writes_bind expr _ e _ (writes_expr e g) (writes_gives (joined_tree x (Some e)))))

  writes_next : (n : ℕ) (list : List (Joined S)) (x : S) (o : Option Tree) → is_one x ≡ true →
      none_or is_expr o ≡ true →
      n + sources_in count list + count x ≤ 8 → Writes (next_source rule count n list) (list ++ joined_tree x o ∷ [])
  unfolding next_source linked link_of
  writes_next n list x None h g low =
      writes_bind (one link_of) _ link.Comma _ (writes_one link_of (token_of.Sign s.Comma) link.Comma refl refl)
      (writes_bind (alone (rule (n + sources_in count list))) _ (joined_tree x None) _ (writes_alone _ x h low)
      (writes_gives (list ++ joined_tree x None ∷ [])))
  writes_next n list x (Some e) h g low =
      writes_bind (one link_of) _ link.Join _ (writes_one link_of (token_of.Keyword k.Join) link.Join refl refl)
      (writes_bind (joined (rule (n + sources_in count list))) _ (joined_tree x (Some e)) _ (writes_on _ x e h g low)
      (writes_gives (list ++ joined_tree x (Some e) ∷ [])))

  writes_further : (n : ℕ) (js list : List (Joined S)) → list_all is_joined js ≡ true →
      n + sources_in count list + sources_in count js ≤ 8 → Writes (more (next_source rule count n) list) (list ++ js)
  unfolding is_joined joined_tree
  writes_further n [] list h low =
      subst (λ q. Writes (more (next_source rule count n) list) q) (sym (append-nil list)) (writes_no_more _ list)
  writes_further n (j ∷ js) list h low =
      let parts = and_parts (is_joined j) (list_all is_joined js) h in
      let tests = and_parts (is_one j.source) (none_or is_expr j.on) parts.0 in
      let more_sources = sources_more count list j in
      subst (λ q. Writes (more (next_source rule count n) list) q) (append_assoc list (j ∷ []) js)
      (writes_more (next_source rule count n) list (list ++ j ∷ []) _
      (writes_next n list j.source j.on tests.0 tests.1 (omega (arith, low)))
      (writes_further n js (list ++ j ∷ []) parts.1 (omega (arith, low, more_sources))))

  -- the first has no condition
  writes_first : (n : ℕ) (x : S) (o : Option Tree) (js : List (Joined S)) → is_none o ≡ true →
      is_one x ≡ true →
      list_all is_joined js ≡ true → n + count x + sources_in count js ≤ 8 →
      Writes (from_of rule count n) (joined_tree x o ∷ js)
  unfolding from_of joined_tree
  writes_first n x None js g h a low =
      writes_bind (alone (rule n)) _ (joined_tree x None) _ (writes_alone n x h (omega (arith, low)))
      (writes_further n js (joined_tree x None ∷ []) a (omega (arith, low)))
  writes_first n x (Some e) js g h a low = absurd (cc g)

  pub writes_from_of : (b n : ℕ) (js : List (Joined S)) → are_joined is_one count b js ≡ true →
      n + sources_in count js ≤ 8 → Writes (from_of rule count n) js
  unfolding is_joined joined_tree
  writes_from_of b n [] h low = absurd (cc h)
  writes_from_of b n (j ∷ js) h low =
      let tests =
      three_parts (is_none j.on) (list_all is_joined (j ∷ js))
      (nat_le (b + sources_in count (j ∷ js)) 8) h in
      let parts = and_parts (is_joined j) (list_all is_joined js) tests.1 in
      writes_first n j.source j.on js tests.0 (and_parts (is_one j.source) (none_or is_expr j.on) parts.0).0 parts.1
      (omega (arith, low))

-- a list within the limit
pub joined_bound : {S : Type 0} (is_one : S → Bool) (count : S → ℕ) (b : ℕ) (js : List (Joined S)) →
    are_joined is_one count b js ≡ true → b + sources_in count js ≤ 8
joined_bound is_one count b [] h = absurd (cc h)
joined_bound is_one count b (j ∷ js) h =
    leb-true (b + sources_in count (j ∷ js)) 8
    (and_parts (is_none j.on && list_all (λ x. is_one x.source && none_or is_expr x.on) (j ∷ js)) _ h).1

-- tables
writes_table_source : (n : ℕ) (u : TableRef) → is_table u ≡ true → n + one_source u ≤ 8 → Writes (table_source n) u
unfolding table_source
writes_table_source n u h low =
    let within : suc n ≤ 8 = omega (arith, low) in
    writes_reaches sources (suc n) table_ref u within (writes_table_ref u h)

-- a subselect that passes the test with b sources before it, behind n others
pub writes_subselect : (b n : ℕ) (q : Subselect) → is_subselect b q ≡ true → n + length q.from ≤ 8 →
    Writes (subselect n) q
unfolding subselect
writes_subselect b n q h low =
    let tests =
    three_parts (some_and_all is_item q.items) (are_joined is_table one_source b q.from)
    (none_or is_expr q.condition) h in
    let counted = tables_counted q.from in
    writes_bind items _ q.items q (writes_items q.items tests.0)
    (writes_word k.From _ q (writes_bind (from_of table_source one_source n) _ q.from q
    (writes_from_of is_table one_source table_source writes_table_source b n q.from tests.1
    (omega (arith, low, counted)))
    (writes_bind condition _ q.condition q (writes_condition q.condition tests.2) (writes_gives q))))

-- its tables are within the limit too
pub subselect_bound : (b : ℕ) (q : Subselect) → is_subselect b q ≡ true → b + length q.from ≤ 8
subselect_bound b q h =
    let tests =
    three_parts (some_and_all is_item q.items) (are_joined is_table one_source b q.from)
    (none_or is_expr q.condition) h in
    let bound = joined_bound is_table one_source b q.from tests.1 in
    let counted = tables_counted q.from in
    omega (arith, bound, counted)

-- sources
writes_values_source : (v : ValuesSource) → is_source (source_of.Values v) ≡ true →
    Writes values_source (source_of.Values v)
unfolding values_source
writes_values_source v h =
    let tests = three_parts (are_rows v.rows) (is_free_name v.alias) (are_names v.columns) h in
    writes_bind tuples _ v.rows _ (writes_tuples v.rows tests.0)
    (writes_sign s.Close _ _ (writes_bind alias _ v.alias _ (writes_alias v.alias tests.1)
    (writes_bind (in_brackets names) _ v.columns _ (writes_in_brackets names v.columns (writes_names v.columns tests.2))
    (writes_gives (source_of.Values v)))))

writes_query_source : (n : ℕ) (q : QuerySource) → is_source (source_of.Query q) ≡ true → n + length q.query.from ≤ 8 →
    Writes (query_source n) (source_of.Query q)
unfolding query_source
writes_query_source n q h low =
    let parts = and_parts (is_subselect 1 q.query) (is_free_name q.alias) h in
    writes_bind (subselect n) _ q.query _ (writes_subselect 1 n q.query parts.0 low)
    (writes_sign s.Close _ _ (writes_bind alias _ q.alias _ (writes_alias q.alias parts.1)
    (writes_gives (source_of.Query q))))

pub writes_source : (n : ℕ) (x : Source) → is_source x ≡ true → n + sources_of x ≤ 8 → Writes (source n) x
unfolding source bracketed
writes_source n (source_of.Table u) h low =
    let within : suc n ≤ 8 = omega (arith, low) in
    writes_reaches sources (suc n) _ _ within
    (writes_left _ _ _ (writes_bind table_ref _ u _ (writes_table_ref u h) (writes_gives (source_of.Table u))))
writes_source n (source_of.Values v) h low =
    let within : suc n ≤ 8 = omega (arith, low) in
    writes_reaches sources (suc n) _ _ within
    (writes_right _ _ _ (writes_sign s.Open _ _ (writes_left _ _ _
    (writes_word k.Values _ _ (writes_values_source v h)))))
writes_source n (source_of.Query q) h low =
    let within : suc n ≤ 8 = omega (arith, low) in
    let inside : suc n + length q.query.from ≤ 8 = omega (arith, low) in
    writes_reaches sources (suc n) _ _ within
    (writes_right _ _ _ (writes_sign s.Open _ _ (writes_right _ _ _
    (writes_word k.Select _ _ (writes_query_source (suc n) q h inside)))))

pub writes_from : (js : List (Joined Source)) → are_sources js ≡ true → Writes from js
unfolding from
writes_from js h =
    writes_from_of is_source sources_of source writes_source 0 0 js h (joined_bound is_source sources_of 0 js h)
