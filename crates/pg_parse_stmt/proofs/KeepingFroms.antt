-- FROM and USING lists: what is read is within the limit.
use Rattle.std.proofs.Common.{◌≡◌, ◌≤◌, ◌+◌, ℕ, suc, Bool, true, ◌&&◌, List, [], ◌∷◌, ◌++◌, length, refl, arith, nat_le, is_none, le-leb}
use Rattle.pg_parse_stmt.proofs.Common.{list_all, sources, Lang, bind, Keeps, keeps_gives, keeps_more, keeps_reaches, Takes, takes_token, takes_one, takes_either, Token, is_token, name_of, none_or, is_expr, is_table, are_joined, is_subselect, is_source, are_sources, sources_or_none, or_else, SourceRule, sources_in, joined, alone, linked, next_source, from_of, name, table_named, table_ref, table_source, one_source, subselect, values_source, query_source, bracketed, source, sources_of, from, Source, Joined, Subselect, Link}
use Rattle.pg_lexer.specs.declared.sign.Sign.TheVariants as s
use Rattle.pg_parse_stmt.specs.declared.tree.Source.TheVariants as source_of
use Rattle.pg_parse_stmt.specs.declared.word.Link.TheVariants as link
use Rattle.pg_lexer.specs.declared.token.Token.TheVariants.{Sign}
use Rattle.pg_parse_stmt.proofs.Froms.{sources_more, tables_counted}
use Rattle.pg_parse_stmt.proofs.WritingFroms.{three_parts}
use Rattle.pg_parse_stmt.proofs.Keeping.{free_one, Reading, both, all_and_one, reading_gives, reading_word, reading_sign, reading_bind, reading_either, reading_less, reading_in_brackets}
use Rattle.pg_parse_stmt.proofs.KeepingParts.{reading_names, reading_alias, reading_table_ref, reading_expr, reading_condition, reading_items, reading_tuples}

-- a list of sources, by a rule whose sources pass a test and are at most 8 with those before and inside them
module _ {S : Type 0} (is_one : S → Bool) (count : S → ℕ) (rule : SourceRule S)
    (each : (n : ℕ) → Keeps is_token (rule n) (λ x. (is_one x ≡ true) × (n + count x ≤ 8))) where
  abbrev is_joined : Joined S → Bool
  is_joined j = is_one j.source && none_or is_expr j.on

  abbrev Joins : ℕ → Joined S → Type 0
  Joins n j = (is_joined j ≡ true) × (n + count j.source ≤ 8)

  abbrev Begins : ℕ → Joined S → Type 0
  Begins n j = (is_none j.on ≡ true) × Joins n j

  -- b of the n sources before the list are counted by its test
  abbrev pub Listed : ℕ → ℕ → List (Joined S) → Type 0
  Listed b n list = (are_joined is_one count b list ≡ true) × (n + sources_in count list ≤ 8)

  reading_alone : (n : ℕ) → Keeps is_token (alone (rule n)) (Begins n)
  unfolding alone
  reading_alone n = reading_bind (each n) (λ x h. keeps_gives is_token (Begins n) _ (refl, (both h.0 refl, h.1)))

  reading_joined : (n : ℕ) → Keeps is_token (joined (rule n)) (Joins n)
  unfolding joined
  reading_joined n =
      reading_bind (each n)
      (λ x h. reading_word (reading_bind reading_expr (λ e g. keeps_gives is_token (Joins n) _ (both h.0 g, h.1))))

  reading_linked : (n : ℕ) (l : Link) → Keeps is_token (linked (rule n) l) (Joins n)
  unfolding linked
  reading_linked n link.Comma = reading_less (reading_alone n) (λ j h. h.1)
  reading_linked n link.Inner = reading_word (reading_joined n)
  reading_linked n link.Join = reading_joined n

  listed_first : (b n : ℕ) (j : Joined S) → b ≤ n → Begins n j → Listed b n (j ∷ [])
  listed_first b n j fewer h =
      let low = h.1.1 in (
        both (both h.0 (both h.1.0 refl)) (le-leb (b + sources_in count (j ∷ [])) 8 (omega (arith, low, fewer))),
        omega (arith, low),
      )

  listed_more : (b n : ℕ) (list : List (Joined S)) (j : Joined S) → b ≤ n → Listed b n list →
      Joins (n + sources_in count list) j → Listed b n (list ++ j ∷ [])
  listed_more b n [] j fewer h g = absurd (cc h.0)
  listed_more b n (i ∷ list) j fewer h g =
      let within = nat_le (b + sources_in count (i ∷ list)) 8 in
      let tests = three_parts (is_none i.on) (list_all is_joined (i ∷ list)) within h.0 in
      let low = g.1 in
      let counted = sources_more count (i ∷ list) j in (
        both (both tests.0 (all_and_one is_joined (i ∷ list) j tests.1 g.0))
            (le-leb (b + sources_in count ((i ∷ list) ++ j ∷ [])) 8 (omega (arith, low, counted, fewer))),
        omega (arith, low, counted),
      )

  pub reading_from_of : (b n : ℕ) → b ≤ n → Keeps is_token (from_of rule count n) (Listed b n)
  unfolding from_of next_source
  reading_from_of b n fewer =
      reading_bind (reading_alone n)
      (λ x h. keeps_more is_token (Listed b n) (next_source rule count n)
      (λ list g. reading_bind free_one
      (λ l u. reading_bind (reading_linked (n + sources_in count list) l)
      (λ j q. keeps_gives is_token (Listed b n) (list ++ j ∷ []) (listed_more b n list j fewer g q))))
      (x ∷ []) (listed_first b n x fewer h))

-- tables
takes_bind : {X V : Type 0} {L : Lang Token X} {K : X → Lang Token V} → Takes L → Takes (bind L K)
takes_bind a = record { takes = λ s v z l. a.takes s l.0 l.1 l.2 }

takes_table_ref : Takes table_ref
unfolding table_ref name
takes_table_ref = takes_one name_of table_named

reading_table_source : (n : ℕ) → Keeps is_token (table_source n) (λ x. (is_table x ≡ true) × (n + one_source x ≤ 8))
unfolding table_source
reading_table_source n =
    keeps_reaches is_token _ sources (suc n) table_ref takes_table_ref
    (λ low. reading_less reading_table_ref (λ x h. (h, omega (arith, low))))

-- a subselect, where n sources begin before it and its test counts b of them
abbrev Selects : ℕ → ℕ → Subselect → Type 0
Selects b n q = (is_subselect b q ≡ true) × (n + length q.from ≤ 8)

pub reading_subselect : (b n : ℕ) → b ≤ n → Keeps is_token (subselect n) (Selects b n)
unfolding subselect
reading_subselect b n fewer =
    reading_bind reading_items
    (λ i h. reading_word (reading_bind (reading_from_of is_table one_source table_source reading_table_source b n fewer)
    (λ f g. reading_bind reading_condition
    (λ c q.
    let low = g.1 in
    let counted = tables_counted f in
    keeps_gives is_token (Selects b n) _ (both (both h g.0) q, omega (arith, low, counted))))))

-- sources
abbrev Counted : ℕ → Source → Type 0
Counted n x = (is_source x ≡ true) × (n + sources_of x ≤ 8)

reading_values_source : (n : ℕ) → suc n ≤ 8 → Keeps is_token values_source (Counted n)
unfolding values_source
reading_values_source n low =
    reading_bind reading_tuples
    (λ r h. reading_sign (reading_bind reading_alias
    (λ a g. reading_bind (reading_in_brackets reading_names)
    (λ c q. keeps_gives is_token (Counted n) _ (both (both h g) q, omega (arith, low))))))

reading_query_source : (n : ℕ) → Keeps is_token (query_source (suc n)) (Counted n)
unfolding query_source
reading_query_source n =
    reading_bind (reading_subselect 1 (suc n) (omega arith))
    (λ q h. reading_sign (reading_bind reading_alias
    (λ a g. let low = h.1 in keeps_gives is_token (Counted n) _ (both h.0 g, omega (arith, low)))))

pub reading_source : (n : ℕ) → Keeps is_token (source n) (Counted n)
unfolding source bracketed
reading_source n =
    keeps_reaches is_token (Counted n) sources (suc n) _ (takes_either _ _ (takes_bind takes_table_ref)
    (takes_token (Sign s.Open) _))
    (λ low. reading_either
    (reading_bind reading_table_ref (λ t h. keeps_gives is_token (Counted n) (source_of.Table t)
    (h, omega (arith, low))))
    (reading_sign (reading_either (reading_word (reading_values_source n low))
    (reading_word (reading_query_source n)))))

pub reading_from : Reading from are_sources
unfolding from
reading_from =
    reading_less (reading_from_of is_source sources_of source reading_source 0 0 (omega arith)) (λ list h. h.0)

-- sources, or none where the list is left out
some_sources : (list : List (Joined Source)) → are_sources list ≡ true → sources_or_none list ≡ true
some_sources [] h = absurd (cc h)
some_sources (j ∷ list) h = h

pub reading_no_or_sources : {L : Lang Token (List (Joined Source))} → Reading L are_sources →
    Reading (or_else [] L) sources_or_none
reading_no_or_sources a = reading_either (reading_less a some_sources) (reading_gives refl)
