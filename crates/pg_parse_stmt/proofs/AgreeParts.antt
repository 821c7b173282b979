-- One reading of the parts of statements: names, conditions, items, rows, and the sources behind FROM.
use Rattle.std.proofs.Common.{◌≡◌, ◌∷◌, ◌++◌, ◌+◌, ℕ, suc, Bool, true, false, List, [], Option, Some, None, refl, sym, ◌∙◌, subst, inl, inr, ◌⊎◌, leb}
use Rattle.pg_parse_stmt.proofs.Common.{and_from, next, Reads, IsRead, read, Lang, token, one, bind, Limit, sources, Agree, agree_less, agree_token, agree_one, agree_reaches, reads_one, Starts, starts_token, starts_one, starts_either, Token, spelling, has, behind_factor, behind_product, behind_sum, behind_concatenation, behind_comparison, behind_predicate, behind_conjunction, behind_expr, expr, name_of, or_op, and_op, compare_op, concat_op, sum_op, product_op, Tree, any, is_word, is_open, behind_as, behind_columns, behind_item, BeginsAllOf, word, or_else, optional, list_of, in_brackets, name, names, alias, table_named, table_ref, condition, as_name, named_expr, all_of, item, items, returning, tuple, tuples, assignment, sets, element, elements, columns, joined, alone, linked, SourceRule, sources_in, next_source, from_of, table_source, one_source, subselect, values_source, query_source, bracketed, source, sources_of, from, bare_name_of, link_of, Item, Joined, Link, rank, behind}
use Rattle.pg_lexer.specs.declared.keyword.Keyword.TheVariants as k
use Rattle.pg_lexer.specs.declared.sign.Sign.TheVariants as s
use Rattle.pg_lexer.specs.declared.token.Token.TheVariants as t
use Rattle.pg_parse_stmt.specs.declared.tree.Item.TheVariants as item_of
use Rattle.pg_parse_stmt.specs.declared.word.Link.TheVariants as link
use Rattle.pg_parse_expr.proofs.Unambiguous.{expr_agrees}
use Rattle.pg_parse_stmt.proofs.Agreements.{outside, between, starts_first, starts_has, deeper, Single, single, loosened, single_list, Tail, tail_gives, tail_token, tail_optional, agree_rule, apart_flip, apart_token, apart_outside, agree_free, agree_made, agree_choice, agree_words, agree_or, agree_or_word, agree_optional, agree_optional_word, agree_brackets, agree_repeat}
use Rattle.pg_parse_stmt.proofs.Stars.{item_all, item_all_of}

-- names
pub agree_name : Agree name name any
unfolding name
agree_name = agree_one any name_of

agree_names : Single 11 names
unfolding names
agree_names = single_list name (single 10 name agree_name)

pub starts_name : {V : Type 0} (f : Option Token → Bool) (K : List ℕ → Lang Token V) →
    Starts (has name_of) (bind name K) f
unfolding name
starts_name f K = starts_first (has name_of) f (one name_of) K (starts_has name_of any)

agree_alias : Agree alias alias any
unfolding alias has bare_name_of
agree_alias =
    agree_choice any (word k.As name) (one bare_name_of) (agree_token any (t.Keyword k.As) name name agree_name)
    (agree_one any bare_name_of)
    (apart_token (has bare_name_of) any (t.Keyword k.As) name (one bare_name_of) refl (starts_has bare_name_of any))

bare_outside : (u : Token) (x : List ℕ) → bare_name_of u ≡ Some x → outside (behind 10) (Some u) ≡ true
unfolding bare_name_of rank
bare_outside (t.Name n) x e = refl
bare_outside _ x e = absurd (cc e)

starts_alias : (g : Option Token → Bool) → Starts (outside (behind 10)) alias g
unfolding alias rank
starts_alias g =
    starts_either (outside (behind 10)) g (word k.As name) (one bare_name_of)
    (starts_token (outside (behind 10)) g (t.Keyword k.As) name refl)
    (starts_one (outside (behind 10)) g bare_name_of bare_outside)

agree_table_named : (n : List ℕ) → Single 10 (table_named n)
unfolding table_named
agree_table_named n =
    agree_made (behind 10) (optional alias) _
    (agree_optional (behind 10) alias (single 10 alias agree_alias) (starts_alias (behind 10)))

pub agree_table_ref : Single 10 table_ref
unfolding table_ref
agree_table_ref = agree_free (behind 10) name table_named agree_name agree_table_named

-- expressions, alone and behind a word
pub expr_follows : (o : Option Token) → behind 8 o ≡ true → behind_expr o ≡ true
unfolding rank has behind_factor behind_product behind_sum behind_concatenation behind_comparison behind_predicate
    behind_conjunction behind_expr or_op and_op compare_op concat_op sum_op product_op
expr_follows None b = refl
expr_follows (Some (t.Sign s.Dot)) b = absurd (cc b)
expr_follows (Some (t.Sign s.Open)) b = absurd (cc b)
expr_follows (Some (t.Sign s.Star)) b = absurd (cc b)
expr_follows (Some (t.Sign s.Slash)) b = absurd (cc b)
expr_follows (Some (t.Sign s.Percent)) b = absurd (cc b)
expr_follows (Some (t.Sign s.Plus)) b = absurd (cc b)
expr_follows (Some (t.Sign s.Minus)) b = absurd (cc b)
expr_follows (Some (t.Sign s.Concat)) b = absurd (cc b)
expr_follows (Some (t.Sign s.Equal)) b = absurd (cc b)
expr_follows (Some (t.Sign s.NotEqual)) b = absurd (cc b)
expr_follows (Some (t.Sign s.Less)) b = absurd (cc b)
expr_follows (Some (t.Sign s.LessOrEqual)) b = absurd (cc b)
expr_follows (Some (t.Sign s.Greater)) b = absurd (cc b)
expr_follows (Some (t.Sign s.GreaterOrEqual)) b = absurd (cc b)
expr_follows (Some (t.Sign _)) b = refl
expr_follows (Some (t.Keyword k.Is)) b = absurd (cc b)
expr_follows (Some (t.Keyword k.And)) b = absurd (cc b)
expr_follows (Some (t.Keyword k.Or)) b = absurd (cc b)
expr_follows (Some (t.Keyword _)) b = refl
expr_follows (Some (t.Name n)) b = refl
expr_follows (Some (t.Integer n)) b = refl
expr_follows (Some (t.Quoted text)) b = refl

as_follows : (o : Option Token) → behind 10 o ≡ true → behind_as o ≡ true
unfolding rank behind_as is_word spelling
as_follows None b = refl
as_follows (Some (t.Keyword k.As)) b = absurd (cc b)
as_follows (Some (t.Keyword _)) b = refl
as_follows (Some _) b = refl

pub item_follows : (o : Option Token) → behind 10 o ≡ true → behind_item o ≡ true
unfolding behind_item
item_follows o b = and_from (behind_expr o) (behind_as o) (expr_follows o (deeper 8 10 refl o b)) (as_follows o b)

pub single_expr : Single 8 expr
single_expr = agree_less behind_expr (behind 8) expr expr expr_follows expr_agrees

pub agree_condition : Single 13 condition
unfolding condition rank
agree_condition = agree_optional_word (behind 13) (t.Keyword k.Where) expr refl (loosened 8 13 expr refl single_expr)

-- [WHERE expr] and what is behind
pub tail_condition : {V : Type 0} (i level : ℕ) (K : Option Tree → Lang Token V) → leb (suc i) 13 ≡ true →
    leb i 13 ≡ true →
    ((c : Option Tree) → Tail 13 (K c) level) → Tail i (bind condition K) level
unfolding condition rank
tail_condition i level K h l c =
    tail_optional i 13 level (t.Keyword k.Where) expr K h refl l (loosened 8 13 expr refl single_expr) c

agree_named_expr : Single 10 named_expr
unfolding named_expr as_name rank
agree_named_expr =
    agree_rule 8 10 expr _ single_expr
    (λ e. tail_optional 8 10 10 (t.Keyword k.As) name _ refl refl refl (single 10 name agree_name)
    (λ n. tail_gives 10 10 _ refl))

-- where one reading is known, it is the only one
only_reading : {V : Type 0} (L : Lang Token V) (f : Option Token → Bool) (xs ys : List Token) (v : V) →
    Reads L f xs (read v ys) →
    (m : Limit → ℕ) (w : V) (z : List Token) → L m xs w z → f (next z) ≡ true → (w ≡ v) × (z ≡ ys)
only_reading L f xs ys v r m w z l d = let i : IsRead L f xs v ys = r.is in i.only m ys z w refl
    (subst (λ q. L m q w z) i.split l) d

-- a star and all of a source have a known reading
abbrev Known : List Token → Type 0
Known xs = (u : Item) × (ys : List Token) × Reads item behind_item xs (read u ys)

known_or_named : (m : Limit → ℕ) (xs : List Token) (v : Item) (y : List Token) → item m xs v y →
    Known xs ⊎ named_expr m xs v y
unfolding item all_of name
known_or_named m xs v y l =
    elim l [
      | inl a ↦ inl (item_of.All, a.0, item_all xs a.0 a.1)
      | inr b ↦
          elim b [
            | inl a ↦
                let begins : BeginsAllOf xs a.3.2.0 =
                record { head = a.2.head; name = a.0; is = cc (a.2.is, a.3.1, a.3.2.1); named = a.2.value } in
                let named : Reads (one name_of) any xs
                (read a.0 a.1) = reads_one name_of any xs a.1 a.2.head a.0 a.2.is a.2.value in
                inl (item_of.AllOf a.0, a.3.2.0, item_all_of xs a.3.2.0 a.1 a.0 begins named)
            | inr e ↦ inr e
          ]
    ]

same_reading : (m n : Limit → ℕ) (xs : List Token) (v w : Item) (y z : List Token) → item m xs v y → item n xs w z →
    behind 10 (next y) ≡ true → behind 10 (next z) ≡ true → Known xs → (v ≡ w) × (y ≡ z)
same_reading m n xs v w y z l r c d u =
    let a = only_reading item behind_item xs u.1 u.0 u.2 m v y l (item_follows (next y) c) in
    let b = only_reading item behind_item xs u.1 u.0 u.2 n w z r (item_follows (next z) d) in
    (a.0 ∙ sym b.0, a.1 ∙ sym b.1)

agree_item : Single 10 item
agree_item = record {
  same = λ m n xs v w y z l r c d.
      elim (known_or_named m xs v y l) [
        | inl u ↦ same_reading m n xs v w y z l r c d u
        | inr e ↦
            elim (known_or_named n xs w z r) [
              | inl u ↦ same_reading m n xs v w y z l r c d u
              | inr g ↦ agree_named_expr.same m n xs v w y z e g c d
            ]
      ];
}

pub agree_items : Single 11 items
unfolding items
agree_items = single_list item agree_item

pub agree_returning : Single 16 returning
unfolding returning rank
agree_returning =
    agree_or_word (behind 16) [] (t.Keyword k.Returning) items refl (loosened 11 16 items refl agree_items)

pub agree_tuple : Agree tuple tuple any
unfolding tuple rank
agree_tuple =
    agree_brackets (behind 11) any (list_of expr) refl (single_list expr (loosened 8 10 expr refl single_expr))

pub agree_tuples : Single 11 tuples
unfolding tuples
agree_tuples = single_list tuple (single 10 tuple agree_tuple)

agree_assignment : Single 10 assignment
unfolding assignment
agree_assignment =
    agree_free (behind 10) name _ agree_name
    (λ n. agree_token (behind 10) (t.Sign s.Equal) _ _ (agree_made (behind 10) expr _
    (loosened 8 10 expr refl single_expr)))

pub agree_sets : Single 11 sets
unfolding sets
agree_sets = single_list assignment agree_assignment

-- columns and elements
pub agree_bracket : Agree (in_brackets expr) (in_brackets expr) any
unfolding rank
agree_bracket = agree_brackets (behind 8) any expr refl single_expr

pub agree_name_list : Agree (in_brackets names) (in_brackets names) any
unfolding rank
agree_name_list = agree_brackets (behind 11) any names refl agree_names

agree_element : Agree element element any
unfolding element has name_of in_brackets
agree_element =
    agree_choice any (bind name _) (bind (in_brackets expr) _) (agree_made any name _ agree_name)
    (agree_made any (in_brackets expr) _ agree_bracket)
    (apart_outside (has name_of) any (bind name _) (bind (in_brackets expr) _) (starts_name any _)
    (starts_first (outside (has name_of)) any (in_brackets expr) _
    (starts_token (outside (has name_of)) any (t.Sign s.Open) _ refl)))

pub agree_elements : Agree elements elements any
unfolding elements rank
agree_elements =
    agree_brackets (behind 11) any (list_of element) refl (single_list element (single 10 element agree_element))

pub agree_columns : Agree columns columns behind_columns
unfolding columns behind_columns is_open in_brackets
agree_columns =
    agree_or behind_columns [] (in_brackets names) (agree_less any behind_columns _ _ (λ o e. refl) agree_name_list)
    (starts_token (outside behind_columns) behind_columns (t.Sign s.Open) _ refl)

-- sources
module _ {S : Type 0} where
  agree_joined : (source : Lang Token S) → Single 10 source → Single 10 (joined source)
  unfolding joined rank
  agree_joined source a =
      agree_rule 10 10 source _ a
      (λ x. tail_token 10 10 (t.Keyword k.On) _ refl (agree_made (behind 10) expr _
      (loosened 8 10 expr refl single_expr)))

  agree_alone : (source : Lang Token S) → Single 10 source → Single 10 (alone source)
  unfolding alone
  agree_alone source a = agree_made (behind 10) source _ a

  agree_linked : (source : Lang Token S) → Single 10 source → (l : Link) → Single 10 (linked source l)
  unfolding linked
  agree_linked source a link.Comma = agree_alone source a
  agree_linked source a link.Inner = agree_token (behind 10) (t.Keyword k.Join) _ _ (agree_joined source a)
  agree_linked source a link.Join = agree_joined source a

link_between : (u : Token) (l : Link) → link_of u ≡ Some l → between (behind 10) (behind 11) (Some u) ≡ true
unfolding link_of rank
link_between (t.Sign s.Comma) l e = refl
link_between (t.Keyword k.Inner) l e = refl
link_between (t.Keyword k.Join) l e = refl
link_between _ l e = absurd (cc e)

module _ {S : Type 0} (source : SourceRule S) (count : S → ℕ) (each : (n : ℕ) → Single 10 (source n)) (n : ℕ) where
  starts_next_source : (list : List (Joined S)) →
      Starts (between (behind 10) (behind 11)) (next_source source count n list) (behind 10)
  unfolding next_source
  starts_next_source list =
      starts_first (between (behind 10) (behind 11)) (behind 10) (one link_of) _
      (starts_one (between (behind 10) (behind 11)) any link_of link_between)

  agree_next_source : (list : List (Joined S)) → Single 10 (next_source source count n list)
  unfolding next_source
  agree_next_source list =
      agree_free (behind 10) (one link_of) _ (agree_one any link_of)
      (λ l. agree_made (behind 10) (linked (source (n + sources_in count list)) l) (λ x. list ++ x ∷ [])
      (agree_linked _ (each (n + sources_in count list)) l))

  agree_from_of : Single 11 (from_of source count n)
  unfolding from_of
  agree_from_of =
      agree_repeat (behind 10) (behind 11) (alone (source n)) (next_source source count n) (λ x. x ∷ [])
      (deeper 10 11 refl)
      starts_next_source agree_next_source (agree_alone (source n) (each n))

agree_table_source : (n : ℕ) → Single 10 (table_source n)
unfolding table_source
agree_table_source n = agree_reaches (behind 10) sources _ _ _ _ agree_table_ref

pub agree_subselect : (n : ℕ) → Single 13 (subselect n)
unfolding subselect rank
agree_subselect n =
    agree_rule 11 13 items _ agree_items
    (λ i. tail_token 11 13 (t.Keyword k.From) _ refl
    (agree_rule 11 13 (from_of table_source one_source n) _ (agree_from_of table_source one_source agree_table_source n)
    (λ f. tail_condition 11 13 _ refl refl (λ c. tail_gives 13 13 _ refl))))

agree_values_source : Single 10 values_source
unfolding values_source rank
agree_values_source =
    agree_rule 11 10 tuples _ agree_tuples
    (λ r. tail_token 11 10 (t.Sign s.Close) _ refl (agree_free (behind 10) alias _ agree_alias
    (λ a. agree_made (behind 10) (in_brackets names) _ (single 10 (in_brackets names) agree_name_list))))

agree_query_source : (n : ℕ) → Single 10 (query_source n)
unfolding query_source rank
agree_query_source n =
    agree_rule 13 10 (subselect n) _ (agree_subselect n)
    (λ q. tail_token 13 10 (t.Sign s.Close) _ refl (agree_made (behind 10) alias _ (single 10 alias agree_alias)))

agree_bracketed : (n : ℕ) → Single 10 (bracketed n)
unfolding bracketed
agree_bracketed n =
    agree_words (behind 10) (t.Keyword k.Values) (t.Keyword k.Select) _ _ (λ e. cc e) agree_values_source
    (agree_query_source n)

pub agree_source : (n : ℕ) → Single 10 (source n)
unfolding source table_ref has name_of
agree_source n =
    agree_reaches (behind 10) sources _ _ _ _
    (agree_choice (behind 10) _ _ (agree_made (behind 10) table_ref _ agree_table_ref)
    (agree_token (behind 10) (t.Sign s.Open) _ _ (agree_bracketed (suc n)))
    (apart_flip (apart_token (has name_of) (behind 10) (t.Sign s.Open) _ _ refl
    (starts_first (has name_of) (behind 10) (bind name table_named) _ (starts_name any table_named)))))

pub agree_from : Single 11 from
unfolding from
agree_from = agree_from_of source sources_of agree_source 0

pub agree_from_word : (u : Token) → behind 12 (Some u) ≡ false → Single 12 (or_else [] (token u from))
agree_from_word u h = agree_or_word (behind 12) [] u from h (loosened 11 12 from refl agree_from)
