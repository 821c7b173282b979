-- FROM and USING lists.
use Rattle.std.proofs.Common.{◌≡◌, ◌≤◌, ◌∷◌, ◌++◌, ◌+◌, ℕ, Bool, true, false, List, [], length, Option, Some, None, refl, sym, ap, ◌∙◌, subst, arith, not, ◌&&◌, is_some}
use Rattle.pg_parse_stmt.proofs.Common.{Fault, Syntax, Lang, Took, gives, one, bind, more, next, Misses, Lacks, Seen, read, failed, Reads, Rule, Fits, spelled, own, Comes, Leads, leads_on, Starts, Bars, Spelled, starts_gives, starts_one, starts_bind, starts_more, spelled_gives, spelled_bind, spelled_more, bars_one, bars_bind, reads_gives, reads_bind_failed, leads_one, leads_bind, leads_more, leads_no_more, leads_assoc, leads_gives, Token, has, behind_expr, expr, any, behind_table, behind_joined, behind_from, one_source, SourceRule, sources_in, joined, alone, linked, next_source, from_of, spelled_expr, link_of, Joined, TableRef, Link}
use Rattle.pg_parse_stmt.proofs.Forms.{word_then, no_word, made_read, made_failed, spelled_made, before}
use Rattle.pg_grammar.proofs.Rules as rule
use Rattle.pg_lexer.specs.declared.keyword.Keyword.TheVariants as k
use Rattle.pg_lexer.specs.declared.token.Token.TheVariants as t
use Rattle.pg_parse_stmt.specs.declared.word.Link.TheVariants as link
use Rattle.pg_parse_stmt.proofs.Lists.{starts_any, and_left}
use Rattle.pg_parse_stmt.proofs.Steps.{and_right}
use Rattle.pg_parse_stmt.proofs.Following.{link_behind, on_behind_table}

joined_expr : (o : Option Token) → behind_joined o ≡ true → behind_expr o ≡ true
unfolding behind_joined
joined_expr o e = and_right (behind_table o) (behind_expr o) e

joined_table : (o : Option Token) → behind_joined o ≡ true → behind_table o ≡ true
unfolding behind_joined
joined_table o e = and_left (behind_table o) (behind_expr o) e

from_joined : (o : Option Token) → behind_from o ≡ true → behind_joined o ≡ true
unfolding behind_from
from_joined o e = and_left (behind_joined o) (not (has link_of o)) e

not_true : (a b : Bool) → b ≡ true → (a && not b) ≡ false
not_true true true e = refl
not_true false true e = refl
not_true true false e = sym e
not_true false false e = refl

link_on : (u : Token) (l : Link) → link_of u ≡ Some l → behind_from (Some u) ≡ false
unfolding behind_from has
link_on u l e = not_true (behind_joined (Some u)) (is_some (link_of u)) (ap is_some e)

pub sources_more : {S : Type 0} (count : S → ℕ) (list : List (Joined S)) (x : Joined S) →
    sources_in count (list ++ x ∷ []) ≡ sources_in count list + count x.source
sources_more count [] x = omega arith
sources_more count (y ∷ list) x = let l = sources_more count list x in omega (arith, l)

pub tables_counted : (list : List (Joined TableRef)) → sources_in one_source list ≡ length list
tables_counted [] = refl
tables_counted (x ∷ list) = let l = tables_counted list in omega (arith, l)

-- source ON expr
abbrev pub joined_rule : {S : Type 0} → Lang Token S → Rule Token (Joined S)
joined_rule source =
    rule.part behind_table behind_table source (λ x. rule.token (t.Keyword k.On)
    (rule.part behind_expr behind_expr expr (λ e. rule.gives (record { source = x; on = Some e }))))

joined_fits : {S : Type 0} (source : Lang Token S) → Spelled source → Fits (joined_rule source) behind_expr
joined_fits source h =
    search (own, on_behind_table, spelled_expr, h) depth 14

pub joined_read : {S : Type 0} {source : Lang Token S} {xs : List Token} {o : Seen Token (Joined S)} → Spelled source →
    Comes (joined_rule source) behind_expr xs o → Reads (joined source) behind_expr xs o
unfolding joined
joined_read {source = source} h c = c.to (joined_fits source h)

pub spelled_joined : {S : Type 0} (source : Lang Token S) → Spelled source → Spelled (joined source)
unfolding joined
spelled_joined source h = spelled (joined_rule source) behind_expr (joined_fits source h)

module _ {S : Type 0} (source : Lang Token S) (spelled_source : Spelled source) where
  pub spelled_alone : Spelled (alone source)
  unfolding alone
  spelled_alone = spelled_made spelled_source

  pub alone_read : (xs ys : List Token) (x : S) → Reads source behind_table xs (read x ys) →
      Reads (alone source) behind_table xs (read (record { source = x; on = None }) ys)
  unfolding alone
  alone_read xs ys x r = made_read r

  pub alone_failed : (xs : List Token) (f : Fault) → Reads source behind_table xs (failed f) →
      Reads (alone source) behind_table xs (failed f)
  unfolding alone
  alone_failed xs f r = made_failed r

  pub comma_is : (xs : List Token) (o : Seen Token (Joined S)) → Reads (alone source) behind_table xs o →
      Reads (linked source link.Comma) behind_joined xs o
  unfolding linked
  comma_is xs o r = before joined_table r

  pub join_is : (xs : List Token) (o : Seen Token (Joined S)) → Reads (joined source) behind_expr xs o →
      Reads (linked source link.Join) behind_joined xs o
  unfolding linked
  join_is xs o r = before joined_expr r

  pub inner_is : (xs ys : List Token) (o : Seen Token (Joined S)) → xs ≡ t.Keyword k.Join ∷ ys →
      Reads (joined source) behind_expr ys o → Reads (linked source link.Inner) behind_joined xs o
  unfolding linked
  inner_is xs ys o e r = word_then e (before joined_expr r)

  pub inner_no_join : (xs : List Token) (l : ℕ) → Misses (t.Keyword k.Join) xs → l ≡ length xs →
      Reads (linked source link.Inner) behind_joined xs (failed (Syntax l))
  unfolding linked
  inner_no_join xs l miss q = no_word (spelled_joined source spelled_source) miss q

module _ {S : Type 0} (source : SourceRule S) (count : S → ℕ) (spelled_source : (n : ℕ) → Spelled (source n))
    (n : ℕ) where
  here : List (Joined S) → ℕ
  here list = n + sources_in count list

  after : List (Joined S) → Joined S → Lang Token (List (Joined S))
  after list x = gives (list ++ x ∷ [])

  behind_link : List (Joined S) → Link → Lang Token (List (Joined S))
  behind_link list l = bind (linked (source (here list)) l) (after list)

  starts_step : (list : List (Joined S)) → Starts behind_joined (next_source source count n list) behind_joined
  unfolding next_source behind_link after here
  starts_step list =
      starts_bind behind_joined any behind_joined (one link_of) (behind_link list)
      (starts_one behind_joined any link_of link_behind)
      (λ l. starts_any (behind_link list l) behind_joined)

  starts_rest : (list : List (Joined S)) → Starts behind_joined (more (next_source source count n) list) behind_from
  starts_rest list = starts_more behind_joined behind_from (next_source source count n) list starts_step from_joined

  table_rest : (list : List (Joined S)) → Starts behind_table (more (next_source source count n) list) behind_from
  table_rest list = record { starts = λ m s v z l b. joined_table (next s) ((starts_rest list).starts m s v z l b) }

  pub from_begun : (xs ys : List Token) (x : Joined S) (none list : List (Joined S)) → none ≡ [] →
      list ≡ none ++ x ∷ [] → Reads (alone (source n)) behind_table xs (read x ys) →
      Leads (from_of source count n) xs (more (next_source source count n) list) ys behind_from
  unfolding from_of
  from_begun xs ys x none list e h r =
      let same : x ∷ [] ≡ list = sym (h ∙ ap (λ l. l ++ x ∷ []) e) in
      subst (λ l. Leads (bind (alone (source n)) (λ u. more (next_source source count n) (u ∷ []))) xs
      (more (next_source source count n) l) ys behind_from) same
      (leads_bind (alone (source n)) (λ u. more (next_source source count n)
      (u ∷ [])) behind_table behind_from xs ys x r (λ u. table_rest (u ∷ [])))

  pub from_not_begun : (xs : List Token) (f : Fault) → Reads (alone (source n)) behind_table xs (failed f) →
      Reads (from_of source count n) behind_from xs (failed f)
  unfolding from_of
  from_not_begun xs f r =
      reads_bind_failed (alone (source n)) (λ u. more (next_source source count n)
      (u ∷ [])) behind_table behind_from xs f r (λ u. table_rest (u ∷ []))
      (λ u. spelled_more (next_source source count n) (u ∷ []))

  linked_rest : List (Joined S) → Joined S → Lang Token (List (Joined S))
  linked_rest list x = bind (after list x) (more (next_source source count n))

  starts_linked : (list : List (Joined S)) (x : Joined S) → Starts behind_joined (linked_rest list x) behind_from
  unfolding linked_rest after
  starts_linked list x =
      starts_bind behind_joined behind_joined behind_from (gives (list ++ x ∷ [])) (more (next_source source count n))
      (starts_gives behind_joined behind_joined (list ++ x ∷ []) (λ o e. e)) (λ a. starts_rest a)

  spelled_linked_rest : (list : List (Joined S)) (x : Joined S) → Spelled (linked_rest list x)
  unfolding linked_rest after
  spelled_linked_rest list x =
      spelled_bind (gives (list ++ x ∷ [])) (more (next_source source count n)) (spelled_gives (list ++ x ∷ []))
      (λ a. spelled_more (next_source source count n) a)

  leads_link : (list : List (Joined S)) (xs ys : List Token) (l : Link) → Took link_of xs l ys →
      Leads (more (next_source source count n) list) xs (bind (linked (source (here list)) l)
      (linked_rest list)) ys behind_from
  unfolding next_source behind_link linked_rest after here
  leads_link list xs ys l k =
      leads_on (leads_more (next_source source count n) list behind_from xs
      (ap (λ y. behind_from (next y)) k.is ∙ link_on k.head l k.value))
      (leads_on (leads_assoc (one link_of) (behind_link list) (more (next_source source count n)) behind_from xs)
      (leads_on (leads_one link_of (λ u. bind (behind_link list u)
      (more (next_source source count n))) behind_from xs ys k.head l k.is k.value)
      (leads_assoc (linked (source (here list)) l) (after list) (more (next_source source count n)) behind_from ys)))

  leads_after : (list : List (Joined S)) (x : Joined S) (zs : List Token) →
      Leads (linked_rest list x) zs (more (next_source source count n) (list ++ x ∷ [])) zs behind_from
  unfolding linked_rest after
  leads_after list x zs = leads_gives (list ++ x ∷ []) (more (next_source source count n)) behind_from zs

  pub from_goes_on : (list : List (Joined S)) (ts xs ys zs : List Token) (l : Link) (c : ℕ) (x : Joined S) →
      Leads (from_of source count n) ts (more (next_source source count n) list) xs behind_from → Took link_of xs l ys →
      c ≡ n + sources_in count list →
      Reads (linked (source c) l) behind_joined ys (read x zs) → Leads (from_of source count n) ts
      (more (next_source source count n) (list ++ x ∷ [])) zs behind_from
  unfolding here
  from_goes_on list ts xs ys zs l c x a k e r =
      leads_on a (leads_on (leads_link list xs ys l k)
      (leads_on (leads_bind (linked (source (here list)) l) (linked_rest list) behind_joined behind_from ys zs x
      (subst (λ m. Reads (linked (source m) l) behind_joined ys (read x zs)) e r) (starts_linked list))
      (leads_after list x zs)))

  pub from_breaks_off : (list : List (Joined S)) (ts xs ys : List Token) (l : Link) (c : ℕ) (f : Fault) →
      Leads (from_of source count n) ts (more (next_source source count n) list) xs behind_from → Took link_of xs l ys →
      c ≡ n + sources_in count list →
      Reads (linked (source c) l) behind_joined ys (failed f) → Reads (from_of source count n) behind_from ts (failed f)
  unfolding here
  from_breaks_off list ts xs ys l c f a k e r =
      a.to (failed f) ((leads_link list xs ys l k).to (failed f)
      (reads_bind_failed (linked (source (here list)) l) (linked_rest list) behind_joined behind_from ys f
      (subst (λ m. Reads (linked (source m) l) behind_joined ys (failed f)) e r) (starts_linked list)
      (spelled_linked_rest list)))

  bars_step : (list : List (Joined S)) (xs : List Token) → Lacks link_of xs →
      Bars (next_source source count n list) any 1 xs
  unfolding next_source behind_link after here
  bars_step list xs lacks =
      bars_bind any any (one link_of) (behind_link list) 1 xs
      (bars_one any link_of 0 xs (λ u y a b. lacks.lacks u y a b)) (λ l. starts_any (behind_link list l) any)

  pub from_ends : (list : List (Joined S)) (ts xs : List Token) →
      Leads (from_of source count n) ts (more (next_source source count n) list) xs behind_from →
      Lacks link_of xs → Reads (from_of source count n) behind_from ts (read list xs)
  from_ends list ts xs a lacks =
      a.to (read list xs) ((leads_no_more (next_source source count n) list any behind_from xs (bars_step list xs lacks)
      (λ u. starts_any (more (next_source source count n) u) behind_from)).to (read list xs)
      (reads_gives list list behind_from xs refl))

  pub from_next : (list more_list : List (Joined S)) (ts xs ys zs : List Token) (l : Link) (c : ℕ) (x : Joined S) →
      more_list ≡ list ++ x ∷ [] →
      Leads (from_of source count n) ts (more (next_source source count n) list) xs behind_from → Took link_of xs l ys →
      c ≡ n + sources_in count list →
      Reads (linked (source c) l) behind_joined ys (read x zs) → Leads (from_of source count n) ts
      (more (next_source source count n) more_list) zs behind_from
  from_next list more_list ts xs ys zs l c x h a k e r =
      subst (λ m. Leads (from_of source count n) ts (more (next_source source count n) m) zs behind_from) (sym h)
      (from_goes_on list ts xs ys zs l c x a k e r)

module _ {S : Type 0} (count : S → ℕ) where
  pub counted_first : (x : Joined S) (none list : List (Joined S)) (k b : ℕ) → none ≡ [] → list ≡ none ++ x ∷ [] →
      k ≡ count x.source →
      b + k ≡ b + sources_in count list
  counted_first x none list k b e h i =
      let z : sources_in count none ≡ 0 = ap (λ l. sources_in count l) e in
      let m = sources_more count none x in
      let w : sources_in count list ≡ sources_in count (none ++ x ∷ []) = ap (λ l. sources_in count l) h in
      omega (arith, z, m, w, i)

  pub counted_more : (x : Joined S) (list more_list : List (Joined S)) (k c b : ℕ) → c ≡ b + sources_in count list →
      more_list ≡ list ++ x ∷ [] → k ≡ count x.source →
      c + k ≡ b + sources_in count more_list
  counted_more x list more_list k c b e h i =
      let m = sources_more count list x in
      let w : sources_in count more_list ≡ sources_in count (list ++ x ∷ []) = ap (λ l. sources_in count l) h in
      omega (arith, e, m, w, i)

pub counted_limit : (b k m : ℕ) → k ≡ m → b + m ≤ 8 → b + k ≤ 8
counted_limit b k m e h = omega (arith, e, h)

-- what sources answer: their start, one more, and their end
pub ruleset froms = (from_begun, from_not_begun, from_goes_on, from_breaks_off, from_ends, sources_more)
