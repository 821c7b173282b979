-- Items: an expression, where neither a star nor all of a source stands.
use Rattle.std.proofs.Common.{◌≡◌, ◌∷◌, ◌++◌, ◌+◌, ℕ, suc, true, false, List, [], length, Option, Some, None, refl, sym, ap, ◌∙◌, ◌≤◌, zero, inl, inr, arith, subst, length-append}
use Rattle.pg_parse_stmt.proofs.Common.{Syntax, gives, one, bind, either, next, Misses, Seen, read, failed, Reads, bars_token, bars_one, bars_bind, leads_right, Token, has, expr, name_of, or_op, and_op, concat_op, sum_op, product_op, Tree, any, behind_item, word, sign, Deep, Many, Memory, Limit, nodes, sources, IsRead, IsFault, Far, bars_token_next, bars_one_next, Sign, reads_right_by, BinaryOp, chain, product, sum, concatenation, compared, comparison, predicate, negation_over, negation, conjunction, disjunction, named, leaf, factor_over, factor, expr_at, column, column_of, Dotted, NotDotted, no_name, no_dot, name, as_name, all_of, named_expr, item, Item}
use Rattle.pg_lexer.specs.declared.keyword.Keyword.TheVariants as k
use Rattle.pg_lexer.specs.declared.sign.Sign.TheVariants as s
use Rattle.pg_lexer.specs.declared.token.Token.TheVariants as t
use Rattle.pg_parse_stmt.specs.declared.tree.Item.TheVariants as item_of
use Rattle.pg_parse_stmt.proofs.Lists.{starts_any}
use Rattle.pg_parse_expr.specs.Grammar.{Rule}
use Rattle.pg_parse_stmt.proofs.Tables.{some_name, no_name_first}
use Rattle.pg_parse_stmt.proofs.Following.{none_follows}
use Rattle.pg_parse_stmt.proofs.Stars.{all_behind}

-- an expression
chain_word : (op : Token → Option BinaryOp) (operand : Rule) (d : ℕ) (m : Limit → ℕ) (xs : List Token) (v : Tree)
    (z : List Token) →
    operand d m xs v z → chain op operand d m xs v z
unfolding chain
chain_word op operand d m xs v z l = (v, z, l, (zero, (refl, refl)))

leaf_word : (m : Limit → ℕ) (xs : List Token) (v : Tree) → leaf 0 m xs v [] → named_expr m xs (item_of.Expr v None) []
unfolding named_expr as_name expr expr_at disjunction conjunction negation negation_over predicate comparison compared
    concatenation sum product factor factor_over
leaf_word m xs v l =
    let f : factor 0 m xs v [] = (suc zero, inr (inl (inl l))) in
    let c =
    chain_word concat_op (sum factor) 0 m xs v [] (chain_word sum_op (product factor) 0 m xs v []
    (chain_word product_op factor 0 m xs v [] f)) in
    let p : predicate factor 0 m xs v [] = (v, [], (v, [], c, inr (refl, refl)), (zero, (refl, refl))) in
    let n : negation factor 0 m xs v [] = (suc zero, inr (inr p)) in (
      v,
      [],
      chain_word or_op (conjunction factor) 0 m xs v [] (chain_word and_op (negation factor) 0 m xs v [] n),
      (None, [], inr (refl, refl), (refl, refl)),
    )

own_token : Token
own_token = t.Name []

own_is : name_of own_token ≡ Some []
unfolding name_of own_token
own_is = refl

module _ (u : Token) (n : List ℕ) (h : name_of u ≡ Some n) where
  name_word : (m : Limit → ℕ) → named_expr m (u ∷ []) (item_of.Expr (column n) None) []
  unfolding leaf named
  name_word m =
      leaf_word m (u ∷ []) (column n) (
        λ c. omega arith,
        inr (inr
            (n, [], record { head = u; is = refl; value = h }, inr (refl, refl))),
      )

  own_word : (m : Limit → ℕ) → named_expr m (u ∷ t.Sign s.Dot ∷ own_token ∷ []) (item_of.Expr (column_of n []) None) []
  unfolding leaf named
  own_word m =
      leaf_word m (u ∷ t.Sign s.Dot ∷ own_token ∷ []) (column_of n []) (
        λ c. omega arith,
        inr (inr (
          n,
          t.Sign s.Dot ∷ own_token ∷ [],
          record { head = u; is = refl; value = h },
          inl (own_token ∷ [], refl, ([], [], record { head = own_token; is = refl; value = own_is }, (refl, refl))),
        )),
      )

  nothing_read : (xs ys rest : List Token) (v : Item) (r : IsRead named_expr behind_item xs v rest) → xs ≡ u ∷ ys →
      r.front ≡ [] → ⊥
  nothing_read xs ys rest v r e f =
      let at : xs ≡ rest = r.split ∙ ap (λ x. x ++ rest) f in
      let w : named_expr (λ k. 0) (r.front ++ (u ∷ [])) (item_of.Expr (column n) None) [] = subst
      (λ x. named_expr (λ k. 0) (x ++ (u ∷ [])) (item_of.Expr (column n) None) []) (sym f) (name_word (λ k. 0)) in
      let o =
      r.only (λ k. 0) (u ∷ []) [] (item_of.Expr (column n) None) (sym (ap next e) ∙ ap next at) w none_follows in
      let b : [] ≡ u ∷ [] = o.1 in
      cc b

  nothing_fails : (over : Option Limit) (l : ℕ) (xs ys : List Token) (r : IsFault over named_expr behind_item xs l) →
      xs ≡ u ∷ ys → r.front ≡ [] → ⊥
  nothing_fails over l xs ys r e f =
      let at : xs ≡ r.rest = r.split ∙ ap (λ x. x ++ r.rest) f in
      let w : named_expr (λ k. 0) (r.front ++ (u ∷ [])) (item_of.Expr (column n) None) [] = subst
      (λ x. named_expr (λ k. 0) (x ++ (u ∷ [])) (item_of.Expr (column n) None) []) (sym f) (name_word (λ k. 0)) in
      r.none (λ k. 0) (u ∷ []) [] (item_of.Expr (column n) None) (λ k q. omega arith)
      (sym (ap next e) ∙ ap next at) w none_follows

  one_read : (xs ys rest : List Token) (v : Item) (a : Token) (r : IsRead named_expr behind_item xs v rest) →
      xs ≡ u ∷ t.Sign s.Dot ∷ ys → r.front ≡ a ∷ [] → ⊥
  one_read xs ys rest v a r e f =
      let at : xs ≡ a ∷ rest = r.split ∙ ap (λ x. x ++ rest) f in
      let same : a ≡ u = cc (at, e) in
      let behind : rest ≡ t.Sign s.Dot ∷ ys = cc (at, e) in
      let front : r.front ≡ u ∷ [] = f ∙ ap (λ x. x ∷ []) same in
      let w : named_expr (λ k. 0) (r.front ++ (t.Sign s.Dot ∷ own_token ∷ [])) (item_of.Expr (column_of n []) None) [] =
      subst (λ x. named_expr (λ k. 0) (x ++ (t.Sign s.Dot ∷ own_token ∷ []))
      (item_of.Expr (column_of n []) None) []) (sym front) (own_word (λ k. 0)) in
      let o =
      r.only (λ k. 0) (t.Sign s.Dot ∷ own_token ∷ []) [] (item_of.Expr (column_of n []) None)
      (sym (ap next behind)) w none_follows in
      let b : [] ≡ t.Sign s.Dot ∷ own_token ∷ [] = o.1 in
      cc b

  one_fails : (over : Option Limit) (l : ℕ) (xs ys : List Token) (a : Token)
      (r : IsFault over named_expr behind_item xs l) → xs ≡ u ∷ t.Sign s.Dot ∷ ys → r.front ≡ a ∷ [] → ⊥
  one_fails over l xs ys a r e f =
      let at : xs ≡ a ∷ r.rest = r.split ∙ ap (λ x. x ++ r.rest) f in
      let same : a ≡ u = cc (at, e) in
      let behind : r.rest ≡ t.Sign s.Dot ∷ ys = cc (at, e) in
      let front : r.front ≡ u ∷ [] = f ∙ ap (λ x. x ∷ []) same in
      let w : named_expr (λ k. 0) (r.front ++ (t.Sign s.Dot ∷ own_token ∷ [])) (item_of.Expr (column_of n []) None) [] =
      subst (λ x. named_expr (λ k. 0) (x ++ (t.Sign s.Dot ∷ own_token ∷ []))
      (item_of.Expr (column_of n []) None) []) (sym front) (own_word (λ k. 0)) in
      r.none (λ k. 0) (t.Sign s.Dot ∷ own_token ∷ []) [] (item_of.Expr (column_of n []) None) (λ k q. omega arith)
      (sym (ap next behind)) w none_follows

  -- a name is a word, and so is a name with its own name: an answer is no nearer
  past : (xs ys front rest : List Token) → xs ≡ u ∷ ys → xs ≡ front ++ rest → (front ≡ [] → ⊥) →
      length rest + 2 ≤ suc (length xs)
  past xs ys [] rest e q some = absurd (some refl)
  past xs ys (a ∷ front) rest e q some = let l = ap length q ∙ length-append (a ∷ front) rest in omega (arith, l)

  past_two : (xs ys front rest : List Token) → xs ≡ u ∷ t.Sign s.Dot ∷ ys → xs ≡ front ++ rest → (front ≡ [] → ⊥) →
      ((a : Token) → front ≡ a ∷ [] → ⊥) →
      length rest + 3 ≤ suc (length xs)
  past_two xs ys [] rest e q some single = absurd (some refl)
  past_two xs ys (a ∷ []) rest e q some single = absurd (single a refl)
  past_two xs ys (a ∷ b ∷ front) rest e q some single =
      let l = ap length q ∙ length-append (a ∷ b ∷ front) rest in omega (arith, l)

  fault_past : (over : Option Limit) (l : ℕ) (xs ys : List Token) → xs ≡ u ∷ ys →
      IsFault over named_expr behind_item xs l → l + 2 ≤ suc (length xs)
  fault_past over l xs ys e r =
      let p = past xs ys r.front r.rest e r.split (nothing_fails over l xs ys r e) in omega (arith, p, r.left)

  fault_past_two : (over : Option Limit) (l : ℕ) (xs ys : List Token) → xs ≡ u ∷ t.Sign s.Dot ∷ ys →
      IsFault over named_expr behind_item xs l → l + 3 ≤ suc (length xs)
  fault_past_two over l xs ys e r =
      let p =
      past_two xs ys r.front r.rest e r.split (nothing_fails over l xs (t.Sign s.Dot ∷ ys) r e)
      (λ a. one_fails over l xs ys a r e) in omega (arith, p, r.left)

  far_past : (xs ys : List Token) (o : Seen Token Item) → xs ≡ u ∷ ys → Reads named_expr behind_item xs o → Far 2 xs o
  far_past xs ys (read v rest) e r =
      let i : IsRead named_expr behind_item xs v rest = r.is in past xs ys i.front rest e i.split
      (nothing_read xs ys rest v i e)
  far_past xs ys (failed (Syntax l)) e r = fault_past None l xs ys e r.is
  far_past xs ys (failed (Deep l)) e r = fault_past (Some nodes) l xs ys e r.is
  far_past xs ys (failed (Many l)) e r = fault_past (Some sources) l xs ys e r.is
  far_past xs ys (failed Memory) e r = tt

  far_past_two : (xs ys : List Token) (o : Seen Token Item) → xs ≡ u ∷ t.Sign s.Dot ∷ ys →
      Reads named_expr behind_item xs o → Far 3 xs o
  far_past_two xs ys (read v rest) e r =
      let i : IsRead named_expr behind_item xs v rest = r.is in
      past_two xs ys i.front rest e i.split (nothing_read xs (t.Sign s.Dot ∷ ys) rest v i e)
      (λ a. one_read xs ys rest v a i e)
  far_past_two xs ys (failed (Syntax l)) e r = fault_past_two None l xs ys e r.is
  far_past_two xs ys (failed (Deep l)) e r = fault_past_two (Some nodes) l xs ys e r.is
  far_past_two xs ys (failed (Many l)) e r = fault_past_two (Some sources) l xs ys e r.is
  far_past_two xs ys (failed Memory) e r = tt

not_star : (xs : List Token) (o : Seen Token Item) → Misses (t.Sign s.Star) xs →
    Reads (either all_of named_expr) behind_item xs o → Reads item behind_item xs o
unfolding item
not_star xs o miss r =
    (leads_right (sign s.Star (gives item_of.All)) (either all_of named_expr) behind_item xs
    (bars_token behind_item (t.Sign s.Star) (gives item_of.All) 0 xs (λ n. miss.misses n))).to o r

pub item_expr : (xs : List Token) (o : Seen Token Item) → Misses (t.Sign s.Star) xs → NotDotted xs →
    Reads named_expr behind_item xs o → Reads item behind_item xs o
unfolding all_of all_behind name
item_expr xs o miss (no_name lacks) r =
    not_star xs o miss
    ((leads_right (bind (one name_of) all_behind) named_expr behind_item xs
    (bars_bind any behind_item (one name_of) all_behind 1 xs (bars_one any name_of 0 xs
    (λ u x a b. lacks.lacks u x a b)) (λ x. starts_any (all_behind x) behind_item))).to o r)
item_expr xs o miss (no_dot u n ys e h dot) r =
    not_star xs o miss
    (reads_right_by 2 (bind (one name_of) all_behind) named_expr behind_item xs o
    (bars_one_next behind_item name_of all_behind 1 xs ys u e
    (λ x g. bars_token behind_item (t.Sign s.Dot) (sign s.Star (gives (item_of.AllOf x))) 0 ys (λ a. dot.misses a)))
    (far_past u n h xs ys o e r) r)

pub item_own : (xs ys : List Token) (o : Seen Token Item) → Misses (t.Sign s.Star) xs → Dotted xs ys →
    Misses (t.Sign s.Star) ys → Reads named_expr behind_item xs o →
    Reads item behind_item xs o
unfolding all_of all_behind name
item_own xs ys o miss d star r =
    not_star xs o miss
    (reads_right_by 3 (bind (one name_of) all_behind) named_expr behind_item xs o
    (bars_one_next behind_item name_of all_behind 2 xs (t.Sign s.Dot ∷ ys) d.head d.is
    (λ x g. bars_token_next behind_item (t.Sign s.Dot) (sign s.Star (gives (item_of.AllOf x))) 1
    (t.Sign s.Dot ∷ ys) ys refl
    (bars_token behind_item (t.Sign s.Star) (gives (item_of.AllOf x)) 0 ys (λ a. star.misses a))))
    (far_past_two d.head d.name d.named xs ys o d.is r) r)

-- whether a name and a dot stand first
pub dotted_no_name : (xs : List Token) → false ≡ has name_of (next xs) → NotDotted xs
dotted_no_name xs h = no_name (no_name_first xs h)

pub dotted_none : (xs : List Token) → length xs ≡ 0 → NotDotted xs
dotted_none [] e = no_name (record { lacks = λ u x a b. let o : None ≡ Some u = a in cc o })
dotted_none (u ∷ xs) e = absurd (omega (arith, e))

head_named : (xs ys : List Token) (u : Token) → true ≡ has name_of (next xs) → xs ≡ u ∷ ys →
    (v : List ℕ) × (name_of u ≡ Some v)
unfolding has
head_named xs ys u h e = some_name u (name_of u) refl (h ∙ ap (λ x. has name_of (next x)) e)

pub dotted_no_dot : (xs ys : List Token) (u : Token) → true ≡ has name_of (next xs) → xs ≡ u ∷ ys →
    Misses (t.Sign s.Dot) ys → NotDotted xs
dotted_no_dot xs ys u h e miss = let v = head_named xs ys u h e in no_dot u v.0 ys e v.1 miss

pub dotted_read : (xs ys zs : List Token) (u : Token) → true ≡ has name_of (next xs) → xs ≡ u ∷ ys →
    ys ≡ t.Sign s.Dot ∷ zs → Dotted xs zs
dotted_read xs ys zs u h e i =
    let v = head_named xs ys u h e in record { head = u; name = v.0; is = cc (e, i); named = v.1 }
