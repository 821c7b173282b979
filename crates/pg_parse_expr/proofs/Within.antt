-- A tree that is read is within the limits, and its literals and names can be written.
use Rattle.std.proofs.Common.{◌≡◌, ◌≤◌, ◌+◌, ℕ, suc, pos, Bool, true, false, max, List, [], Option, Some, None, refl, subst, arith, inl, inr}
use Rattle.std.proofs.Math.Nat.{max-eq_left, max-eq_right}
use Rattle.std.proofs.Math.Dec.{leb-zero}
use Rattle.std.specs.Prelude.{nat_le, is_none, if◌then◌else◌}
use Rattle.std.specs.List.{list_all}
use Rattle.std.proofs.lemmas.Bool.{and_from, and_parts, cases_lt, leb-false, le-leb}
use Rattle.pg_exprs.specs.declared.operator.BinaryOp.{BinaryOp}
use Rattle.pg_exprs.specs.declared.operator.BinaryOp.TheVariants.{IsDistinctFrom, IsNotDistinctFrom}
use Rattle.pg_exprs.specs.declared.operator.UnaryOp.{UnaryOp}
use Rattle.pg_exprs.specs.declared.operator.UnaryOp.TheVariants.{Negate, Not, IsNull, IsNotNull}
use Rattle.pg_grammar.specs.Languages.{gives, one}
use Rattle.pg_grammar.specs.Limits.{nodes}
use Rattle.pg_grammar.proofs.Keeping.{Keeps, keeps_gives, keeps_token, keeps_one, keeps_bind, keeps_either, keeps_more, keeps_reaches, keeps_knot, takes_token, takes_one, takes_first, takes_either}
use Rattle.pg_lexer.specs.declared.keyword.Keyword.{Keyword as Reserved}
use Rattle.pg_lexer.specs.declared.keyword.Keyword.TheVariants as word
use Rattle.pg_lexer.specs.declared.sign.Sign.TheVariants as sign
use Rattle.pg_lexer.specs.declared.token.Token.{Token}
use Rattle.pg_lexer.specs.declared.token.Token.TheVariants.{Keyword, Sign, Name, Integer, Quoted}
use Rattle.pg_lexer.specs.Bytes.{is_name}
use Rattle.pg_lexer.specs.Keywords.{keyword_of, keywords, may_be_name, spelling}
use Rattle.pg_values.specs.declared.value.Value.TheVariants as value
use Rattle.pg_parse_expr.specs.Operators.{value_of, literal_of, literal_if, name_of, action_name, or_op, and_op, compare_op, concat_op, sum_op, product_op}
use Rattle.pg_parse_expr.specs.Grammar.{Rule, operation, chain, product, sum, concatenation, compared, comparison, tested, test, predicate, negation_over, negation, conjunction, disjunction, named, called, leaf, minus, bracket, factor_over, factor, expr_at, expr}
use Rattle.pg_parse_expr.specs.Laws.{is_free, is_free_name, is_written, is_token}
use Rattle.pg_parse_expr.specs.Tree.{Tree, height, literal, column, column_of, action, unary, binary}

-- below d nodes the tree is within the limits
abbrev Fits : ℕ → Tree → Type 0
Fits d tree = (d + height tree ≤ 64) × (is_written tree ≡ true)

abbrev Leaf : Tree → Type 0
Leaf tree = (height tree ≡ 1) × (is_written tree ≡ true)

number_leaf : (n : ℕ) (small large : Bool) → nat_le n 2147483647 ≡ small → nat_le n 9223372036854775807 ≡ large →
    (e : Tree) →
    literal_if (if small then Some (value.Int (pos n)) else (if large then Some
    (value.Big (pos n)) else None)) ≡ Some e → Leaf e
number_leaf n true large s l e h =
    let is : literal (value.Int (pos n)) ≡ e = cc h in
    subst Leaf is (refl, and_from (nat_le 0 n) (nat_le n 2147483647) (leb-zero n) s)
number_leaf n false true s l e h =
    let is : literal (value.Big (pos n)) ≡ e = cc h in
    let above = leb-false n 2147483647 s in
    subst Leaf is (
      refl,
      and_from (nat_le 2147483648 n) (nat_le n 9223372036854775807)
          (le-leb 2147483648 n (omega (arith, above))) l,
    )
number_leaf n false false s l e h = absurd (cc h)

literal_leaf : (t : Token) (e : Tree) → is_token t ≡ true → literal_of t ≡ Some e → Leaf e
unfolding literal_of value_of
literal_leaf (Integer n) e a h = number_leaf n (nat_le n 2147483647) (nat_le n 9223372036854775807) refl refl e h
literal_leaf (Quoted text) e a h = let is : literal (value.Text text) ≡ e = cc h in subst Leaf is (refl, a)
literal_leaf (Keyword word.True) e a h = let is : literal (value.Bool true) ≡ e = cc h in subst Leaf is (refl, refl)
literal_leaf (Keyword word.False) e a h = let is : literal (value.Bool false) ≡ e = cc h in subst Leaf is (refl, refl)
literal_leaf (Keyword word.Null) e a h = let is : literal value.Null ≡ e = cc h in subst Leaf is (refl, refl)
literal_leaf (Keyword _) e a h = absurd (cc h)
literal_leaf (Name name) e a h = absurd (cc h)
literal_leaf (Sign s) e a h = absurd (cc h)

free_where_none : (o : Option Reserved) → is_none o ≡ true → is_free o ≡ true
free_where_none None h = refl
free_where_none (Some k) h = absurd (cc h)

free_word : (k : Reserved) (n : List ℕ) → is_free_name (spelling k) ≡ true → Some (spelling k) ≡ Some n →
    is_free_name n ≡ true
free_word k n a h = let is : spelling k ≡ n = cc h in subst (λ q. is_free_name q ≡ true) is a

pub name_free : (t : Token) (n : List ℕ) → is_token t ≡ true → name_of t ≡ Some n → is_free_name n ≡ true
unfolding name_of may_be_name is_name keyword_of keywords spelling
name_free (Name name) n a h =
    let is : name ≡ n = cc h in
    let parts = and_parts (is_name name) (is_none (keyword_of name)) a in
    subst (λ q. is_free_name q ≡ true) is (and_from (is_name name) (is_free (keyword_of name)) parts.0
    (free_where_none (keyword_of name) parts.1))
name_free (Keyword word.First) n a h = free_word word.First n refl h
name_free (Keyword word.Key) n a h = free_word word.Key n refl h
name_free (Keyword word.Last) n a h = free_word word.Last n refl h
name_free (Keyword word.Level) n a h = free_word word.Level n refl h
name_free (Keyword word.Locked) n a h = free_word word.Locked n refl h
name_free (Keyword word.No) n a h = free_word word.No n refl h
name_free (Keyword word.Nothing) n a h = free_word word.Nothing n refl h
name_free (Keyword word.Read) n a h = free_word word.Read n refl h
name_free (Keyword word.Share) n a h = free_word word.Share n refl h
name_free (Keyword word.Source) n a h = free_word word.Source n refl h
name_free (Keyword word.Target) n a h = free_word word.Target n refl h
name_free (Keyword word.Work) n a h = free_word word.Work n refl h
name_free (Keyword _) n a h = absurd (cc h)
name_free (Integer i) n a h = absurd (cc h)
name_free (Quoted text) n a h = absurd (cc h)
name_free (Sign s) n a h = absurd (cc h)

-- an operator over trees that fit
over_both : (d a b : ℕ) → suc (d + a) ≤ 64 → suc d + b ≤ 64 → d + suc (max a b) ≤ 64
over_both d a b l r =
    elim (cases_lt a b) [
      | inl less ↦ let m : max a b ≡ b = max-eq_right (omega (arith, less)) in omega (arith, m, r)
      | inr other ↦ let m : max a b ≡ a = max-eq_left (omega (arith, other)) in omega (arith, m, l)
    ]

Fitting : Rule → Type 0
Fitting F = (d : ℕ) → Keeps is_token (F d) (Fits d)

joined : (o : BinaryOp) (d : ℕ) (left : Tree) → suc (d + height left) ≤ 64 → is_written left ≡ true → (right : Tree) →
    Fits (suc d) right →
    Keeps is_token (gives (binary o left right)) (Fits d)
joined o d left low w right r =
    keeps_gives is_token (Fits d) (binary o left right) (
      over_both d (height left) (height right) low r.0,
      and_from
          (is_written left) (is_written right) w r.1,
    )

operation_fits : (op : Token → Option BinaryOp) (operand : Rule) → Fitting operand → (d : ℕ) (left : Tree) →
    Fits d left →
    Keeps is_token (operation op operand d left) (Fits d)
unfolding operation Fitting
operation_fits op operand a d left f =
    keeps_reaches is_token (Fits d) nodes _ _ (takes_one op _)
    (λ low. keeps_bind is_token (λ o. o ≡ o) (Fits d) (one op) _ (keeps_one is_token (λ o. o ≡ o) op (λ t o b e. refl))
    (λ o u. keeps_bind is_token (Fits (suc d)) (Fits d) (operand (suc d)) _ (a (suc d)) (joined o d left low f.1)))

chain_fits : (op : Token → Option BinaryOp) (operand : Rule) → Fitting operand → Fitting (chain op operand)
unfolding chain Fitting
chain_fits op operand a d =
    keeps_bind is_token (Fits d) (Fits d) (operand d) _ (a d)
    (λ left f. keeps_more is_token (Fits d) (operation op operand d) (operation_fits op operand a d) left f)

module _ (F : Rule) (fits : Fitting F) where
  concatenation_fits : Fitting (concatenation F)
  unfolding concatenation sum product
  concatenation_fits = chain_fits concat_op (sum F) (chain_fits sum_op (product F) (chain_fits product_op F fits))

  comparison_fits : Fitting (comparison F)
  unfolding comparison compared Fitting
  comparison_fits d =
      keeps_bind is_token (Fits d) (Fits d) (concatenation F d) _ (concatenation_fits d)
      (λ left f. keeps_either is_token (Fits d) _ _ (operation_fits compare_op
      (concatenation F) concatenation_fits d left f) (keeps_gives is_token (Fits d) left f))

  tested_fits : (null : UnaryOp) (distinct : BinaryOp) (d : ℕ) (left : Tree) → suc (d + height left) ≤ 64 →
      is_written left ≡ true →
      Keeps is_token (tested null distinct F d left) (Fits d)
  unfolding tested Fitting
  tested_fits null distinct d left low w =
      keeps_either is_token (Fits d) _ _
      (keeps_token is_token (Fits d) (Keyword word.Null) _ (keeps_gives is_token (Fits d) (unary null left)
      (omega (arith, low), w)))
      (keeps_token is_token (Fits d) (Keyword word.Distinct) _ (keeps_token is_token (Fits d) (Keyword word.From) _
      (keeps_bind is_token (Fits (suc d)) (Fits d) (concatenation F (suc d)) _ (concatenation_fits (suc d))
      (joined distinct d left low w))))

  test_fits : (d : ℕ) (left : Tree) → Fits d left → Keeps is_token (test F d left) (Fits d)
  unfolding test
  test_fits d left f =
      keeps_reaches is_token (Fits d) nodes _ _ (takes_token (Keyword word.Is) _)
      (λ low. keeps_token is_token (Fits d) (Keyword word.Is) _
      (keeps_either is_token (Fits d) _ _ (keeps_token is_token (Fits d) (Keyword word.Not) _
      (tested_fits IsNotNull IsNotDistinctFrom d left low f.1))
      (tested_fits IsNull IsDistinctFrom d left low f.1)))

  predicate_fits : Fitting (predicate F)
  unfolding predicate Fitting
  predicate_fits d =
      keeps_bind is_token (Fits d) (Fits d) (comparison F d) _ (comparison_fits d)
      (λ left f. keeps_more is_token (Fits d) (test F d) (test_fits d) left f)

  negation_fits : Fitting (negation F)
  unfolding negation negation_over Fitting
  negation_fits d =
      keeps_knot is_token Fits (negation_over F)
      (λ P a e. keeps_either is_token (Fits e) _ _
      (keeps_reaches is_token (Fits e) nodes _ _ (takes_token (Keyword word.Not) _)
      (λ low. keeps_token is_token (Fits e) (Keyword word.Not) _
      (keeps_bind is_token (Fits (suc e)) (Fits e) (P (suc e)) _ (a (suc e))
      (λ tree f. let l = f.0 in keeps_gives is_token (Fits e) (unary Not tree) (omega (arith, l), f.1)))))
      (predicate_fits e)) d

  disjunction_fits : Fitting (disjunction F)
  unfolding disjunction conjunction
  disjunction_fits = chain_fits or_op (conjunction F) (chain_fits and_op (negation F) negation_fits)

leaf_fits : Fitting leaf
unfolding leaf called named Fitting
leaf_fits d =
    keeps_reaches is_token (Fits d) nodes _ _
    (takes_either _ _ (takes_first literal_of) (takes_either _ _ (takes_token action_name _) (takes_one name_of _)))
    (λ low. keeps_either is_token (Fits d) _ _
    (keeps_one is_token (Fits d) literal_of (λ t e a h. let l = literal_leaf t e a h in let one_node = l.0 in
    (omega (arith, low, one_node), l.1)))
    (keeps_either is_token (Fits d) _ _
    (keeps_token is_token (Fits d) action_name _ (keeps_token is_token (Fits d) (Sign sign.Open) _
    (keeps_token is_token (Fits d) (Sign sign.Close) _ (keeps_gives is_token (Fits d) action
    (omega (arith, low), refl)))))
    (keeps_bind is_token (λ n. is_free_name n ≡ true) (Fits d) (one name_of) _ (keeps_one is_token _ name_of name_free)
    (λ name w. keeps_either is_token (Fits d) _ _
    (keeps_token is_token (Fits d) (Sign sign.Dot) _ (keeps_bind is_token (λ n. is_free_name n ≡ true) (Fits d)
    (one name_of) _ (keeps_one is_token _ name_of name_free)
    (λ own u. keeps_gives is_token (Fits d) (column_of name own)
    (omega (arith, low), and_from (is_free_name name) (is_free_name own) w u))))
    (keeps_gives is_token (Fits d) (column name) (omega (arith, low), w))))))

factor_fits : Fitting factor
unfolding factor factor_over minus bracket Fitting
factor_fits d =
    keeps_knot is_token Fits factor_over
    (λ F a e. keeps_either is_token (Fits e) _ _
    (keeps_either is_token (Fits e) _ _ (leaf_fits e)
    (keeps_reaches is_token (Fits e) nodes _ _ (takes_token (Sign sign.Minus) _)
    (λ low. keeps_token is_token (Fits e) (Sign sign.Minus) _
    (keeps_bind is_token (Fits (suc e)) (Fits e) (F (suc e)) _ (a (suc e))
    (λ tree f. let l = f.0 in keeps_gives is_token (Fits e) (unary Negate tree) (omega (arith, l), f.1))))))
    (keeps_token is_token (Fits e) (Sign sign.Open) _ (keeps_bind is_token (Fits e) (Fits e) (disjunction F e) _
    (disjunction_fits F a e)
    (λ tree f. keeps_token is_token (Fits e) (Sign sign.Close) _ (keeps_gives is_token (Fits e) tree f))))) d

-- what is read of an expression is a tree within the limits, whatever stands behind it
pub expr_keeps : Keeps is_token expr (λ tree. (is_written tree ≡ true) × (height tree ≤ 64))
unfolding expr expr_at Fitting
expr_keeps = record {
  keeps = λ s tree z a l.
      let k = (disjunction_fits factor factor_fits 0).keeps s tree z a l in
      let low = k.0.0 in ((k.0.1, omega (arith, low)), k.1);
}

pub each_tree_is_within : (tokens : List Token) (tree : Tree) → list_all is_token tokens ≡ true →
    expr (λ k. 0) tokens tree [] →
    (is_written tree ≡ true) × (height tree ≤ 64)
each_tree_is_within tokens tree a l = (expr_keeps.keeps tokens tree [] a l).0
