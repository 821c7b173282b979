-- IS [NOT] NULL and IS [NOT] DISTINCT FROM, and NOT.
use Rattle.std.proofs.Common.{◌≡◌, ◌∷◌, ◌+◌, ◌<◌, ◌≤◌, ℕ, suc, Bool, true, false, not, List, [], length, Option, Some, None, refl, sym, ap, ◌∙◌, subst, arith}
use Rattle.std.proofs.lemmas.Bool.{and_parts}
use Rattle.pg_exprs.specs.declared.operator.BinaryOp.{BinaryOp}
use Rattle.pg_exprs.specs.declared.operator.BinaryOp.TheVariants.{IsDistinctFrom, IsNotDistinctFrom}
use Rattle.pg_exprs.specs.declared.operator.UnaryOp.{UnaryOp}
use Rattle.pg_exprs.specs.declared.operator.UnaryOp.TheVariants.{Not, IsNull, IsNotNull, Negate}
use Rattle.pg_grammar.specs.declared.fault.Fault.{Fault}
use Rattle.pg_grammar.specs.declared.fault.Fault.TheVariants.{Syntax, Deep}
use Rattle.pg_grammar.specs.Limits.{Limit, nodes}
use Rattle.pg_grammar.specs.Languages.{Lang, gives, bind, either, more, reaches, token}
use Rattle.pg_grammar.specs.Answers.{next, Lacks, Misses, Seen, read, failed, Reads}
use Rattle.pg_grammar.proofs.Leading.{Leads, leads_on}
use Rattle.pg_grammar.proofs.Words.{Starts, Bars, Spelled, spelled_gives, spelled_left, spelled_right, spelled_token, spelled_bind, spelled_more, begun_token, bars_reaches, bars_bind, bars_token, bars_either, bars_knot, starts_gives, starts_more, starts_reaches, starts_token}
use Rattle.pg_grammar.proofs.Combining.{reads_gives, reads_refused, reads_over, reads_bind_failed, leads_reaches, leads_bind, leads_token, leads_left, leads_right, leads_more, leads_no_more}
use Rattle.pg_grammar.proofs.Knots.{leads_knot}
use Rattle.pg_lexer.specs.declared.keyword.Keyword.{Keyword}
use Rattle.pg_lexer.specs.declared.keyword.Keyword.TheVariants as word
use Rattle.pg_lexer.specs.declared.sign.Sign.TheVariants as sign
use Rattle.pg_lexer.specs.declared.token.Token.{Token}
use Rattle.pg_lexer.specs.declared.token.Token.TheVariants as t
use Rattle.pg_lexer.specs.Keywords.{may_be_name}
use Rattle.pg_parse_expr.specs.Behind.{has, is_is, behind_factor, behind_product, behind_sum, behind_concatenation, behind_comparison, behind_predicate}
use Rattle.pg_parse_expr.specs.Grammar.{Rule, operation, chain, product, sum, concatenation, compared, comparison, tested, test, predicate, negation_over, negation, leaf, minus, bracket, disjunction, factor_over, factor}
use Rattle.pg_parse_expr.specs.Operators.{value_of, literal_of, name_of, compare_op, concat_op, sum_op, product_op}
use Rattle.pg_parse_expr.specs.Rest.{distinct_operand}
use Rattle.pg_parse_expr.specs.Tree.{Tree, height, unary, binary}
use Rattle.pg_parse_expr.proofs.After.{any, starts_any, bars_any, comparison_before}
use Rattle.pg_parse_expr.proofs.Growth.{rises_not}
use Rattle.pg_parse_expr.proofs.Leaves.{bars_leaf}
use Rattle.pg_parse_expr.proofs.Spelling.{spelled_concatenation, spelled_negation}
use Rattle.pg_parse_expr.proofs.Steps.{reads_shorter}

other_word : (k k' : Keyword) (xs ys : List Token) → xs ≡ t.Keyword k ∷ ys → (k ≡ k' → ⊥) →
    next xs ≡ Some (t.Keyword k') → ⊥
other_word k k' xs ys e other n = let h : Some (t.Keyword k) ≡ Some (t.Keyword k') = sym
    (ap next e) ∙ n in let f : k ≡ k' = cc h in other f

module _ (null : UnaryOp) (distinct : BinaryOp) (d : ℕ) (left : Tree) where
  operand : Lang Token Tree
  operand = bind (concatenation factor (suc d)) (λ right. gives (binary distinct left right))

  spelled_operand_of : Spelled operand
  unfolding operand
  spelled_operand_of =
      spelled_bind (concatenation factor (suc d)) (λ right. gives (binary distinct left right))
      (spelled_concatenation (suc d)) (λ right. spelled_gives (binary distinct left right))

  spelled_tested : Spelled (tested null distinct factor d left)
  unfolding tested
  spelled_tested =
      spelled_left (token (t.Keyword word.Null) (gives (unary null left)))
      (token (t.Keyword word.Distinct) (token (t.Keyword word.From)
      (bind (concatenation factor (suc d)) (λ right. gives (binary distinct left right)))))
      (spelled_token (t.Keyword word.Null) (gives (unary null left)) (spelled_gives (unary null left)))

  bars_tested : (xs : List Token) → Misses (t.Keyword word.Null) xs → Misses (t.Keyword word.Distinct) xs →
      Bars (tested null distinct factor d left) behind_comparison 1 xs
  unfolding tested operand
  bars_tested xs no_null no_distinct =
      bars_either behind_comparison (token (t.Keyword word.Null) (gives (unary null left)))
      (token (t.Keyword word.Distinct) (token (t.Keyword word.From) operand)) 1 xs
      (bars_token behind_comparison (t.Keyword word.Null) (gives (unary null left)) 0 xs no_null.misses)
      (bars_token behind_comparison (t.Keyword word.Distinct)
      (token (t.Keyword word.From) operand) 0 xs no_distinct.misses)

  pub tested_null : (xs ys : List Token) (tree : Tree) → xs ≡ t.Keyword word.Null ∷ ys → tree ≡ unary null left →
      Reads (tested null distinct factor d left) behind_comparison xs (read tree ys)
  unfolding tested operand
  tested_null xs ys tree e h =
      (leads_on
      (leads_left (token (t.Keyword word.Null) (gives (unary null left)))
      (token (t.Keyword word.Distinct) (token (t.Keyword word.From) operand)) behind_comparison xs
      (bars_token behind_comparison (t.Keyword word.Distinct) (token (t.Keyword word.From) operand) 0 xs
      (other_word word.Null word.Distinct xs ys e (λ f. cc f))))
      (leads_token (t.Keyword word.Null) (gives (unary null left)) behind_comparison xs ys e)).to (read tree ys)
      (reads_gives (unary null left) tree behind_comparison ys h)

  pub tested_refused : (n : ℕ) (xs : List Token) → Misses (t.Keyword word.Null) xs →
      Misses (t.Keyword word.Distinct) xs → n ≡ length xs →
      Reads (tested null distinct factor d left) behind_comparison xs (failed (Syntax n))
  tested_refused n xs no_null no_distinct e =
      reads_refused (tested null distinct factor d left) behind_comparison xs n
      (bars_tested xs no_null no_distinct) spelled_tested e

  leads_distinct : (xs ys : List Token) → xs ≡ t.Keyword word.Distinct ∷ ys →
      Leads (tested null distinct factor d left) xs (token (t.Keyword word.From) operand) ys behind_comparison
  unfolding tested operand
  leads_distinct xs ys e =
      leads_on
      (leads_right (token (t.Keyword word.Null) (gives (unary null left)))
      (token (t.Keyword word.Distinct) (token (t.Keyword word.From) operand)) behind_comparison xs
      (bars_token behind_comparison (t.Keyword word.Null) (gives (unary null left)) 0 xs
      (other_word word.Distinct word.Null xs ys e (λ f. cc f))))
      (leads_token (t.Keyword word.Distinct) (token (t.Keyword word.From) operand) behind_comparison xs ys e)

  pub tested_no_from : (n : ℕ) (xs ys : List Token) → xs ≡ t.Keyword word.Distinct ∷ ys →
      Misses (t.Keyword word.From) ys → n ≡ length ys →
      Reads (tested null distinct factor d left) behind_comparison xs (failed (Syntax n))
  tested_no_from n xs ys e m h =
      (leads_distinct xs ys e).to (failed (Syntax n))
      (reads_refused (token (t.Keyword word.From) operand) behind_comparison ys n
      (bars_token behind_comparison (t.Keyword word.From) operand 0 ys m.misses)
      (spelled_token (t.Keyword word.From) operand spelled_operand_of) h)

  pub tested_distinct : (xs ys zs : List Token) (o : Seen Token Tree) → xs ≡ t.Keyword word.Distinct ∷ ys →
      ys ≡ t.Keyword word.From ∷ zs →
      Reads (distinct_operand distinct d left) behind_comparison zs o → Reads
      (tested null distinct factor d left) behind_comparison xs o
  unfolding operand distinct_operand
  tested_distinct xs ys zs o e f r =
      (leads_on (leads_distinct xs ys e) (leads_token (t.Keyword word.From) operand behind_comparison ys zs f)).to o r

-- the right operand of DISTINCT FROM
module _ (distinct : BinaryOp) (d : ℕ) (left : Tree) where
  pub distinct_failed : (k : ℕ) (xs : List Token) (e : Fault) → k ≡ suc d →
      Reads (concatenation factor k) behind_concatenation xs (failed e) →
      Reads (distinct_operand distinct d left) behind_comparison xs (failed e)
  unfolding distinct_operand
  distinct_failed k xs e same r =
      reads_bind_failed (concatenation factor (suc d)) (λ right. gives
      (binary distinct left right)) behind_concatenation behind_comparison xs e
      (subst (λ j. Reads (concatenation factor j) behind_concatenation xs (failed e)) same r)
      (λ right. starts_gives behind_concatenation behind_comparison (binary distinct left right) comparison_before)
      (λ right. spelled_gives (binary distinct left right))

  pub distinct_read : (k : ℕ) (xs ys : List Token) (right tree : Tree) → k ≡ suc d →
      Reads (concatenation factor k) behind_concatenation xs (read right ys) →
      tree ≡ binary distinct left right →
      Reads (distinct_operand distinct d left) behind_comparison xs (read tree ys)
  unfolding distinct_operand
  distinct_read k xs ys right tree same r h =
      (leads_bind (concatenation factor (suc d)) (λ right. gives
      (binary distinct left right)) behind_concatenation behind_comparison xs ys right
      (subst (λ j. Reads (concatenation factor j) behind_concatenation xs (read right ys)) same r)
      (λ right. starts_gives behind_concatenation behind_comparison (binary distinct left right) comparison_before)).to
      (read tree ys) (reads_gives (binary distinct left right) tree behind_comparison ys h)

-- IS
module _ (d : ℕ) (left : Tree) where
  with_not : Lang Token Tree
  with_not = token (t.Keyword word.Not) (tested IsNotNull IsNotDistinctFrom factor d left)

  without : Lang Token Tree
  without = tested IsNull IsDistinctFrom factor d left

  pub test_deep : (n : ℕ) (xs ys : List Token) → 64 ≤ d + height left → xs ≡ t.Keyword word.Is ∷ ys → n ≡ length xs →
      Reads (test factor d left) behind_comparison xs (failed (Deep n))
  unfolding test with_not without
  test_deep n xs ys deep e h =
      reads_over nodes (suc (d + height left)) (token (t.Keyword word.Is)
      (either with_not without)) behind_comparison xs ys (t.Keyword word.Is) n (omega (arith, deep)) e
      (begun_token (t.Keyword word.Is) (either with_not without)
      (spelled_right with_not without (spelled_tested IsNull IsDistinctFrom d left))) h

  leads_is : (xs ys : List Token) → d + height left < 64 → xs ≡ t.Keyword word.Is ∷ ys →
      Leads (test factor d left) xs (either with_not without) ys behind_comparison
  unfolding test with_not without
  leads_is xs ys fits e =
      leads_on (leads_reaches nodes (suc (d + height left)) (token (t.Keyword word.Is)
      (either with_not without)) behind_comparison xs (omega (arith, fits)))
      (leads_token (t.Keyword word.Is) (either with_not without) behind_comparison xs ys e)

  pub test_not : (xs ys zs : List Token) (o : Seen Token Tree) → d + height left < 64 → xs ≡ t.Keyword word.Is ∷ ys →
      ys ≡ t.Keyword word.Not ∷ zs →
      Reads (tested IsNotNull IsNotDistinctFrom factor d left) behind_comparison zs o → Reads
      (test factor d left) behind_comparison xs o
  unfolding with_not without
  test_not xs ys zs o fits e f r =
      (leads_on (leads_is xs ys fits e)
      (leads_on
      (leads_left with_not without behind_comparison ys
      (bars_tested IsNull IsDistinctFrom d left ys
      (record { misses = other_word word.Not word.Null ys zs f (λ q. cc q) })
      (record { misses = other_word word.Not word.Distinct ys zs f (λ q. cc q) })))
      (leads_token (t.Keyword word.Not)
      (tested IsNotNull IsNotDistinctFrom factor d left) behind_comparison ys zs f))).to o r

  pub test_plain : (xs ys : List Token) (o : Seen Token Tree) → d + height left < 64 → xs ≡ t.Keyword word.Is ∷ ys →
      Misses (t.Keyword word.Not) ys →
      Reads (tested IsNull IsDistinctFrom factor d left) behind_comparison ys o → Reads
      (test factor d left) behind_comparison xs o
  unfolding with_not without
  test_plain xs ys o fits e m r =
      (leads_on (leads_is xs ys fits e)
      (leads_right with_not without behind_comparison ys
      (bars_token behind_comparison (t.Keyword word.Not)
      (tested IsNotNull IsNotDistinctFrom factor d left) 0 ys m.misses))).to o r

-- what may stand behind
is_before : behind_comparison (Some (t.Keyword word.Is)) ≡ true
unfolding compare_op concat_op sum_op product_op has behind_factor behind_product behind_sum behind_concatenation behind_comparison
is_before = refl

is_not_behind : behind_predicate (Some (t.Keyword word.Is)) ≡ false
unfolding compare_op concat_op sum_op product_op has behind_factor behind_product behind_sum behind_concatenation behind_comparison behind_predicate
is_not_behind = refl

pub predicate_before : (o : Option Token) → behind_predicate o ≡ true → behind_comparison o ≡ true
unfolding behind_predicate
predicate_before o h = (and_parts (behind_comparison o) (not (is_is o)) h).0

starts_test : (d : ℕ) (left : Tree) (g : Option Token → Bool) → Starts behind_comparison (test factor d left) g
unfolding test
starts_test d left g =
    starts_reaches behind_comparison g nodes (suc (d + height left))
    (token (t.Keyword word.Is) (either (token (t.Keyword word.Not) (tested IsNotNull IsNotDistinctFrom factor d left))
    (tested IsNull IsDistinctFrom factor d left)))
    (starts_token behind_comparison g (t.Keyword word.Is) (either
    (token (t.Keyword word.Not) (tested IsNotNull IsNotDistinctFrom factor d left))
    (tested IsNull IsDistinctFrom factor d left)) is_before)

pub starts_tests : (d : ℕ) (left : Tree) → Starts behind_comparison (more (test factor d) left) behind_predicate
starts_tests d left =
    starts_more behind_comparison behind_predicate (test factor d) left
    (λ a. starts_test d a behind_comparison) predicate_before

test_some : (d : ℕ) (left v : Tree) (m : Limit → ℕ) (z : List Token) → test factor d left m [] v z → ⊥
unfolding test
test_some d left v m z l = let e : [] ≡ t.Keyword word.Is ∷ l.1.0 = l.1.1 in cc e

module _ (d : ℕ) where
  pub test_shorter : (left v : Tree) (xs zs : List Token) →
      Reads (test factor d left) behind_comparison xs (read v zs) → length zs < length xs
  test_shorter left v xs zs r = reads_shorter (test factor d left) behind_comparison xs zs v (test_some d left v) r

  turns : (left : Tree) (xs ys : List Token) → xs ≡ t.Keyword word.Is ∷ ys →
      Leads (more (test factor d) left) xs (bind (test factor d left) (more (test factor d))) xs behind_predicate
  turns left xs ys e =
      leads_more (test factor d) left behind_predicate xs (subst (λ u. behind_predicate (next u) ≡ false)
      (sym e) is_not_behind)

  pub tests_turn : (left v : Tree) (xs ys zs : List Token) → xs ≡ t.Keyword word.Is ∷ ys →
      Reads (test factor d left) behind_comparison xs (read v zs) →
      Leads (more (test factor d) left) xs (more (test factor d) v) zs behind_predicate
  tests_turn left v xs ys zs e r =
      leads_on (turns left xs ys e) (leads_bind (test factor d left)
      (more (test factor d)) behind_comparison behind_predicate xs zs v r (starts_tests d))

  pub tests_turn_failed : (left : Tree) (xs ys : List Token) (e : Fault) → xs ≡ t.Keyword word.Is ∷ ys →
      Reads (test factor d left) behind_comparison xs (failed e) →
      Reads (more (test factor d) left) behind_predicate xs (failed e)
  tests_turn_failed left xs ys e is r =
      (turns left xs ys is).to (failed e)
      (reads_bind_failed (test factor d left) (more (test factor d)) behind_comparison behind_predicate xs e r
      (starts_tests d) (λ u. spelled_more (test factor d) u))

  pub tests_end : (left : Tree) (xs : List Token) → Misses (t.Keyword word.Is) xs →
      Reads (more (test factor d) left) behind_predicate xs (read left xs)
  unfolding test
  tests_end left xs m =
      (leads_no_more (test factor d) left behind_comparison behind_predicate xs
      (bars_reaches behind_comparison nodes (suc (d + height left))
      (token (t.Keyword word.Is) (either (token (t.Keyword word.Not) (tested IsNotNull IsNotDistinctFrom factor d left))
      (tested IsNull IsDistinctFrom factor d left))) 1 xs
      (bars_token behind_comparison (t.Keyword word.Is) (either
      (token (t.Keyword word.Not) (tested IsNotNull IsNotDistinctFrom factor d left))
      (tested IsNull IsDistinctFrom factor d left)) 0 xs m.misses))
      (starts_tests d)).to (read left xs) (reads_gives left left behind_predicate xs refl)

  pub predicate_failed : (xs : List Token) (e : Fault) → Reads (comparison factor d) behind_comparison xs (failed e) →
      Reads (predicate factor d) behind_predicate xs (failed e)
  unfolding predicate
  predicate_failed xs e r =
      reads_bind_failed (comparison factor d) (more (test factor d)) behind_comparison behind_predicate xs e r
      (starts_tests d) (λ u. spelled_more (test factor d) u)

  pub predicate_read : (xs ys : List Token) (x : Tree) (o : Seen Token Tree) →
      Reads (comparison factor d) behind_comparison xs (read x ys) →
      Reads (more (test factor d) x) behind_predicate ys o → Reads (predicate factor d) behind_predicate xs o
  unfolding predicate
  predicate_read xs ys x o r s =
      (leads_bind (comparison factor d) (more (test factor d)) behind_comparison behind_predicate xs ys x r
      (starts_tests d)).to o s

-- no predicate begins with NOT
bars_chain : (op : Token → Option BinaryOp) (operand : Rule) (d : ℕ) (xs : List Token) → Bars (operand d) any 1 xs →
    Bars (chain op operand d) any 1 xs
unfolding chain
bars_chain op operand d xs b =
    bars_bind any any (operand d) (more (operation op operand d)) 1 xs b
    (λ x. starts_any (more (operation op operand d) x) any)

not_lacks_literal : (xs ys : List Token) → xs ≡ t.Keyword word.Not ∷ ys → Lacks literal_of xs
unfolding literal_of value_of
not_lacks_literal xs ys e = record {
  lacks = λ u x n h.
      let f : Some (t.Keyword word.Not) ≡ Some u = sym (ap next e) ∙ n in
      let same : t.Keyword word.Not ≡ u = cc f in
      let g : None ≡ Some x = ap literal_of same ∙ h in
      cc g;
}

not_lacks_name : (xs ys : List Token) → xs ≡ t.Keyword word.Not ∷ ys → Lacks name_of xs
unfolding name_of may_be_name
not_lacks_name xs ys e = record {
  lacks = λ u x n h.
      let f : Some (t.Keyword word.Not) ≡ Some u = sym (ap next e) ∙ n in
      let same : t.Keyword word.Not ≡ u = cc f in
      let g : None ≡ Some x = ap name_of same ∙ h in
      cc g;
}

no_sign : (s : Token) (xs ys : List Token) → xs ≡ t.Keyword word.Not ∷ ys → (t.Keyword word.Not ≡ s → ⊥) →
    next xs ≡ Some s → ⊥
no_sign s xs ys e other n = let f : Some (t.Keyword word.Not) ≡ Some s = sym
    (ap next e) ∙ n in let same : t.Keyword word.Not ≡ s = cc f in other same

bars_factor_not : (d : ℕ) (xs ys : List Token) → xs ≡ t.Keyword word.Not ∷ ys → Bars (factor d) any 1 xs
unfolding factor factor_over minus bracket
bars_factor_not d xs ys e =
    bars_knot any factor_over 1 xs
    (λ F b j. bars_either any (either (leaf j) (minus F j)) (bracket F j) 1 xs
    (bars_either any (leaf j) (minus F j) 1 xs (bars_leaf any j xs (not_lacks_literal xs ys e) (not_lacks_name xs ys e))
    (bars_reaches any nodes (suc j) (token (t.Sign sign.Minus) (bind (F (suc j)) (λ a. gives (unary Negate a)))) 1 xs
    (bars_token any (t.Sign sign.Minus) (bind (F (suc j)) (λ a. gives (unary Negate a))) 0 xs
    (no_sign (t.Sign sign.Minus) xs ys e (λ q. cc q)))))
    (bars_token any (t.Sign sign.Open) (bind (disjunction F j) (λ w. token (t.Sign sign.Close) (gives w))) 0 xs
    (no_sign (t.Sign sign.Open) xs ys e (λ q. cc q)))) d

bars_predicate_not : (d : ℕ) (xs ys : List Token) → xs ≡ t.Keyword word.Not ∷ ys → Bars (predicate factor d) any 1 xs
unfolding predicate comparison concatenation sum product
bars_predicate_not d xs ys e =
    bars_bind any any (comparison factor d) (more (test factor d)) 1 xs
    (bars_bind any any (concatenation factor d) (compared factor d) 1 xs
    (bars_chain concat_op (sum factor) d xs (bars_chain sum_op (product factor) d xs
    (bars_chain product_op factor d xs (bars_factor_not d xs ys e))))
    (λ x. starts_any (compared factor d x) any))
    (λ x. starts_any (more (test factor d) x) any)

-- NOT
module _ (d : ℕ) where
  nots : Lang Token Tree
  nots = reaches nodes (suc d) (token (t.Keyword word.Not) (bind (negation factor (suc d)) (λ a. gives (unary Not a))))

  spelled_under : Spelled (bind (negation factor (suc d)) (λ a. gives (unary Not a)))
  spelled_under =
      spelled_bind (negation factor (suc d)) (λ a. gives (unary Not a)) (spelled_negation (suc d))
      (λ a. spelled_gives (unary Not a))

  leads_negation : (xs : List Token) → Leads (negation factor d) xs
      (either nots (predicate factor d)) xs behind_predicate
  unfolding negation negation_over nots
  leads_negation xs = leads_knot (negation_over factor) rises_not behind_predicate d xs

  pub negation_plain : (xs : List Token) (o : Seen Token Tree) → Misses (t.Keyword word.Not) xs →
      Reads (predicate factor d) behind_predicate xs o → Reads (negation factor d) behind_predicate xs o
  unfolding nots
  negation_plain xs o m r =
      (leads_on (leads_negation xs)
      (leads_right nots (predicate factor d) behind_predicate xs
      (bars_reaches behind_predicate nodes (suc d) (token (t.Keyword word.Not)
      (bind (negation factor (suc d)) (λ a. gives (unary Not a)))) 1 xs
      (bars_token behind_predicate (t.Keyword word.Not) (bind (negation factor (suc d))
      (λ a. gives (unary Not a))) 0 xs m.misses)))).to o r

  leads_nots : (xs ys : List Token) → xs ≡ t.Keyword word.Not ∷ ys →
      Leads (negation factor d) xs nots xs behind_predicate
  leads_nots xs ys e =
      leads_on (leads_negation xs)
      (leads_left nots (predicate factor d) behind_predicate xs
      (bars_any (predicate factor d) behind_predicate 1 xs (bars_predicate_not d xs ys e)))

  pub negation_deep : (n : ℕ) (xs ys : List Token) → 64 ≤ d → xs ≡ t.Keyword word.Not ∷ ys → n ≡ length xs →
      Reads (negation factor d) behind_predicate xs (failed (Deep n))
  unfolding nots
  negation_deep n xs ys deep e h =
      (leads_nots xs ys e).to (failed (Deep n))
      (reads_over nodes (suc d) (token (t.Keyword word.Not) (bind (negation factor (suc d))
      (λ a. gives (unary Not a)))) behind_predicate xs ys (t.Keyword word.Not) n (omega (arith, deep)) e
      (begun_token (t.Keyword word.Not) (bind (negation factor (suc d)) (λ a. gives (unary Not a))) spelled_under) h)

  leads_under : (xs ys : List Token) → d < 64 → xs ≡ t.Keyword word.Not ∷ ys →
      Leads (negation factor d) xs (bind (negation factor (suc d)) (λ a. gives (unary Not a))) ys behind_predicate
  unfolding nots
  leads_under xs ys fits e =
      leads_on (leads_nots xs ys e)
      (leads_on (leads_reaches nodes (suc d) (token (t.Keyword word.Not)
      (bind (negation factor (suc d)) (λ a. gives (unary Not a)))) behind_predicate xs (omega (arith, fits)))
      (leads_token (t.Keyword word.Not) (bind (negation factor (suc d))
      (λ a. gives (unary Not a))) behind_predicate xs ys e))

  pub negation_failed : (k : ℕ) (xs ys : List Token) (e : Fault) → d < 64 → xs ≡ t.Keyword word.Not ∷ ys → k ≡ suc d →
      Reads (negation factor k) behind_predicate ys (failed e) → Reads (negation factor d) behind_predicate xs
      (failed e)
  negation_failed k xs ys e fits is same r =
      (leads_under xs ys fits is).to (failed e)
      (reads_bind_failed (negation factor (suc d)) (λ a. gives (unary Not a)) behind_predicate behind_predicate ys e
      (subst (λ j. Reads (negation factor j) behind_predicate ys (failed e)) same r)
      (λ a. starts_gives behind_predicate behind_predicate (unary Not a) (λ o h. h)) (λ a. spelled_gives (unary Not a)))

  pub negation_read : (k : ℕ) (xs ys zs : List Token) (a tree : Tree) → d < 64 → xs ≡ t.Keyword word.Not ∷ ys →
      k ≡ suc d →
      Reads (negation factor k) behind_predicate ys (read a zs) → tree ≡ unary Not a → Reads
      (negation factor d) behind_predicate xs (read tree zs)
  negation_read k xs ys zs a tree fits is same r h =
      (leads_on (leads_under xs ys fits is)
      (leads_bind (negation factor (suc d)) (λ a. gives (unary Not a)) behind_predicate behind_predicate ys zs a
      (subst (λ j. Reads (negation factor j) behind_predicate ys (read a zs)) same r)
      (λ a. starts_gives behind_predicate behind_predicate (unary Not a) (λ o h. h)))).to
      (read tree zs) (reads_gives (unary Not a) tree behind_predicate zs h)

-- what one more test answers, and where there is none
pub ruleset test_turns = (tests_turn, tests_turn_failed, tests_end, test_shorter)

-- what a test answers by its words
pub ruleset tested_words = (tested_null, tested_refused, tested_no_from, tested_distinct)

-- what NOT, and none, answers
pub ruleset negations = (negation_plain, negation_deep, negation_failed, negation_read)

-- what IS [NOT] DISTINCT FROM answers
pub ruleset distinctions = (distinct_failed, distinct_read)
