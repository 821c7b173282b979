-- Brackets of any depth: count those that open, read what the innermost hold, and close one a turn.
use Rattle.std.proofs.Common.{◌≡◌, ◌∷◌, ◌++◌, ℕ, zero, suc, true, List, length, replicate, Some, None, refl, sym, ap, ◌∙◌, subst, inl, inr}
use Rattle.pg_grammar.specs.declared.fault.Fault.{Fault}
use Rattle.pg_grammar.specs.declared.fault.Fault.TheVariants.{Syntax}
use Rattle.pg_grammar.specs.Limits.{Limit}
use Rattle.pg_grammar.specs.Languages.{Lang, gives, bind, either, more, token}
use Rattle.pg_grammar.specs.Answers.{next, Lacks, Misses, Seen, read, failed, Reads}
use Rattle.pg_grammar.proofs.Leading.{Leads, leads_on, leads_behind}
use Rattle.pg_grammar.proofs.Words.{Starts, Bars, Spelled, spelled_gives, spelled_token, spelled_bind, spelled_more, bars_token, starts_bind, starts_token}
use Rattle.pg_grammar.proofs.Combining.{reads_gives, reads_refused, reads_bind_failed, leads_bind, leads_token}
use Rattle.pg_grammar.proofs.Knots.{knot_opens, knot_closes}
use Rattle.pg_lexer.specs.declared.keyword.Keyword.TheVariants as word
use Rattle.pg_lexer.specs.declared.sign.Sign.TheVariants as sign
use Rattle.pg_lexer.specs.declared.token.Token.{Token}
use Rattle.pg_lexer.specs.declared.token.Token.TheVariants as t
use Rattle.pg_parse_expr.specs.declared.level.Level.TheVariants.{Or, And, Concat, Sum, Product}
use Rattle.pg_parse_expr.specs.Behind.{has, behind_factor, behind_product, behind_sum, behind_concatenation, behind_comparison, behind_predicate, behind_conjunction, behind_expr}
use Rattle.pg_parse_expr.specs.Grammar.{chain, product, sum, concatenation, compared, comparison, test, predicate, negation_over, negation, conjunction, disjunction, leaf, minus, bracket, factor_over, factor, expr_at}
use Rattle.pg_parse_expr.specs.Levels.{step_at, chain_at, behind_at, operand_at, before_at}
use Rattle.pg_parse_expr.specs.Operators.{value_of, literal_of, name_of, or_op, and_op, compare_op, concat_op, sum_op, product_op}
use Rattle.pg_parse_expr.specs.Rest.{behind_factor_at, behind_product_at, behind_sum_at, behind_concatenation_at, behind_comparison_at, behind_predicate_at, behind_conjunction_at, closings, closed}
use Rattle.pg_parse_expr.specs.Tree.{Tree}
use Rattle.pg_parse_expr.proofs.After.{any, starts_steps}
use Rattle.pg_parse_expr.proofs.Growth.{rises_factor, rises_not}
use Rattle.pg_parse_expr.proofs.Leaves.{bars_leaf}
use Rattle.pg_parse_expr.proofs.Steps.{starts_compared}
use Rattle.pg_parse_expr.proofs.Testing.{starts_tests}
use Rattle.pg_parse_expr.proofs.Spelling.{spelled_compared}

no_literal : (xs : List Token) → next xs ≡ Some (t.Sign sign.Open) → Lacks literal_of xs
unfolding literal_of value_of
no_literal xs h = record {
  lacks = λ u x n e.
      let f : Some (t.Sign sign.Open) ≡ Some u = sym h ∙ n in
      let same : t.Sign sign.Open ≡ u = cc f in
      let g : None ≡ Some x = ap literal_of same ∙ e in
      cc g;
}

no_name : (xs : List Token) → next xs ≡ Some (t.Sign sign.Open) → Lacks name_of xs
unfolding name_of
no_name xs h = record {
  lacks = λ u x n e.
      let f : Some (t.Sign sign.Open) ≡ Some u = sym h ∙ n in
      let same : t.Sign sign.Open ≡ u = cc f in
      let g : None ≡ Some x = ap name_of same ∙ e in
      cc g;
}

-- the levels by their names
pub operand_or : (d : ℕ) (xs : List Token) (o : Seen Token Tree) → Reads (chain_at And d) (behind_at And) xs o →
    Reads (operand_at Or d) (before_at Or) xs o
unfolding chain_at behind_at conjunction behind_conjunction
operand_or d xs o r = r

pub operand_concat : (d : ℕ) (xs : List Token) (o : Seen Token Tree) → Reads (chain_at Sum d) (behind_at Sum) xs o →
    Reads (operand_at Concat d) (before_at Concat) xs o
unfolding chain_at behind_at sum behind_sum
operand_concat d xs o r = r

pub operand_sum : (d : ℕ) (xs : List Token) (o : Seen Token Tree) →
    Reads (chain_at Product d) (behind_at Product) xs o → Reads (operand_at Sum d) (before_at Sum) xs o
unfolding chain_at behind_at product behind_product
operand_sum d xs o r = r

pub chain_concat : (d : ℕ) (xs : List Token) (o : Seen Token Tree) → Reads (chain_at Concat d) (behind_at Concat) xs o →
    Reads (concatenation factor d) behind_concatenation xs o
unfolding chain_at behind_at concatenation behind_concatenation
chain_concat d xs o r = r

pub chain_or : (d : ℕ) (xs : List Token) (o : Seen Token Tree) → Reads (chain_at Or d) (behind_at Or) xs o →
    Reads (expr_at d) behind_expr xs o
unfolding chain_at behind_at expr_at disjunction behind_expr
chain_or d xs o r = r

-- the rest of an expression, level by level
module _ (d : ℕ) where
  starts_conjunction_at : (a : Tree) → Starts behind_conjunction (behind_conjunction_at d a) behind_expr
  unfolding behind_conjunction_at behind_at behind_expr
  starts_conjunction_at a = starts_steps Or d a

  starts_predicate_at : (a : Tree) → Starts behind_predicate (behind_predicate_at d a) behind_expr
  unfolding behind_predicate_at behind_at behind_conjunction
  starts_predicate_at a =
      starts_bind behind_predicate behind_conjunction behind_expr (more (step_at And d) a) (behind_conjunction_at d)
      (starts_steps And d a) starts_conjunction_at

  starts_comparison_at : (a : Tree) → Starts behind_comparison (behind_comparison_at d a) behind_expr
  unfolding behind_comparison_at
  starts_comparison_at a =
      starts_bind behind_comparison behind_predicate behind_expr (more (test factor d) a) (behind_predicate_at d)
      (starts_tests d a) starts_predicate_at

  starts_concatenation_at : (a : Tree) → Starts behind_concatenation (behind_concatenation_at d a) behind_expr
  unfolding behind_concatenation_at
  starts_concatenation_at a =
      starts_bind behind_concatenation behind_comparison behind_expr (compared factor d a) (behind_comparison_at d)
      (starts_compared d a) starts_comparison_at

  starts_sum_at : (a : Tree) → Starts behind_sum (behind_sum_at d a) behind_expr
  unfolding behind_sum_at behind_at behind_concatenation
  starts_sum_at a =
      starts_bind behind_sum behind_concatenation behind_expr (more (step_at Concat d) a) (behind_concatenation_at d)
      (starts_steps Concat d a) starts_concatenation_at

  starts_product_at : (a : Tree) → Starts behind_product (behind_product_at d a) behind_expr
  unfolding behind_product_at behind_at behind_sum
  starts_product_at a =
      starts_bind behind_product behind_sum behind_expr (more (step_at Sum d) a) (behind_sum_at d)
      (starts_steps Sum d a) starts_sum_at

  spelled_conjunction_at : (a : Tree) → Spelled (behind_conjunction_at d a)
  unfolding behind_conjunction_at
  spelled_conjunction_at a = spelled_more (step_at Or d) a

  spelled_predicate_at : (a : Tree) → Spelled (behind_predicate_at d a)
  unfolding behind_predicate_at
  spelled_predicate_at a =
      spelled_bind (more (step_at And d) a) (behind_conjunction_at d)
      (spelled_more (step_at And d) a) spelled_conjunction_at

  spelled_comparison_at : (a : Tree) → Spelled (behind_comparison_at d a)
  unfolding behind_comparison_at
  spelled_comparison_at a =
      spelled_bind (more (test factor d) a) (behind_predicate_at d)
      (spelled_more (test factor d) a) spelled_predicate_at

  spelled_concatenation_at : (a : Tree) → Spelled (behind_concatenation_at d a)
  unfolding behind_concatenation_at
  spelled_concatenation_at a =
      spelled_bind (compared factor d a) (behind_comparison_at d) (spelled_compared d a) spelled_comparison_at

  spelled_sum_at : (a : Tree) → Spelled (behind_sum_at d a)
  unfolding behind_sum_at
  spelled_sum_at a =
      spelled_bind (more (step_at Concat d) a) (behind_concatenation_at d)
      (spelled_more (step_at Concat d) a) spelled_concatenation_at

  spelled_product_at : (a : Tree) → Spelled (behind_product_at d a)
  unfolding behind_product_at
  spelled_product_at a =
      spelled_bind (more (step_at Sum d) a) (behind_sum_at d) (spelled_more (step_at Sum d) a) spelled_sum_at

  spelled_factor_at : (a : Tree) → Spelled (behind_factor_at d a)
  unfolding behind_factor_at
  spelled_factor_at a =
      spelled_bind (more (step_at Product d) a) (behind_product_at d)
      (spelled_more (step_at Product d) a) spelled_product_at

  pub conjunction_at : (a : Tree) (xs : List Token) (o : Seen Token Tree) →
      Reads (more (step_at Or d) a) (behind_at Or) xs o → Reads (behind_conjunction_at d a) behind_expr xs o
  unfolding behind_conjunction_at behind_at behind_expr
  conjunction_at a xs o r = r

  pub predicate_at_failed : (a : Tree) (xs : List Token) (e : Fault) →
      Reads (more (step_at And d) a) (behind_at And) xs (failed e) →
      Reads (behind_predicate_at d a) behind_expr xs (failed e)
  unfolding behind_predicate_at behind_at behind_conjunction
  predicate_at_failed a xs e r =
      reads_bind_failed (more (step_at And d) a)
      (behind_conjunction_at d) behind_conjunction behind_expr xs e r starts_conjunction_at spelled_conjunction_at

  pub predicate_at_read : (a b : Tree) (xs ys : List Token) (o : Seen Token Tree) →
      Reads (more (step_at And d) a) (behind_at And) xs (read b ys) →
      Reads (behind_conjunction_at d b) behind_expr ys o → Reads (behind_predicate_at d a) behind_expr xs o
  unfolding behind_predicate_at behind_at behind_conjunction
  predicate_at_read a b xs ys o r s =
      (leads_bind (more (step_at And d) a)
      (behind_conjunction_at d) behind_conjunction behind_expr xs ys b r starts_conjunction_at).to o s

  pub comparison_at_failed : (a : Tree) (xs : List Token) (e : Fault) →
      Reads (more (test factor d) a) behind_predicate xs (failed e) →
      Reads (behind_comparison_at d a) behind_expr xs (failed e)
  unfolding behind_comparison_at
  comparison_at_failed a xs e r =
      reads_bind_failed (more (test factor d) a)
      (behind_predicate_at d) behind_predicate behind_expr xs e r starts_predicate_at spelled_predicate_at

  pub comparison_at_read : (a b : Tree) (xs ys : List Token) (o : Seen Token Tree) →
      Reads (more (test factor d) a) behind_predicate xs (read b ys) →
      Reads (behind_predicate_at d b) behind_expr ys o → Reads (behind_comparison_at d a) behind_expr xs o
  unfolding behind_comparison_at
  comparison_at_read a b xs ys o r s =
      (leads_bind (more (test factor d) a)
      (behind_predicate_at d) behind_predicate behind_expr xs ys b r starts_predicate_at).to o s

  pub concatenation_at_failed : (a : Tree) (xs : List Token) (e : Fault) →
      Reads (compared factor d a) behind_comparison xs (failed e) →
      Reads (behind_concatenation_at d a) behind_expr xs (failed e)
  unfolding behind_concatenation_at
  concatenation_at_failed a xs e r =
      reads_bind_failed (compared factor d a)
      (behind_comparison_at d) behind_comparison behind_expr xs e r starts_comparison_at spelled_comparison_at

  pub concatenation_at_read : (a b : Tree) (xs ys : List Token) (o : Seen Token Tree) →
      Reads (compared factor d a) behind_comparison xs (read b ys) →
      Reads (behind_comparison_at d b) behind_expr ys o → Reads (behind_concatenation_at d a) behind_expr xs o
  unfolding behind_concatenation_at
  concatenation_at_read a b xs ys o r s =
      (leads_bind (compared factor d a)
      (behind_comparison_at d) behind_comparison behind_expr xs ys b r starts_comparison_at).to o s

  pub sum_at_failed : (a : Tree) (xs : List Token) (e : Fault) →
      Reads (more (step_at Concat d) a) (behind_at Concat) xs (failed e) →
      Reads (behind_sum_at d a) behind_expr xs (failed e)
  unfolding behind_sum_at behind_at behind_concatenation
  sum_at_failed a xs e r =
      reads_bind_failed (more (step_at Concat d) a)
      (behind_concatenation_at d) behind_concatenation behind_expr xs e r starts_concatenation_at spelled_concatenation_at

  pub sum_at_read : (a b : Tree) (xs ys : List Token) (o : Seen Token Tree) →
      Reads (more (step_at Concat d) a) (behind_at Concat) xs (read b ys) →
      Reads (behind_concatenation_at d b) behind_expr ys o → Reads (behind_sum_at d a) behind_expr xs o
  unfolding behind_sum_at behind_at behind_concatenation
  sum_at_read a b xs ys o r s =
      (leads_bind (more (step_at Concat d) a)
      (behind_concatenation_at d) behind_concatenation behind_expr xs ys b r starts_concatenation_at).to o s

  pub product_at_failed : (a : Tree) (xs : List Token) (e : Fault) →
      Reads (more (step_at Sum d) a) (behind_at Sum) xs (failed e) →
      Reads (behind_product_at d a) behind_expr xs (failed e)
  unfolding behind_product_at behind_at behind_sum
  product_at_failed a xs e r =
      reads_bind_failed (more (step_at Sum d) a)
      (behind_sum_at d) behind_sum behind_expr xs e r starts_sum_at spelled_sum_at

  pub product_at_read : (a b : Tree) (xs ys : List Token) (o : Seen Token Tree) →
      Reads (more (step_at Sum d) a) (behind_at Sum) xs (read b ys) →
      Reads (behind_sum_at d b) behind_expr ys o → Reads (behind_product_at d a) behind_expr xs o
  unfolding behind_product_at behind_at behind_sum
  product_at_read a b xs ys o r s =
      (leads_bind (more (step_at Sum d) a) (behind_sum_at d) behind_sum behind_expr xs ys b r starts_sum_at).to o s

  pub factor_at_failed : (a : Tree) (xs : List Token) (e : Fault) →
      Reads (more (step_at Product d) a) (behind_at Product) xs (failed e) →
      Reads (behind_factor_at d a) behind_expr xs (failed e)
  unfolding behind_factor_at behind_at behind_product
  factor_at_failed a xs e r =
      reads_bind_failed (more (step_at Product d) a)
      (behind_product_at d) behind_product behind_expr xs e r starts_product_at spelled_product_at

  pub factor_at_read : (a b : Tree) (xs ys : List Token) (o : Seen Token Tree) →
      Reads (more (step_at Product d) a) (behind_at Product) xs (read b ys) →
      Reads (behind_product_at d b) behind_expr ys o → Reads (behind_factor_at d a) behind_expr xs o
  unfolding behind_factor_at behind_at behind_product
  factor_at_read a b xs ys o r s =
      (leads_bind (more (step_at Product d) a)
      (behind_product_at d) behind_product behind_expr xs ys b r starts_product_at).to o s

  -- an expression is a factor and what is behind it, or begins with NOT
  plain_closes : (m : Limit → ℕ) (s : List Token) (v : Tree) (z : List Token) → predicate factor d m s v z →
      negation factor d m s v z
  unfolding negation negation_over
  plain_closes m s v z w = (knot_closes (negation_over factor) rises_not d).has m s v z (inr w)

  first_into : (m : Limit → ℕ) (s : List Token) (v : Tree) (z : List Token) →
      bind (factor d) (behind_factor_at d) m s v z → disjunction factor d m s v z
  unfolding disjunction conjunction chain predicate comparison concatenation sum product behind_factor_at behind_product_at behind_sum_at behind_concatenation_at behind_comparison_at behind_predicate_at behind_conjunction_at step_at
  first_into m s v z l =
      let p = l.3 in
      let q = p.3 in
      let c = q.3 in
      let k = c.3 in
      let n = k.3 in
      let a = n.3 in
      let product_part : product factor d m s p.0 p.1 = (l.0, l.1, l.2, p.2) in
      let sum_part : sum factor d m s q.0 q.1 = (p.0, p.1, product_part, q.2) in
      let concat_part : concatenation factor d m s c.0 c.1 = (q.0, q.1, sum_part, c.2) in
      let compared_part : comparison factor d m s k.0 k.1 = (c.0, c.1, concat_part, k.2) in
      let predicate_part : predicate factor d m s n.0 n.1 = (k.0, k.1, compared_part, n.2) in
      let conjunction_part : conjunction factor d m s a.0 a.1 = (
        n.0,
        n.1,
        plain_closes m s n.0 n.1 predicate_part,
        a.2,
      ) in
      (a.0, a.1, conjunction_part, a.3)

  plain_opens : (m : Limit → ℕ) (s : List Token) (v : Tree) (z : List Token) → next s ≡ Some (t.Sign sign.Open) →
      negation factor d m s v z → predicate factor d m s v z
  unfolding negation negation_over
  plain_opens m s v z h l =
      elim ((knot_opens (negation_over factor) rises_not d).has m s v z l) [
        | inl w ↦ absurd (let e : Some (t.Sign sign.Open) ≡ Some (t.Keyword word.Not) = sym h ∙ ap next w.1.1 in cc e)
        | inr w ↦ w
      ]

  first_out : (m : Limit → ℕ) (s : List Token) (v : Tree) (z : List Token) → next s ≡ Some (t.Sign sign.Open) →
      disjunction factor d m s v z → bind (factor d) (behind_factor_at d) m s v z
  unfolding disjunction conjunction chain predicate comparison concatenation sum product behind_factor_at behind_product_at behind_sum_at behind_concatenation_at behind_comparison_at behind_predicate_at behind_conjunction_at step_at
  first_out m s v z h l =
      let n = l.2 in
      let w = plain_opens m s n.0 n.1 h n.2 in
      let k = w.2 in
      let c = k.2 in
      let q = c.2 in
      let p = q.2 in (
        p.0,
        p.1,
        p.2,
        (
          q.0,
          q.1,
          p.3,
          (
            c.0,
            c.1,
            q.3,
            (
              k.0,
              k.1,
              c.3,
              (w.0, w.1, k.3, (n.0, n.1, w.3, (l.0, l.1, n.3, l.3))),
            ),
          ),
        ),
      )

  one_closed : Tree → Lang Token Tree
  one_closed w = bind (behind_factor_at d w) (λ e. token (t.Sign sign.Close) (gives e))

  snoc_out : (n : ℕ) (v : Tree) (m : Limit → ℕ) (s : List Token) (u : Tree) (z : List Token) →
      closings d (suc n) v m s u z → bind (closings d n v) one_closed m s u z
  unfolding closings one_closed
  snoc_out zero v m s u z l = (v, s, (refl, refl), l)
  snoc_out (suc n) v m s u z l =
      let c = snoc_out n l.0 m l.3.0 u z l.3.2 in
      (c.0, c.1, (l.0, l.1, l.2, (l.3.0, l.3.1, c.2)), c.3)

  snoc_in : (n : ℕ) (v : Tree) (m : Limit → ℕ) (s : List Token) (u : Tree) (z : List Token) →
      bind (closings d n v) one_closed m s u z → closings d (suc n) v m s u z
  unfolding closings one_closed
  snoc_in zero v m s u z l = subst (λ y. one_closed v m y u z) l.2.1 (subst (λ w. one_closed w m l.1 u z) l.2.0 l.3)
  snoc_in (suc n) v m s u z l =
      let c = l.2 in
      (c.0, c.1, c.2, (c.3.0, c.3.1, snoc_in n c.0 m c.3.0 u z (l.0, l.1, c.3.2, l.3)))

  opened : ℕ → Lang Token Tree
  opened n = bind (disjunction factor d) (λ e. token (t.Sign sign.Close) (closings d n e))

  plain : (m : Limit → ℕ) (s : List Token) (v : Tree) (z : List Token) → either (leaf d) (minus factor d) m s v z →
      next s ≡ Some (t.Sign sign.Open) → ⊥
  unfolding minus
  plain m s v z (inl l) h = (bars_leaf any d s (no_literal s h) (no_name s h)).bars m s v z refl l refl
  plain m s v z (inr l) h = let e : Some (t.Sign sign.Open) ≡ Some (t.Sign sign.Minus) = sym h ∙ ap next l.1.1 in cc e

  from_bracket : (m : Limit → ℕ) (s : List Token) (v : Tree) (z : List Token) → bracket factor d m s v z →
      factor d m s v z
  unfolding factor factor_over
  from_bracket m s v z b = (knot_closes factor_over rises_factor d).has m s v z (inr b)

  to_bracket : (m : Limit → ℕ) (s : List Token) (v : Tree) (z : List Token) → next s ≡ Some (t.Sign sign.Open) →
      factor d m s v z → bracket factor d m s v z
  unfolding factor factor_over
  to_bracket m s v z h l =
      elim ((knot_opens factor_over rises_factor d).has m s v z l) [
        | inl a ↦ absurd (plain m s v z a h)
        | inr b ↦ b
      ]

  inside_into : (n : ℕ) (m : Limit → ℕ) (s : List Token) (v : Tree) (z : List Token) → opened n m s v z →
      factor d m (t.Sign sign.Open ∷ (replicate n (t.Sign sign.Open) ++ s)) v z
  unfolding opened closings bracket one_closed
  inside_into zero m s v z l = from_bracket m (t.Sign sign.Open ∷ s) v z (s, refl, l)
  inside_into (suc n) m s v z l =
      let c = snoc_out n l.0 m l.3.0 v z l.3.2 in
      let f = inside_into n m s c.0 c.1 (l.0, l.1, l.2, (l.3.0, l.3.1, c.2)) in
      let rest : List Token = t.Sign sign.Open ∷ (replicate n (t.Sign sign.Open) ++ s) in
      from_bracket m (t.Sign sign.Open ∷ rest) v z (
        rest,
        refl,
        (c.3.0, c.3.1, first_into m rest c.3.0 c.3.1 (c.0, c.1, f, c.3.2), c.3.3),
      )

  inside_out : (n : ℕ) (m : Limit → ℕ) (s : List Token) (v : Tree) (z : List Token) →
      factor d m (t.Sign sign.Open ∷ (replicate n (t.Sign sign.Open) ++ s)) v z → opened n m s v z
  unfolding opened closings bracket one_closed
  inside_out zero m s v z l =
      let b = to_bracket m (t.Sign sign.Open ∷ s) v z refl l in
      let same : s ≡ b.0 = let e : t.Sign sign.Open ∷ s ≡ t.Sign sign.Open ∷ b.0 = b.1 in cc e in
      subst (λ y. bind (disjunction factor d) (λ e. token (t.Sign sign.Close) (gives e)) m y v z) (sym same) b.2
  inside_out (suc n) m s v z l =
      let rest : List Token = t.Sign sign.Open ∷ (replicate n (t.Sign sign.Open) ++ s) in
      let b = to_bracket m (t.Sign sign.Open ∷ rest) v z refl l in
      let same : rest ≡ b.0 = let e : t.Sign sign.Open ∷ rest ≡ t.Sign sign.Open ∷ b.0 = b.1 in cc e in
      let whole = b.2 in
      let g =
      first_out m rest whole.0 whole.1 refl (subst (λ y. disjunction factor d m y whole.0 whole.1)
      (sym same) whole.2) in
      let f = inside_out n m s g.0 g.1 g.2 in
      (f.0, f.1, f.2, (f.3.0, f.3.1, snoc_in n f.0 m f.3.0 v z (g.0, g.1, f.3.2, (whole.0, whole.1, g.3, whole.3))))

  leads_opened : (n : ℕ) (xs ys : List Token) → xs ≡ replicate n (t.Sign sign.Open) ++ ys →
      Leads (factor d) (t.Sign sign.Open ∷ xs) (opened n) ys behind_factor
  leads_opened n xs ys e =
      rw e
      (leads_behind (factor d) (opened n) behind_factor (t.Sign sign.Open ∷ replicate n (t.Sign sign.Open)) ys
      (λ m s v z l. inside_into n m s v z l)
      (λ m s v z h l f. inside_out n m s v z l))

  -- what stands behind a whole in brackets
  spelled_closings : (n : ℕ) (a : Tree) → Spelled (closings d n a)
  unfolding closings
  spelled_closings zero a = spelled_gives a
  spelled_closings (suc n) a =
      spelled_bind (behind_factor_at d a) (λ e. token (t.Sign sign.Close) (closings d n e)) (spelled_factor_at a)
      (λ e. spelled_token (t.Sign sign.Close) (closings d n e) (spelled_closings n e))

  spelled_closed : (n : ℕ) (a : Tree) → Spelled (closed d n a)
  unfolding closed
  spelled_closed n a = spelled_token (t.Sign sign.Close) (closings d n a) (spelled_closings n a)

  close_behind : behind_expr (Some (t.Sign sign.Close)) ≡ true
  unfolding or_op and_op compare_op concat_op sum_op product_op has behind_factor behind_product behind_sum behind_concatenation behind_comparison behind_predicate behind_conjunction behind_expr
  close_behind = refl

  starts_closed : (n : ℕ) (a : Tree) → Starts behind_expr (closed d n a) behind_factor
  unfolding closed
  starts_closed n a = starts_token behind_expr behind_factor (t.Sign sign.Close) (closings d n a) close_behind

  pub bracketed_failed : (n : ℕ) (xs ys : List Token) (e : Fault) → xs ≡ replicate n (t.Sign sign.Open) ++ ys →
      Reads (expr_at d) behind_expr ys (failed e) →
      Reads (factor d) behind_factor (t.Sign sign.Open ∷ xs) (failed e)
  unfolding opened closed expr_at
  bracketed_failed n xs ys e is r =
      (leads_opened n xs ys is).to (failed e)
      (reads_bind_failed (disjunction factor d) (closed d n) behind_expr behind_factor ys e r (starts_closed n)
      (spelled_closed n))

  pub bracketed_read : (n : ℕ) (xs ys zs : List Token) (a : Tree) (o : Seen Token Tree) →
      xs ≡ replicate n (t.Sign sign.Open) ++ ys →
      Reads (expr_at d) behind_expr ys (read a zs) → Reads (closed d n a) behind_factor zs o → Reads
      (factor d) behind_factor (t.Sign sign.Open ∷ xs) o
  unfolding opened closed expr_at
  bracketed_read n xs ys zs a o is r s =
      (leads_on (leads_opened n xs ys is) (leads_bind (disjunction factor d)
      (closed d n) behind_expr behind_factor ys zs a r (starts_closed n))).to o s

  closed_bars : (n : ℕ) (a : Tree) (xs : List Token) → Misses (t.Sign sign.Close) xs →
      Bars (closed d n a) behind_factor 1 xs
  unfolding closed
  closed_bars n a xs m = bars_token behind_factor (t.Sign sign.Close) (closings d n a) 0 xs m.misses

  pub closed_refused : (n left : ℕ) (a : Tree) (xs : List Token) → Misses (t.Sign sign.Close) xs → left ≡ length xs →
      Reads (closed d n a) behind_factor xs (failed (Syntax left))
  closed_refused n left a xs m h =
      reads_refused (closed d n a) behind_factor xs left (closed_bars n a xs m) (spelled_closed n a) h

  pub closed_last : (n : ℕ) (a tree : Tree) (xs ys : List Token) → n ≡ 0 → xs ≡ t.Sign sign.Close ∷ ys → tree ≡ a →
      Reads (closed d n a) behind_factor xs (read tree ys)
  unfolding closed closings
  closed_last n a tree xs ys z e h =
      rw z ((leads_token (t.Sign sign.Close) (gives a) behind_factor xs ys e).to (read tree ys)
      (reads_gives a tree behind_factor ys h))

  leads_inner : (n k : ℕ) (a : Tree) (xs ys : List Token) → n ≡ suc k → xs ≡ t.Sign sign.Close ∷ ys →
      Leads (closed d n a) xs (bind (behind_factor_at d a) (closed d k)) ys behind_factor
  unfolding closed closings
  leads_inner n k a xs ys h e = rw h (leads_token (t.Sign sign.Close) (closings d (suc k) a) behind_factor xs ys e)

  pub closed_turn : (n k : ℕ) (a b : Tree) (xs ys zs : List Token) → n ≡ suc k → xs ≡ t.Sign sign.Close ∷ ys →
      Reads (behind_factor_at d a) behind_expr ys (read b zs) →
      Leads (closed d n a) xs (closed d k b) zs behind_factor
  closed_turn n k a b xs ys zs h e r =
      leads_on (leads_inner n k a xs ys h e) (leads_bind (behind_factor_at d a)
      (closed d k) behind_expr behind_factor ys zs b r (starts_closed k))

  pub closed_failed : (n k : ℕ) (a : Tree) (xs ys : List Token) (e : Fault) → n ≡ suc k → xs ≡ t.Sign sign.Close ∷ ys →
      Reads (behind_factor_at d a) behind_expr ys (failed e) →
      Reads (closed d n a) behind_factor xs (failed e)
  closed_failed n k a xs ys e h is r =
      (leads_inner n k a xs ys h is).to (failed e)
      (reads_bind_failed (behind_factor_at d a) (closed d k) behind_expr behind_factor ys e r (starts_closed k)
      (spelled_closed k))

-- what a closing bracket answers, and where there is none
pub ruleset bracket_closings = (closed_refused, closed_last, closed_turn, closed_failed)
