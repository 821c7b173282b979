-- An expression that is one literal, with the end of a list's item behind it.
use Rattle.std.proofs.Common.{◌≡◌, ◌∷◌, ◌<◌, ℕ, List, Option, Some, None, refl, sym, ap, ◌∙◌, inl, inr}
use Rattle.pg_grammar.specs.Languages.{Took, more}
use Rattle.pg_grammar.specs.Answers.{next, Lacks, Misses, read, Reads}
use Rattle.pg_lexer.specs.declared.keyword.Keyword.TheVariants as word
use Rattle.pg_lexer.specs.declared.sign.Sign.TheVariants as sign
use Rattle.pg_lexer.specs.declared.token.Token.{Token}
use Rattle.pg_lexer.specs.declared.token.Token.TheVariants as t
use Rattle.pg_parse_expr.specs.declared.level.Level.{Level}
use Rattle.pg_parse_expr.specs.declared.level.Level.TheVariants.{Or, And, Concat, Sum, Product}
use Rattle.pg_parse_expr.specs.Behind.{EndsItem, behind_factor, behind_product, behind_sum, behind_concatenation, behind_comparison, behind_predicate, behind_conjunction, behind_expr}
use Rattle.pg_parse_expr.specs.Grammar.{product, sum, concatenation, comparison, predicate, negation, conjunction, factor, expr_at}
use Rattle.pg_parse_expr.specs.Levels.{op_at, operand_at, before_at, behind_at, chain_at}
use Rattle.pg_parse_expr.specs.Operators.{value_of, literal_of, or_op, and_op, compare_op, concat_op, sum_op, product_op}
use Rattle.pg_parse_expr.specs.Tree.{Tree}
use Rattle.pg_parse_expr.proofs.Leaves.{leaf_literal}
use Rattle.pg_parse_expr.proofs.Factors.{factor_leaf}
use Rattle.pg_parse_expr.proofs.Steps.{chain_end, chain_read, compared_none, comparison_read}
use Rattle.pg_parse_expr.proofs.Testing.{tests_end, predicate_read, negation_plain}
use Rattle.pg_parse_expr.proofs.Bracketing.{operand_or, operand_concat, operand_sum, chain_concat, chain_or}

-- neither sign that ends an item has a value of f
no_value : {X : Type 0} (f : Token → Option X) → f (t.Sign sign.Comma) ≡ None → f (t.Sign sign.Close) ≡ None →
    (ys : List Token) → EndsItem (next ys) → Lacks f ys
no_value {X} f comma close ys end = record { lacks = λ u x n e. none u x n e end }
  where
    none : (u : Token) (x : X) → next ys ≡ Some u → f u ≡ Some x → EndsItem (next ys) → ⊥
    none u x n e (inl is) =
        let f' : Some (t.Sign sign.Comma) ≡ Some u = sym is ∙ n in
        let same : t.Sign sign.Comma ≡ u = cc f' in
        let g : None ≡ Some x = sym comma ∙ ap f same ∙ e in
        cc g
    none u x n e (inr is) =
        let f' : Some (t.Sign sign.Close) ≡ Some u = sym is ∙ n in
        let same : t.Sign sign.Close ≡ u = cc f' in
        let g : None ≡ Some x = sym close ∙ ap f same ∙ e in
        cc g

no_operator : (level : Level) (ys : List Token) → EndsItem (next ys) → Lacks (op_at level) ys
unfolding or_op and_op concat_op sum_op product_op
no_operator Or ys end = no_value or_op refl refl ys end
no_operator And ys end = no_value and_op refl refl ys end
no_operator Concat ys end = no_value concat_op refl refl ys end
no_operator Sum ys end = no_value sum_op refl refl ys end
no_operator Product ys end = no_value product_op refl refl ys end

no_comparison : (ys : List Token) → EndsItem (next ys) → Lacks compare_op ys
unfolding compare_op
no_comparison ys end = no_value compare_op refl refl ys end

no_is : (ys : List Token) → EndsItem (next ys) → Misses (t.Keyword word.Is) ys
no_is ys (inl is) = record { misses = λ n. let f : Some (t.Sign sign.Comma) ≡ Some (t.Keyword word.Is) = sym is ∙ n in cc f }
no_is ys (inr is) = record { misses = λ n. let f : Some (t.Sign sign.Close) ≡ Some (t.Keyword word.Is) = sym is ∙ n in cc f }

-- a token that is no literal does not stand where one does
misses_other : (u : Token) → literal_of u ≡ None → (xs ys : List Token) (v : Tree) → Took literal_of xs v ys → Misses u xs
misses_other u none xs ys v l = record {
  misses = λ n.
      let f : Some l.head ≡ Some u = sym (ap next l.is) ∙ n in
      let same : l.head ≡ u = cc f in
      let g : None ≡ Some v = sym none ∙ ap literal_of (sym same) ∙ l.value in
      cc g;
}

module _ (d : ℕ) (xs ys : List Token) (v : Tree) (l : Took literal_of xs v ys) (fits : d < 64) (end : EndsItem (next ys)) where
  at_level : (level : Level) → Reads (operand_at level d) (before_at level) xs (read v ys) →
      Reads (chain_at level d) (behind_at level) xs (read v ys)
  at_level level r = chain_read level d xs ys v (read v ys) r (chain_end level d v ys (no_operator level ys end))

  as_factor : Reads (factor d) behind_factor xs (read v ys)
  unfolding literal_of value_of
  as_factor =
      factor_leaf d xs (read v ys) (misses_other (t.Sign sign.Open) refl xs ys v l)
      (misses_other (t.Sign sign.Minus) refl xs ys v l) (leaf_literal d xs ys v l fits)

  as_concatenation : Reads (concatenation factor d) behind_concatenation xs (read v ys)
  as_concatenation =
      chain_concat d xs (read v ys)
      (at_level Concat (operand_concat d xs (read v ys)
      (at_level Sum (operand_sum d xs (read v ys) (at_level Product as_factor)))))

  as_predicate : Reads (predicate factor d) behind_predicate xs (read v ys)
  as_predicate =
      predicate_read d xs ys v (read v ys)
      (comparison_read d xs ys v (read v ys) as_concatenation (compared_none d v ys (no_comparison ys end)))
      (tests_end d v ys (no_is ys end))

  as_negation : Reads (negation factor d) behind_predicate xs (read v ys)
  unfolding literal_of value_of
  as_negation = negation_plain d xs (read v ys) (misses_other (t.Keyword word.Not) refl xs ys v l) as_predicate

  pub alone_read : Reads (expr_at d) behind_expr xs (read v ys)
  alone_read = chain_or d xs (read v ys) (at_level Or (operand_or d xs (read v ys) (at_level And as_negation)))
