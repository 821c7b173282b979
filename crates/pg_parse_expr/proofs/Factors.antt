-- Leaves, minus signs and brackets of any depth.
use Rattle.std.proofs.Common.{◌≡◌, ◌∷◌, ◌<◌, ◌≤◌, ℕ, suc, List, length, Some, None, sym, ap, ◌∙◌, subst, arith}
use Rattle.pg_exprs.specs.declared.operator.UnaryOp.TheVariants.{Negate}
use Rattle.pg_grammar.specs.declared.fault.Fault.{Fault}
use Rattle.pg_grammar.specs.declared.fault.Fault.TheVariants.{Deep}
use Rattle.pg_grammar.specs.Limits.{nodes}
use Rattle.pg_grammar.specs.Languages.{Lang, gives, bind, either, reaches, token}
use Rattle.pg_grammar.specs.Answers.{next, Lacks, Misses, Seen, read, failed, Reads}
use Rattle.pg_grammar.proofs.Leading.{Leads, leads_on}
use Rattle.pg_grammar.proofs.Words.{Spelled, spelled_gives, spelled_bind, begun_token, bars_reaches, bars_token, starts_gives}
use Rattle.pg_grammar.proofs.Combining.{reads_gives, reads_over, reads_bind_failed, leads_reaches, leads_bind, leads_token, leads_left, leads_right}
use Rattle.pg_grammar.proofs.Knots.{leads_knot}
use Rattle.pg_lexer.specs.declared.sign.Sign.TheVariants as sign
use Rattle.pg_lexer.specs.declared.token.Token.{Token}
use Rattle.pg_lexer.specs.declared.token.Token.TheVariants as t
use Rattle.pg_parse_expr.specs.Behind.{behind_factor}
use Rattle.pg_parse_expr.specs.Grammar.{disjunction, leaf, minus, bracket, factor_over, factor}
use Rattle.pg_parse_expr.specs.Operators.{value_of, literal_of, name_of}
use Rattle.pg_parse_expr.specs.Tree.{Tree, unary}
use Rattle.pg_parse_expr.proofs.Growth.{rises_factor}
use Rattle.pg_parse_expr.proofs.Leaves.{bars_leaf}
use Rattle.pg_parse_expr.proofs.Spelling.{spelled_factor}

minus_lacks_literal : (xs ys : List Token) → xs ≡ t.Sign sign.Minus ∷ ys → Lacks literal_of xs
unfolding literal_of value_of
minus_lacks_literal xs ys e = record {
  lacks = λ u x n h.
      let f : Some (t.Sign sign.Minus) ≡ Some u = sym (ap next e) ∙ n in
      let same : t.Sign sign.Minus ≡ u = cc f in
      let g : None ≡ Some x = ap literal_of same ∙ h in
      cc g;
}

minus_lacks_name : (xs ys : List Token) → xs ≡ t.Sign sign.Minus ∷ ys → Lacks name_of xs
unfolding name_of
minus_lacks_name xs ys e = record {
  lacks = λ u x n h.
      let f : Some (t.Sign sign.Minus) ≡ Some u = sym (ap next e) ∙ n in
      let same : t.Sign sign.Minus ≡ u = cc f in
      let g : None ≡ Some x = ap name_of same ∙ h in
      cc g;
}

module _ (d : ℕ) where
  negated : Lang Token Tree
  negated = bind (factor (suc d)) (λ a. gives (unary Negate a))

  spelled_negated : Spelled negated
  unfolding negated
  spelled_negated =
      spelled_bind (factor (suc d)) (λ a. gives (unary Negate a)) (spelled_factor (suc d))
      (λ a. spelled_gives (unary Negate a))

  leads_factor : (xs : List Token) → Leads (factor d) xs (either (either (leaf d) (minus factor d))
      (bracket factor d)) xs behind_factor
  unfolding factor factor_over
  leads_factor xs = leads_knot factor_over rises_factor behind_factor d xs

  leads_simple : (xs : List Token) → Misses (t.Sign sign.Open) xs →
      Leads (factor d) xs (either (leaf d) (minus factor d)) xs behind_factor
  unfolding bracket
  leads_simple xs m =
      leads_on (leads_factor xs)
      (leads_left (either (leaf d) (minus factor d)) (bracket factor d) behind_factor xs
      (bars_token behind_factor (t.Sign sign.Open) (bind (disjunction factor d)
      (λ e. token (t.Sign sign.Close) (gives e))) 0 xs m.misses))

  pub factor_leaf : (xs : List Token) (o : Seen Token Tree) → Misses (t.Sign sign.Open) xs →
      Misses (t.Sign sign.Minus) xs → Reads (leaf d) behind_factor xs o →
      Reads (factor d) behind_factor xs o
  unfolding minus negated
  factor_leaf xs o no_open no_minus r =
      (leads_on (leads_simple xs no_open)
      (leads_left (leaf d) (minus factor d) behind_factor xs
      (bars_reaches behind_factor nodes (suc d) (token (t.Sign sign.Minus) negated) 1 xs
      (bars_token behind_factor (t.Sign sign.Minus) negated 0 xs no_minus.misses)))).to o r

  leads_minus : (xs ys : List Token) → Misses (t.Sign sign.Open) xs → xs ≡ t.Sign sign.Minus ∷ ys →
      Leads (factor d) xs (reaches nodes (suc d) (token (t.Sign sign.Minus) negated)) xs behind_factor
  unfolding minus negated
  leads_minus xs ys no_open e =
      leads_on (leads_simple xs no_open)
      (leads_right (leaf d) (minus factor d) behind_factor xs
      (bars_leaf behind_factor d xs (minus_lacks_literal xs ys e) (minus_lacks_name xs ys e)))

  pub factor_deep : (n : ℕ) (xs ys : List Token) → Misses (t.Sign sign.Open) xs → xs ≡ t.Sign sign.Minus ∷ ys → 64 ≤ d →
      n ≡ length xs → Reads (factor d) behind_factor xs (failed (Deep n))
  factor_deep n xs ys no_open e deep h =
      (leads_minus xs ys no_open e).to (failed (Deep n))
      (reads_over nodes (suc d) (token (t.Sign sign.Minus) negated) behind_factor xs ys (t.Sign sign.Minus) n
      (omega (arith, deep)) e
      (begun_token (t.Sign sign.Minus) negated spelled_negated) h)

  leads_negated : (xs ys : List Token) → Misses (t.Sign sign.Open) xs → xs ≡ t.Sign sign.Minus ∷ ys → d < 64 →
      Leads (factor d) xs negated ys behind_factor
  leads_negated xs ys no_open e fits =
      leads_on (leads_minus xs ys no_open e)
      (leads_on (leads_reaches nodes (suc d) (token (t.Sign sign.Minus) negated) behind_factor xs (omega (arith, fits)))
      (leads_token (t.Sign sign.Minus) negated behind_factor xs ys e))

  pub factor_failed : (k : ℕ) (xs ys : List Token) (e : Fault) → Misses (t.Sign sign.Open) xs →
      xs ≡ t.Sign sign.Minus ∷ ys → d < 64 → k ≡ suc d →
      Reads (factor k) behind_factor ys (failed e) → Reads (factor d) behind_factor xs (failed e)
  unfolding negated
  factor_failed k xs ys e no_open is fits same r =
      (leads_negated xs ys no_open is fits).to (failed e)
      (reads_bind_failed (factor (suc d)) (λ a. gives (unary Negate a)) behind_factor behind_factor ys e
      (subst (λ j. Reads (factor j) behind_factor ys (failed e)) same r)
      (λ a. starts_gives behind_factor behind_factor (unary Negate a) (λ o h. h)) (λ a. spelled_gives (unary Negate a)))

  pub factor_read : (k : ℕ) (xs ys zs : List Token) (a tree : Tree) → Misses (t.Sign sign.Open) xs →
      xs ≡ t.Sign sign.Minus ∷ ys → d < 64 → k ≡ suc d →
      Reads (factor k) behind_factor ys (read a zs) → tree ≡ unary Negate a → Reads (factor d) behind_factor xs
      (read tree zs)
  unfolding negated
  factor_read k xs ys zs a tree no_open is fits same r h =
      (leads_on (leads_negated xs ys no_open is fits)
      (leads_bind (factor (suc d)) (λ a. gives (unary Negate a)) behind_factor behind_factor ys zs a
      (subst (λ j. Reads (factor j) behind_factor ys (read a zs)) same r)
      (λ a. starts_gives behind_factor behind_factor (unary Negate a) (λ o h. h)))).to
      (read tree zs) (reads_gives (unary Negate a) tree behind_factor zs h)

-- what a factor answers
pub ruleset factors = (factor_leaf, factor_deep, factor_failed, factor_read)
