-- Brackets round a whole, read by a loop: count those that open, read what they hold, and close one a turn.
use Rattle.std.proofs.lemmas.List.{replicate_more}
use Rattle.std.proofs.Common.{◌+◌, append_assoc, ◌≡◌, ℕ, zero, suc, Bool, true, List, [], ◌∷◌, ◌++◌, length, replicate, Option, Some, refl, sym, ap, ◌∙◌, subst, inl, inr}
use Rattle.pg_grammar.specs.declared.fault.Fault.{Fault}
use Rattle.pg_grammar.specs.declared.fault.Fault.TheVariants.{Syntax}
use Rattle.pg_grammar.specs.Limits.{Limit}
use Rattle.pg_grammar.specs.Languages.{Lang, gives, token, bind, either}
use Rattle.pg_grammar.specs.Answers.{next, read, failed, Reads}
use Rattle.pg_grammar.proofs.Leading.{Leads, leads_on, leads_behind}
use Rattle.pg_grammar.proofs.Words.{Starts, Spelled, starts_gives, starts_bind, starts_token, bars_token, spelled_gives, spelled_bind, spelled_token}
use Rattle.pg_grammar.proofs.Knots.{Within}
use Rattle.pg_grammar.proofs.Combining.{reads_refused, reads_bind_failed, leads_bind, leads_token}

-- a whole is a factor and its tail. Behind a factor of the value v: n times a tail and a bracket that closes
abbrev pub closes : {T V : Type 0} → T → (V → Lang T V) → ℕ → V → Lang T V
closes closing tail zero v = gives v
closes closing tail (suc n) v = bind (tail v) (λ e. token closing (closes closing tail n e))

-- a factor: an atom, or a whole in brackets
abbrev pub bracketed : {T V : Type 0} → T → T → Lang T V → (V → Lang T V) → Lang T V → Lang T V
bracketed opening closing atom tail factor = either atom (token opening (bind (bind factor tail) (λ e. token closing (gives e))))

module _ {T V : Type 0} (closing : T) (tail : V → Lang T V) where
  one_close : V → Lang T V
  one_close w = bind (tail w) (λ e. token closing (gives e))

  snoc_out : (n : ℕ) (v : V) (m : Limit → ℕ) (s : List T) (u : V) (z : List T) →
      closes closing tail (suc n) v m s u z → bind (closes closing tail n v) one_close m s u z
  unfolding one_close
  snoc_out zero v m s u z l = (v, s, (refl, refl), l)
  snoc_out (suc n) v m s u z l =
      let c = snoc_out n l.0 m l.3.0 u z l.3.2 in
      (c.0, c.1, (l.0, l.1, l.2, (l.3.0, l.3.1, c.2)), c.3)

  snoc_in : (n : ℕ) (v : V) (m : Limit → ℕ) (s : List T) (u : V) (z : List T) →
      bind (closes closing tail n v) one_close m s u z → closes closing tail (suc n) v m s u z
  unfolding one_close
  snoc_in zero v m s u z l = subst (λ y. one_close v m y u z) l.2.1 (subst (λ w. one_close w m l.1 u z) l.2.0 l.3)
  snoc_in (suc n) v m s u z l =
      let d = l.2 in
      (d.0, d.1, d.2, (d.3.0, d.3.1, snoc_in n d.0 m d.3.0 u z (l.0, l.1, d.3.2, l.3)))

module _ {T V : Type 0} (opening closing : T) (atom : Lang T V) (tail : V → Lang T V) (factor : Lang T V)
    (into : Within (bracketed opening closing atom tail factor) factor)
    (out : Within factor (bracketed opening closing atom tail factor))
    (plain : (m : Limit → ℕ) (s : List T) (v : V) (z : List T) → atom m s v z → next s ≡ Some opening → ⊥) where
  inside_into : (n : ℕ) (m : Limit → ℕ) (s : List T) (v : V) (z : List T) →
      bind atom (closes closing tail n) m s v z → factor m (replicate n opening ++ s) v z
  unfolding one_close
  inside_into zero m s v z l = into.has m s v z (inl (subst (λ y. atom m s v y) (sym l.3.1) (subst (λ u. atom m s u l.1) (sym l.3.0) l.2)))
  inside_into (suc n) m s v z l =
      let c = snoc_out closing tail n l.0 m l.1 v z l.3 in
      let f = inside_into n m s c.0 c.1 (l.0, l.1, l.2, c.2) in
      into.has m (opening ∷ (replicate n opening ++ s)) v z
      (inr (replicate n opening ++ s, refl, (c.3.0, c.3.1, (c.0, c.1, f, c.3.2), c.3.3)))

  inside_out : (n : ℕ) (m : Limit → ℕ) (s : List T) (v : V) (z : List T) → (next s ≡ Some opening → ⊥) →
      factor m (replicate n opening ++ s) v z → bind atom (closes closing tail n) m s v z
  unfolding one_close
  inside_out zero m s v z h l =
      elim (out.has m s v z l) [
        | inl a ↦ (v, z, a, (refl, refl))
        | inr b ↦ absurd (h (ap next b.1))
      ]
  inside_out (suc n) m s v z h l =
      elim (out.has m (opening ∷ (replicate n opening ++ s)) v z l) [
        | inl a ↦ absurd (plain m (opening ∷ (replicate n opening ++ s)) v z a refl)
        | inr b ↦
            let same : b.0 ≡ replicate n opening ++ s = let e : opening ∷ (replicate n opening ++ s) ≡ opening ∷ b.0 = b.1 in cc in
            let whole = b.2.2 in
            let f = inside_out n m s whole.0 whole.1 h (subst (λ y. factor m y whole.0 whole.1) same whole.2) in
            (f.0, f.1, f.2, snoc_in closing tail n f.0 m f.1 v z (whole.0, whole.1, f.3, (b.2.0, b.2.1, whole.3, b.2.3)))
      ]

-- one bracket more
pub replicate_next : {T : Type 0} (t : T) (n : ℕ) (xs ys zs : List T) → xs ≡ replicate n t ++ ys → ys ≡ t ∷ zs →
    xs ≡ replicate (n + 1) t ++ zs
replicate_next t n xs ys zs e h = e ∙ (ap (λ y. replicate n t ++ y) h ∙ (sym (append_assoc (replicate n t) (t ∷ []) zs) ∙ ap (λ y. y ++ zs) (replicate_more n t)))
