-- From what the small functions of a parser answer to what stands first.
use Rattle.std.proofs.Common.{◌≡◌, ◌⊎◌, Bool, true, false, List, [], ◌∷◌, Option, Some, None, refl, sym, ap, ◌∙◌, inl, inr}
use Rattle.std.proofs.lemmas.Bool.{cases_Bool, cond-true, cond-false}
use Rattle.pg_grammar.specs.Languages.{Took}
use Rattle.pg_grammar.specs.Answers.{next, Lacks}
use Rattle.pg_grammar.specs.Fronts.{with_rest, first_of, after}

module _ {T X : Type 0} (f : T → Option X) where
  -- or none
  pub lacks_first : (xs : List T) → first_of f xs ≡ None → Lacks f xs
  lacks_first [] e = record { lacks = λ t x n g. let h : None ≡ Some t = n in cc h }
  lacks_first (u ∷ z) e = record {
    lacks = λ t x n g.
        let h : Some u ≡ Some t = n in
        let s : u ≡ t = cc h in
        let w : with_rest z (f u) ≡ Some (x, z) = ap (λ o. with_rest z o) (ap f s ∙ g) in
        let b : None ≡ Some (x, z) = sym e ∙ w in
        cc b;
  }

module _ {T : Type 0} (p : T → Bool) (t : T) where
  -- the first token is t, the one that passes
  pub after_is : (xs ys : List T) → ((u : T) → p u ≡ true → u ≡ t) → after p xs ≡ Some ys → xs ≡ t ∷ ys
  after_is [] ys only e = absurd (let g : None ≡ Some ys = e in cc)
  after_is (u ∷ z) ys only e = go (cases_Bool (p u))
    where
      go : ((p u ≡ true) ⊎ (p u ≡ false)) → u ∷ z ≡ t ∷ ys
      go (inl h) =
          let g : Some z ≡ Some ys = sym (cond-true (p u) (Some z) None h) ∙ e in
          let s : z ≡ ys = cc g in
          let w = only u h in
          cc
      go (inr h) = absurd (let g : None ≡ Some ys = sym (cond-false (p u) (Some z) None h) ∙ e in cc)
