-- Where a function that reads one token leaves.
use Rattle.std.proofs.Common.{◌≡◌, ◌∷◌, ℕ, Bool, List, [], length, Option, Some, None, refl, sym, ap, ◌∙◌, arith}
use Rattle.pg_parse_stmt.proofs.Common.{Syntax, one, Took, next, Lacks, read, failed, Reads, bars_one, spelled_one, Spelled, reads_one, reads_refused, Token, name_of, name, bare_name_of, integer_of, any}
use Rattle.pg_lexer.specs.declared.token.Token.TheVariants as token

pub reads_took : {V : Type 0} (f : Token → Option V) (follows : Option Token → Bool) (xs ys : List Token) (x : V) →
    Took f xs x ys → Reads (one f) follows xs (read x ys)
reads_took f follows xs ys x t = reads_one f follows xs ys t.head x t.is t.value

-- f has a token, and the next one is none
pub reads_lacks : {V : Type 0} (f : Token → Option V) (follows : Option Token → Bool) (t : Token) (x : V) →
    f t ≡ Some x → (xs : List Token) (n : ℕ) → Lacks f xs → n ≡ length xs → Reads (one f) follows xs (failed (Syntax n))
reads_lacks f follows t x e xs n l h =
    reads_refused (one f) follows xs n (bars_one follows f 0 xs (λ u y a b. l.lacks u y a b)) (spelled_one f t x e) h

pub reads_lacked : {V : Type 0} (f : Token → Option V) (follows : Option Token → Bool) (xs : List Token) (n : ℕ) →
    Spelled (one f) → Lacks f xs → n ≡ length xs → Reads (one f) follows xs (failed (Syntax n))
reads_lacked f follows xs n w l h =
    reads_refused (one f) follows xs n (bars_one follows f 0 xs (λ u y a b. l.lacks u y a b)) w h

pub lacks_first : {V : Type 0} (f : Token → Option V) (t : Token) (xs ys : List Token) → xs ≡ t ∷ ys → f t ≡ None →
    Lacks f xs
lacks_first {V} f t xs ys e h = record {
  lacks = λ u x n g.
      let same : t ≡ u = cc (ap next e, n) in
      let o : None ≡ Some x = sym h ∙ (ap f same ∙ g) in
      cc o;
}

pub lacks_end : {V : Type 0} (f : Token → Option V) (xs : List Token) → length xs ≡ 0 → Lacks f xs
lacks_end f [] e = record { lacks = λ u x n g. let o : None ≡ Some u = n in cc o }
lacks_end f (t ∷ xs) e = absurd (omega (arith, e))

module _ (xs ys : List Token) (t : Token) (v : List ℕ) (n : ℕ) where
  pub name_read : xs ≡ t ∷ ys → Some v ≡ name_of t → Reads name any xs (read v ys)
  unfolding name
  name_read e h = reads_one name_of any xs ys t v e (sym h)

  pub no_name : xs ≡ t ∷ ys → None ≡ name_of t → n ≡ length xs → Reads name any xs (failed (Syntax n))
  unfolding name name_of
  no_name e h l = reads_lacks name_of any (token.Name []) [] refl xs n (lacks_first name_of t xs ys e (sym h)) l

  pub bare_name_read : xs ≡ t ∷ ys → Some v ≡ bare_name_of t → Reads (one bare_name_of) any xs (read v ys)
  bare_name_read e h = reads_one bare_name_of any xs ys t v e (sym h)

  pub no_bare_name : xs ≡ t ∷ ys → None ≡ bare_name_of t → n ≡ length xs →
      Reads (one bare_name_of) any xs (failed (Syntax n))
  unfolding bare_name_of
  no_bare_name e h l =
      reads_lacks bare_name_of any (token.Name []) [] refl xs n (lacks_first bare_name_of t xs ys e (sym h)) l

module _ (xs ys : List Token) (t : Token) (v n : ℕ) where
  pub integer_read : xs ≡ t ∷ ys → Some v ≡ integer_of t → Reads (one integer_of) any xs (read v ys)
  integer_read e h = reads_one integer_of any xs ys t v e (sym h)

  pub no_integer : xs ≡ t ∷ ys → None ≡ integer_of t → n ≡ length xs → Reads (one integer_of) any xs (failed (Syntax n))
  unfolding integer_of
  no_integer e h l =
      reads_lacks integer_of any (token.Integer 0) 0 refl xs n (lacks_first integer_of t xs ys e (sym h)) l

module _ (xs : List Token) (n : ℕ) where
  pub no_name_at_end : length xs ≡ 0 → n ≡ length xs → Reads name any xs (failed (Syntax n))
  unfolding name name_of
  no_name_at_end e l = reads_lacks name_of any (token.Name []) [] refl xs n (lacks_end name_of xs e) l

  pub no_bare_name_at_end : length xs ≡ 0 → n ≡ length xs → Reads (one bare_name_of) any xs (failed (Syntax n))
  unfolding bare_name_of
  no_bare_name_at_end e l = reads_lacks bare_name_of any (token.Name []) [] refl xs n (lacks_end bare_name_of xs e) l

  pub no_integer_at_end : length xs ≡ 0 → n ≡ length xs → Reads (one integer_of) any xs (failed (Syntax n))
  unfolding integer_of
  no_integer_at_end e l = reads_lacks integer_of any (token.Integer 0) 0 refl xs n (lacks_end integer_of xs e) l
