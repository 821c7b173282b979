-- What can be written before any tokens: one lemma a combinator and a form.
use Rattle.std.proofs.Common.{◌≡◌, ◌≤◌, ℕ, zero, suc, Bool, true, List, [], ◌∷◌, ◌++◌, Option, Some, None, refl, sym, subst, inl, inr, append_assoc, append-nil}
use Rattle.pg_parse_stmt.proofs.Common.{list_all, and_from, and_parts, Limit, most, Lang, gives, token, one, bind, either, more, reaches, Keyword, Sign, Token, is_token, word, sign, or_else, optional, next_of, list_of, in_brackets, none_or, some_and_all}
use Rattle.pg_lexer.specs.declared.sign.Sign.TheVariants as s
use Rattle.pg_lexer.specs.declared.token.Token.TheVariants as token_of

-- v has a word of L before any tokens that a line may have, of such tokens too, and within the limits
pub record Writes {V : Type 0} (L : Lang Token V) (v : V) : Type 0 where
  pub writes : (z : List Token) → list_all is_token z ≡ true →
      (xs : List Token) × (list_all is_token xs ≡ true) × L (λ k. 0) xs v z

pub writes_gives : {V : Type 0} (v : V) → Writes (gives v) v
writes_gives v = record { writes = λ z h. (z, h, (refl, refl)) }

pub writes_token : {V : Type 0} (t : Token) (L : Lang Token V) (v : V) → is_token t ≡ true → Writes L v →
    Writes (token t L) v
writes_token t L v e a = record {
  writes = λ z h.
      let r = a.writes z h in
      (t ∷ r.0, and_from (is_token t) (list_all is_token r.0) e r.1, (r.0, refl, r.2));
}

pub writes_word : {V : Type 0} (w : Keyword) (L : Lang Token V) (v : V) → Writes L v → Writes (word w L) v
writes_word w L v a = writes_token (token_of.Keyword w) L v refl a

pub writes_sign : {V : Type 0} (c : Sign) (L : Lang Token V) (v : V) → Writes L v → Writes (sign c L) v
writes_sign c L v a = writes_token (token_of.Sign c) L v refl a

pub writes_one : {X : Type 0} (f : Token → Option X) (t : Token) (x : X) → f t ≡ Some x → is_token t ≡ true →
    Writes (one f) x
writes_one f t x e a = record {
  writes = λ z h. (t ∷ z, and_from (is_token t) (list_all is_token z) a h, record { head = t; is = refl; value = e });
}

pub writes_bind : {X V : Type 0} (L : Lang Token X) (K : X → Lang Token V) (x : X) (v : V) → Writes L x →
    Writes (K x) v →
    Writes (bind L K) v
writes_bind L K x v a b = record {
  writes = λ z h. let r = b.writes z h in let q = a.writes r.0 r.1 in (q.0, q.1, (x, r.0, q.2, r.2));
}

pub writes_left : {V : Type 0} (L M : Lang Token V) (v : V) → Writes L v → Writes (either L M) v
writes_left L M v a = record { writes = λ z h. let r = a.writes z h in (r.0, r.1, inl r.2) }

pub writes_right : {V : Type 0} (L M : Lang Token V) (v : V) → Writes M v → Writes (either L M) v
writes_right L M v a = record { writes = λ z h. let r = a.writes z h in (r.0, r.1, inr r.2) }

pub writes_reaches : {V : Type 0} (k : Limit) (h : ℕ) (L : Lang Token V) (v : V) → h ≤ most k → Writes L v →
    Writes (reaches k h L) v
writes_reaches k h L v low a = record { writes = λ z g. let r = a.writes z g in (r.0, r.1, (λ c. low, r.2)) }

pub writes_no_more : {V : Type 0} (S : V → Lang Token V) (x : V) → Writes (more S x) x
writes_no_more S x = record { writes = λ z h. (z, h, (zero, (refl, refl))) }

pub writes_more : {V : Type 0} (S : V → Lang Token V) (x y v : V) → Writes (S x) y → Writes (more S y) v →
    Writes (more S x) v
writes_more S x y v a b = record {
  writes = λ z h.
      let r = b.writes z h in
      let q = a.writes r.0 r.1 in
      (q.0, q.1, (suc r.2.0, (y, r.0, q.2, r.2.1)));
}

-- what may be left out
pub writes_some : {V : Type 0} (L : Lang Token V) (v : V) → Writes L v → Writes (optional L) (Some v)
writes_some L v a =
    writes_left (bind L (λ x. gives (Some x))) (gives None) (Some v)
    (writes_bind L (λ x. gives (Some x)) v (Some v) a (writes_gives (Some v)))

pub writes_none : {V : Type 0} (x : V) (L : Lang Token V) → Writes (or_else x L) x
writes_none x L = writes_right L (gives x) x (writes_gives x)

pub writes_else : {V : Type 0} (x v : V) (L : Lang Token V) → Writes L v → Writes (or_else x L) v
writes_else x v L a = writes_left L (gives x) v a

pub writes_in_brackets : {V : Type 0} (L : Lang Token V) (v : V) → Writes L v → Writes (in_brackets L) v
unfolding in_brackets
writes_in_brackets L v a =
    writes_sign s.Open _ v (writes_bind L (λ x. sign s.Close (gives x)) v v a
    (writes_sign s.Close (gives v) v (writes_gives v)))

-- values that pass a test, where each that does can be written
module _ {V : Type 0} (test : V → Bool) where
  pub writes_steps : (S : List V → Lang Token (List V)) →
      ((list : List V) (v : V) → test v ≡ true → Writes (S list) (list ++ v ∷ [])) → (vs list : List V) →
      list_all test vs ≡ true → Writes (more S list) (list ++ vs)
  writes_steps S a [] list h = subst (λ q. Writes (more S list) q) (sym (append-nil list)) (writes_no_more S list)
  writes_steps S a (v ∷ vs) list h =
      let parts = and_parts (test v) (list_all test vs) h in
      subst (λ q. Writes (more S list) q) (append_assoc list (v ∷ []) vs)
      (writes_more S list (list ++ v ∷ []) _ (a list v parts.0) (writes_steps S a vs (list ++ v ∷ []) parts.1))

  module _ (L : Lang Token V) (each : (v : V) → test v ≡ true → Writes L v) where
    pub writes_optional : (o : Option V) → none_or test o ≡ true → Writes (optional L) o
    writes_optional None h = writes_none None (bind L (λ x. gives (Some x)))
    writes_optional (Some v) h = writes_some L v (each v h)

    next_written : (list : List V) (v : V) → test v ≡ true → Writes (next_of L list) (list ++ v ∷ [])
    unfolding next_of
    next_written list v h =
        writes_sign s.Comma _ _ (writes_bind L (λ x. gives (list ++ x ∷ [])) v _ (each v h)
        (writes_gives (list ++ v ∷ [])))

    pub writes_list : (vs : List V) → some_and_all test vs ≡ true → Writes (list_of L) vs
    unfolding list_of
    writes_list [] h = absurd (cc h)
    writes_list (v ∷ vs) h =
        let parts = and_parts (test v) (list_all test vs) h in
        writes_bind L (λ x. more (next_of L) (x ∷ [])) v (v ∷ vs) (each v parts.0)
        (writes_steps (next_of L) next_written vs (v ∷ []) parts.1)

  -- a list that is left out where it is empty
  pub writes_any : (M : Lang Token (List V)) → ((vs : List V) → some_and_all test vs ≡ true → Writes M vs) →
      (vs : List V) → list_all test vs ≡ true → Writes (or_else [] M) vs
  writes_any M a [] h = writes_none [] M
  writes_any M a (v ∷ vs) h = writes_else [] (v ∷ vs) M (a (v ∷ vs) h)
