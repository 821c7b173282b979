-- One reading: two words in the same tokens, each with a next token that may stand behind it, are one.
use Rattle.std.proofs.Common.{◌≡◌, ℕ, zero, suc, Bool, true, false, List, Option, sym, ◌∙◌, ap, subst, inl, inr}
use Rattle.std.proofs.lemmas.Bool.{both_ways}
use Rattle.pg_grammar.specs.Limits.{Limit}
use Rattle.pg_grammar.specs.Languages.{Lang, gives, token, one, bind, either, times, more, tie, knot, reaches}
use Rattle.pg_grammar.specs.Answers.{next}
use Rattle.pg_grammar.proofs.Words.{Starts, starts_times, starts_tie}

-- a word of L and one of M in the same tokens, where f may follow, are one; how many tokens need not keep a limit is
-- nothing to it
pub record Agree {T V : Type 0} (L M : Lang T V) (f : Option T → Bool) : Type 0 where
  pub same : (m n : Limit → ℕ) (s : List T) (v w : V) (y z : List T) → L m s v y → M n s w z → f (next y) ≡ true →
      f (next z) ≡ true → (v ≡ w) × (y ≡ z)

-- no tokens have a word of L and one of M
pub record Apart {T V : Type 0} (L M : Lang T V) (f : Option T → Bool) : Type 0 where
  pub apart : (m n : Limit → ℕ) (s : List T) (v w : V) (y z : List T) → L m s v y → M n s w z → f (next y) ≡ true →
      f (next z) ≡ true → ⊥

-- they begin otherwise
pub apart_starts : {T V : Type 0} (p q f : Option T → Bool) (L M : Lang T V) → Starts p L f → Starts q M f →
    ((o : Option T) → p o ≡ true → q o ≡ false) → Apart L M f
apart_starts p q f L M a b h = record { apart = λ m n s v w y z l r c d. both_ways (q (next s)) (h (next s) (a.starts m s v y l c)) (b.starts n s w z r d) }

pub agree_less : {T V : Type 0} (f g : Option T → Bool) (L M : Lang T V) → ((o : Option T) → g o ≡ true → f o ≡ true) →
    Agree L M f → Agree L M g
agree_less f g L M h a = record { same = λ m n s v w y z l r c d. a.same m n s v w y z l r (h (next y) c) (h (next z) d) }

pub agree_gives : {T V : Type 0} (f : Option T → Bool) (x : V) → Agree (gives {T = T} x) (gives x) f
agree_gives f x = record { same = λ m n s v w y z l r c d. (l.0 ∙ sym r.0, l.1 ∙ sym r.1) }

pub agree_token : {T V : Type 0} (f : Option T → Bool) (t : T) (L M : Lang T V) → Agree L M f → Agree (token t L) (token t M) f
agree_token f t L M a = record {
  same = λ m n s v w y z l r c d.
      let behind : r.0 ≡ l.0 = cc (l.1, r.1) in
      a.same m n l.0 v w y z l.2 (subst (λ q. M n q w z) behind r.2) c d;
}

pub agree_one : {T X : Type 0} (f : Option T → Bool) (p : T → Option X) → Agree (one p) (one p) f
agree_one f p = record {
  same = λ m n s v w y z l r c d.
      let head : l.head ≡ r.head = cc (l.is, r.is) in
      let behind : y ≡ z = cc (l.is, r.is) in
      let value : v ≡ w = cc (sym l.value ∙ ap p head ∙ r.value) in
      (value, behind);
}

pub agree_bind : {T X V : Type 0} (h f : Option T → Bool) (L M : Lang T X) (K J : X → Lang T V) → Agree L M h →
    ((x : X) → Agree (K x) (J x) f) → ((x : X) → Starts h (K x) f) → ((x : X) → Starts h (J x) f) →
    Agree (bind L K) (bind M J) f
agree_bind h f L M K J a b k j = record {
  same = λ m n s v w y z l r c d.
      let first = a.same m n s l.0 r.0 l.1 r.1 l.2 r.2 ((k l.0).starts m l.1 v y l.3 c) ((j r.0).starts n r.1 w z r.3 d) in
      let moved = subst (λ q. J l.0 n q w z) (sym first.1) (subst (λ x. J x n r.1 w z) (sym first.0) r.3) in
      (b l.0).same m n l.1 v w y z l.3 moved c d;
}

pub agree_either : {T V : Type 0} (f : Option T → Bool) (L M K J : Lang T V) → Agree L M f → Agree K J f →
    Apart L J f → Apart M K f → Agree (either L K) (either M J) f
agree_either f L M K J a b p q = record {
  same = λ m n s v w y z l r c d.
      elim l [
        | inl x ↦ elim r [ inl u ↦ a.same m n s v w y z x u c d | inr u ↦ absurd (p.apart m n s v w y z x u c d) ]
        | inr x ↦ elim r [ inl u ↦ absurd (q.apart n m s w v z y u x d c) | inr u ↦ b.same m n s v w y z x u c d ]
      ];
}

pub agree_reaches : {T V : Type 0} (f : Option T → Bool) (k : Limit) (a b : ℕ) (L M : Lang T V) → Agree L M f →
    Agree (reaches k a L) (reaches k b M) f
agree_reaches f k a b L M h = record { same = λ m n s v w y z l r c d. h.same m n s v w y z l.1 r.1 c d }

-- steps that begin with p, which does not follow the last of them; h may follow each of them
module _ {T V : Type 0} (p h f : Option T → Bool) (S R : V → Lang T V)
    (each : (a : V) → Agree (S a) (R a) h) (begun : (a : V) → Starts p (S a) h) (begins : (a : V) → Starts p (R a) h)
    (further : (o : Option T) → p o ≡ true → h o ≡ true) (last : (o : Option T) → f o ≡ true → h o ≡ true)
    (stops : (o : Option T) → f o ≡ true → p o ≡ false) where
  leads : (S : V → Lang T V) → ((a : V) → Starts p (S a) h) → (k : ℕ) (a : V) → Starts h (times S k a) f
  leads S b = starts_times h f S (λ a. record { starts = λ m s v z l c. further (next s) ((b a).starts m s v z l c) }) last

  agree_times : (i k : ℕ) (a : V) → Agree (times S i a) (times R k a) f
  agree_times zero zero a = agree_gives f a
  agree_times zero (suc k) a = record {
    same = λ m n s v w y z l r c d.
        let begun_here = (begins a).starts n s r.0 r.1 r.2 ((leads R begins k r.0).starts n r.1 w z r.3 d) in
        absurd (both_ways (p (next s)) (stops (next s) (subst (λ q. f (next q) ≡ true) l.1 c)) begun_here);
  }
  agree_times (suc i) zero a = record {
    same = λ m n s v w y z l r c d.
        let begun_here = (begun a).starts m s l.0 l.1 l.2 ((leads S begun i l.0).starts m l.1 v y l.3 c) in
        absurd (both_ways (p (next s)) (stops (next s) (subst (λ q. f (next q) ≡ true) r.1 d)) begun_here);
  }
  agree_times (suc i) (suc k) a = agree_bind h f (S a) (R a) (times S i) (times R k) (each a) (λ x. agree_times i k x) (λ x. leads S begun i x) (λ x. leads R begins k x)

  pub agree_more : (a : V) → Agree (more S a) (more R a) f
  agree_more a = record { same = λ m n s v w y z l r c d. (agree_times l.0 r.0 a).same m n s v w y z l.1 r.1 c d }

-- two rules that lead back to themselves, and begin with p
module _ {T V I : Type 0} (p f : Option T → Bool) (G K : (I → Lang T V) → I → Lang T V)
    (begun : (F : I → Lang T V) → ((j : I) → Starts p (F j) f) → (j : I) → Starts p (G F j) f)
    (begins : (F : I → Lang T V) → ((j : I) → Starts p (F j) f) → (j : I) → Starts p (K F j) f)
    (agrees : (F H : I → Lang T V) → ((j : I) → Starts p (F j) f) → ((j : I) → Starts p (H j) f) →
    ((j : I) → Agree (F j) (H j) f) → (j : I) → Agree (G F j) (K H j) f) where
  agree_tie : (a b : ℕ) (i : I) → Agree (tie G a i) (tie K b i) f
  agree_tie zero b i = record { same = λ m n s v w y z l r c d. absurd l }
  agree_tie (suc a) zero i = record { same = λ m n s v w y z l r c d. absurd r }
  agree_tie (suc a) (suc b) i = record {
    same = λ m n s v w y z l r c d.
        elim l [
          | inl x ↦ (agree_tie a (suc b) i).same m n s v w y z x r c d
          | inr x ↦
              elim r [
                | inl u ↦ (agree_tie (suc a) b i).same m n s v w y z (inr x) u c d
                | inr u ↦ (agrees (tie G a) (tie K b) (starts_tie p f G begun a) (starts_tie p f K begins b) (λ j. agree_tie a b j) i).same m n s v w y z x u c d
              ]
        ];
  }

  pub agree_knot : (i : I) → Agree (knot G i) (knot K i) f
  agree_knot i = record { same = λ m n s v w y z l r c d. (agree_tie l.0 r.0 i).same m n s v w y z l.1 r.1 c d }
