-- What holds of each value that is read within the limits, from tokens that pass a test.
use Rattle.std.proofs.Common.{◌≡◌, ◌<◌, ◌≤◌, ℕ, zero, suc, Bool, true, List, ◌∷◌, length, Option, Some, sym, ap, subst, inl, inr, arith}
use Rattle.std.specs.List.{list_all}
use Rattle.std.proofs.lemmas.Bool.{and_parts}
use Rattle.pg_grammar.specs.Limits.{Limit, most}
use Rattle.pg_grammar.specs.Languages.{Lang, gives, token, one, bind, either, times, more, tie, knot, reaches}

-- a value of L that all tokens keep the limits of satisfies P, and the tokens behind it still pass the test
pub record Keeps {T V : Type 0} (test : T → Bool) (L : Lang T V) (P : V → Type 0) : Type 0 where
  pub keeps : (s : List T) (v : V) (z : List T) → list_all test s ≡ true → L (λ k. 0) s v z → P v × (list_all test z ≡ true)

-- L takes a token
pub record Takes {T V : Type 0} (L : Lang T V) : Type 0 where
  pub takes : (s : List T) (v : V) (z : List T) → L (λ k. 0) s v z → 0 < length s

behind : {T : Type 0} (test : T → Bool) (t : T) (s y : List T) → s ≡ t ∷ y → list_all test s ≡ true →
    (test t ≡ true) × (list_all test y ≡ true)
behind test t s y e a = and_parts (test t) (list_all test y) (subst (λ q. list_all test q ≡ true) e a)

pub keeps_gives : {T V : Type 0} (test : T → Bool) (P : V → Type 0) (x : V) → P x → Keeps test (gives x) P
keeps_gives test P x p = record {
  keeps = λ s v z a l. (subst P (sym l.0) p, subst (λ q. list_all test q ≡ true) (sym l.1) a);
}

pub keeps_token : {T V : Type 0} (test : T → Bool) (P : V → Type 0) (t : T) (L : Lang T V) → Keeps test L P →
    Keeps test (token t L) P
keeps_token test P t L h = record { keeps = λ s v z a l. h.keeps l.0 v z (behind test t s l.0 l.1 a).1 l.2 }

pub keeps_one : {T X : Type 0} (test : T → Bool) (P : X → Type 0) (p : T → Option X) →
    ((t : T) (x : X) → test t ≡ true → p t ≡ Some x → P x) → Keeps test (one p) P
keeps_one test P p h = record {
  keeps = λ s v z a l. let parts = behind test l.head s z l.is a in (h l.head v parts.0 l.value, parts.1);
}

pub keeps_bind : {T X V : Type 0} (test : T → Bool) (Q : X → Type 0) (P : V → Type 0) (L : Lang T X) (K : X → Lang T V) →
    Keeps test L Q → ((x : X) → Q x → Keeps test (K x) P) → Keeps test (bind L K) P
keeps_bind test Q P L K a k = record {
  keeps = λ s v z h l. let first = a.keeps s l.0 l.1 h l.2 in (k l.0 first.0).keeps l.1 v z first.1 l.3;
}

pub keeps_either : {T V : Type 0} (test : T → Bool) (P : V → Type 0) (L M : Lang T V) → Keeps test L P → Keeps test M P →
    Keeps test (either L M) P
keeps_either test P L M a b = record { keeps = λ s v z h l. elim l [ inl x ↦ a.keeps s v z h x | inr x ↦ b.keeps s v z h x ] }

keeps_times : {T V : Type 0} (test : T → Bool) (P : V → Type 0) (S : V → Lang T V) →
    ((a : V) → P a → Keeps test (S a) P) → (n : ℕ) (a : V) → P a → Keeps test (times S n a) P
keeps_times test P S h zero a p = keeps_gives test P a p
keeps_times test P S h (suc n) a p = keeps_bind test P P (S a) (times S n) (h a p) (λ x q. keeps_times test P S h n x q)

pub keeps_more : {T V : Type 0} (test : T → Bool) (P : V → Type 0) (S : V → Lang T V) →
    ((a : V) → P a → Keeps test (S a) P) → (a : V) → P a → Keeps test (more S a) P
keeps_more test P S h a p = record { keeps = λ s v z g l. (keeps_times test P S h l.0 a p).keeps s v z g l.1 }

-- where L takes a token, its count is within the limit
pub keeps_reaches : {T V : Type 0} (test : T → Bool) (P : V → Type 0) (k : Limit) (h : ℕ) (L : Lang T V) → Takes L →
    (h ≤ most k → Keeps test L P) → Keeps test (reaches k h L) P
keeps_reaches test P k h L t a = record { keeps = λ s v z g l. (a (l.0 (t.takes s v z l.1))).keeps s v z g l.1 }

keeps_tie : {T V I : Type 0} (test : T → Bool) (P : I → V → Type 0) (G : (I → Lang T V) → I → Lang T V) →
    ((F : I → Lang T V) → ((j : I) → Keeps test (F j) (P j)) → (j : I) → Keeps test (G F j) (P j)) → (n : ℕ) (i : I) →
    Keeps test (tie G n i) (P i)
keeps_tie test P G h zero i = record { keeps = λ s v z g l. absurd l }
keeps_tie test P G h (suc n) i = keeps_either test (P i) (tie G n i) (G (tie G n) i) (keeps_tie test P G h n i) (h (tie G n) (λ j. keeps_tie test P G h n j) i)

pub keeps_knot : {T V I : Type 0} (test : T → Bool) (P : I → V → Type 0) (G : (I → Lang T V) → I → Lang T V) →
    ((F : I → Lang T V) → ((j : I) → Keeps test (F j) (P j)) → (j : I) → Keeps test (G F j) (P j)) → (i : I) →
    Keeps test (knot G i) (P i)
keeps_knot test P G h i = record { keeps = λ s v z g l. (keeps_tie test P G h l.0 i).keeps s v z g l.1 }

pub takes_token : {T V : Type 0} (t : T) (L : Lang T V) → Takes (token t L)
takes_token t L = record { takes = λ s v z l. let n = ap length l.1 in omega (arith, n) }

pub takes_one : {T X V : Type 0} (p : T → Option X) (K : X → Lang T V) → Takes (bind (one p) K)
takes_one p K = record { takes = λ s v z l. let n = ap length l.2.is in omega (arith, n) }

pub takes_first : {T X : Type 0} (p : T → Option X) → Takes (one p)
takes_first p = record { takes = λ s v z l. let n = ap length l.is in omega (arith, n) }

pub takes_either : {T V : Type 0} (L M : Lang T V) → Takes L → Takes M → Takes (either L M)
takes_either L M a b = record { takes = λ s v z l. elim l [ inl x ↦ a.takes s v z x | inr x ↦ b.takes s v z x ] }
