-- A rule that leads back to itself: its knot is the rule over the knot.
use Rattle.std.proofs.lemmas.Bool.{cases_lt}
use Rattle.std.proofs.Common.{subst, ◌≡◌, ◌+◌, ◌≤◌, ℕ, zero, suc, Bool, List, Option, inl, inr, arith}
use Rattle.pg_grammar.specs.Limits.{Limit}
use Rattle.pg_grammar.specs.Languages.{Lang, gives, token, bind, either, times, more, tie, knot, reaches}
use Rattle.pg_grammar.proofs.Leading.{Leads, leads_same}

-- the words of L are words of M
pub record Within {T V : Type 0} (L M : Lang T V) : Type 0 where
  pub has : (m : Limit → ℕ) (s : List T) (v : V) (z : List T) → L m s v z → M m s v z

-- languages that grow from one number to the next
pub record Climbs {T V I : Type 0} (C : ℕ → I → Lang T V) : Type 0 where
  pub up : (n : ℕ) (i : I) → Within (C n i) (C (suc n) i)

-- their union
abbrev pub all_of : {T V I : Type 0} → (ℕ → I → Lang T V) → I → Lang T V
all_of C i m s v z = (n : ℕ) × C n i m s v z

-- what a rule makes of a language grows with it, and each word needs a part of it alone
pub record Grows {T U V I : Type 0} (H : (I → Lang T U) → Lang T V) : Type 1 where
  pub grows : (F G : I → Lang T U) → ((i : I) → Within (F i) (G i)) → Within (H F) (H G)
  pub needs : (C : ℕ → I → Lang T U) → Climbs C → (m : Limit → ℕ) (s : List T) (v : V) (z : List T) →
      H (all_of C) m s v z → (n : ℕ) × H (C n) m s v z

raise : {T V I : Type 0} (C : ℕ → I → Lang T V) → Climbs C → (i : I) (n p : ℕ) → n ≤ p → Within (C n i) (C p i)
raise C c i n zero h = let e : n ≡ zero = omega (arith, h) in subst (λ q. Within (C n i) (C q i)) e (record { has = λ m s v z l. l })
raise C c i n (suc p) h =
    elim (cases_lt n (suc p)) [
      | inl l ↦ let a = raise C c i n p (omega (arith, l)) in record { has = λ m s v z w. (c.up p i).has m s v z (a.has m s v z w) }
      | inr g ↦ let e : n ≡ suc p = omega (arith, g, h) in subst (λ q. Within (C n i) (C q i)) e (record { has = λ m s v z l. l })
    ]

-- what a rule makes of a lower one, it makes of a higher one
raised : {T U V I : Type 0} (H : (I → Lang T U) → Lang T V) → Grows H → (C : ℕ → I → Lang T U) → Climbs C →
    (n p : ℕ) → n ≤ p → Within (H (C n)) (H (C p))
raised H g C c n p h = g.grows (C n) (C p) (λ i. raise C c i n p h)

-- a language that does not lead back
pub grows_same : {T U V I : Type 0} (L : Lang T V) → Grows {T = T} {U = U} {V = V} {I = I} (λ F. L)
grows_same L = record { grows = λ F G w. record { has = λ m s v z l. l }; needs = λ C c m s v z l. (zero, l) }

-- one that does
pub grows_back : {T V I : Type 0} (i : I) → Grows {T = T} {U = V} {V = V} {I = I} (λ F. F i)
grows_back i = record { grows = λ F G w. w i; needs = λ C c m s v z l. l }

pub grows_token : {T U V I : Type 0} (t : T) (H : (I → Lang T U) → Lang T V) → Grows H → Grows (λ F. token t (H F))
grows_token t H g = record {
  grows = λ F G w. record { has = λ m s v z l. (l.0, l.1, (g.grows F G w).has m l.0 v z l.2) };
  needs = λ C c m s v z l. let n = g.needs C c m l.0 v z l.2 in (n.0, (l.0, l.1, n.1));
}

pub grows_bind : {T U X V I : Type 0} (H : (I → Lang T U) → Lang T X) (K : X → (I → Lang T U) → Lang T V) →
    Grows H → ((x : X) → Grows (K x)) → Grows (λ F. bind (H F) (λ x. K x F))
grows_bind {T} {U} {X} {V} {I} H K g k = record {
  grows = λ F G w. record { has = λ m s v z l. (l.0, l.1, (g.grows F G w).has m s l.0 l.1 l.2, ((k l.0).grows F G w).has m l.1 v z l.3) };
  needs = λ C c m s v z l.
      let a = g.needs C c m s l.0 l.1 l.2 in
      let b = (k l.0).needs C c m l.1 v z l.3 in (
        a.0 + b.0,
        (
          l.0,
          l.1,
          (raised H g C c a.0 (a.0 + b.0) (omega arith)).has m s l.0 l.1 a.1,
          (raised (K l.0) (k l.0) C c b.0 (a.0 + b.0) (omega arith)).has m l.1 v z b.1,
        ),
      );
}

pub grows_either : {T U V I : Type 0} (H K : (I → Lang T U) → Lang T V) → Grows H → Grows K →
    Grows (λ F. either (H F) (K F))
grows_either {T} {U} {V} {I} H K g k = record {
  grows = λ F G w. record { has = λ m s v z l. elim l [ inl a ↦ inl ((g.grows F G w).has m s v z a) | inr b ↦ inr ((k.grows F G w).has m s v z b) ] };
  needs = λ C c m s v z l.
      elim l [
        | inl a ↦ let n = g.needs C c m s v z a in (n.0, inl n.1)
        | inr b ↦ let n = k.needs C c m s v z b in (n.0, inr n.1)
      ];
}

grows_times : {T U V I : Type 0} (K : V → (I → Lang T U) → Lang T V) → ((a : V) → Grows (K a)) → (n : ℕ) (acc : V) →
    Grows (λ F. times (λ a. K a F) n acc)
grows_times K k zero acc = grows_same (gives acc)
grows_times K k (suc n) acc = grows_bind (K acc) (λ x F. times (λ a. K a F) n x) (k acc) (λ x. grows_times K k n x)

pub grows_more : {T U V I : Type 0} (K : V → (I → Lang T U) → Lang T V) (acc : V) → ((a : V) → Grows (K a)) →
    Grows (λ F. more (λ a. K a F) acc)
grows_more K acc k = record {
  grows = λ F G w. record { has = λ m s v z l. (l.0, ((grows_times K k l.0 acc).grows F G w).has m s v z l.1) };
  needs = λ C c m s v z l. let n = (grows_times K k l.0 acc).needs C c m s v z l.1 in (n.0, (l.0, n.1));
}

pub grows_reaches : {T U V I : Type 0} (k : Limit) (h : ℕ) (H : (I → Lang T U) → Lang T V) → Grows H →
    Grows (λ F. reaches k h (H F))
grows_reaches k h H g = record {
  grows = λ F G w. record { has = λ m s v z l. (l.0, (g.grows F G w).has m s v z l.1) };
  needs = λ C c m s v z l. let n = g.needs C c m s v z l.1 in (n.0, (l.0, n.1));
}

module _ {T V I : Type 0} (G : (I → Lang T V) → I → Lang T V) (g : (i : I) → Grows (λ F. G F i)) where
  tie_opens : (n : ℕ) (i : I) → Within (tie G n i) (G (knot G) i)
  tie_opens zero i = record { has = λ m s v z l. absurd l }
  tie_opens (suc n) i =
      let below = tie_opens n i in
      record { has = λ m s v z l. elim l [ inl a ↦ below.has m s v z a | inr b ↦ ((g i).grows (tie G n) (knot G) (λ j. record { has = λ m s v z c. (n, c) })).has m s v z b ] }

  pub knot_opens : (i : I) → Within (knot G i) (G (knot G) i)
  knot_opens i = record { has = λ m s v z l. (tie_opens l.0 i).has m s v z l.1 }

  pub knot_closes : (i : I) → Within (G (knot G) i) (knot G i)
  knot_closes i =
      record { has = λ m s v z l. let n = (g i).needs (tie G) (record { up = λ n j. record { has = λ m s v z a. inl a } }) m s v z l in (suc n.0, inr n.1) }

  pub leads_knot : (follows : Option T → Bool) (i : I) (xs : List T) → Leads (knot G i) xs (G (knot G) i) xs follows
  leads_knot follows i xs = leads_same (knot G i) (G (knot G) i) follows xs (λ m s v z l. (knot_closes i).has m s v z l) (λ m s v z l. (knot_opens i).has m s v z l)
