-- What words begin with, and that there are some.
use Rattle.std.proofs.Common.{◌≡◌, ◌≤◌, ℕ, zero, suc, Bool, true, false, List, [], ◌∷◌, ◌++◌, length, take, Option, Some, refl, sym, ap, ◌∙◌, subst, inl, inr, arith, append_assoc, length-append}
use Rattle.std.proofs.lemmas.Bool.{both_ways}
use Rattle.pg_grammar.specs.Limits.{Limit}
use Rattle.pg_grammar.specs.Languages.{Lang, gives, token, one, bind, either, times, more, tie, knot, reaches}
use Rattle.pg_grammar.specs.Answers.{next}

-- what a word of L begins with satisfies f, where g may follow
pub record Starts {T V : Type 0} (f : Option T → Bool) (L : Lang T V) (g : Option T → Bool) : Type 0 where
  pub starts : (m : Limit → ℕ) (s : List T) (v : V) (z : List T) → L m s v z → g (next z) ≡ true → f (next s) ≡ true

-- no word of L begins as the first k tokens of xs do, where g may follow
pub record Bars {T V : Type 0} (L : Lang T V) (g : Option T → Bool) (k : ℕ) (xs : List T) : Type 0 where
  pub bars : (m : Limit → ℕ) (s : List T) (v : V) (z : List T) → take k s ≡ take k xs → L m s v z →
      g (next z) ≡ true → ⊥

-- L has a word
pub record Spelled {T V : Type 0} (L : Lang T V) : Type 0 where
  pub word : List T
  pub value : V
  pub spells : (m : Limit → ℕ) (z : List T) → ((k : Limit) → length (word ++ z) ≤ m k) → L m (word ++ z) value z

-- L has a word that begins with t
pub record Begun {T V : Type 0} (t : T) (L : Lang T V) : Type 0 where
  pub word : List T
  pub value : V
  pub spells : (m : Limit → ℕ) (z : List T) → ((k : Limit) → length (t ∷ (word ++ z)) ≤ m k) →
      L m (t ∷ (word ++ z)) value z

pub next_of_take : {T : Type 0} (k : ℕ) (s xs : List T) → take (suc k) s ≡ take (suc k) xs → next s ≡ next xs
next_of_take k [] [] e = refl
next_of_take k [] (t ∷ ys) e = absurd (cc e)
next_of_take k (t ∷ s) [] e = absurd (cc e)
next_of_take k (t ∷ s) (u ∷ ys) e = let d : t ≡ u = cc e in ap Some d

-- Starts
pub starts_gives : {T V : Type 0} (f g : Option T → Bool) (x : V) → ((o : Option T) → g o ≡ true → f o ≡ true) →
    Starts f (gives {T = T} x) g
starts_gives f g x h = record { starts = λ m s v z l b. h (next s) (subst (λ y. g (next y) ≡ true) l.1 b) }

pub starts_token : {T V : Type 0} (f g : Option T → Bool) (t : T) (L : Lang T V) → f (Some t) ≡ true →
    Starts f (token t L) g
starts_token f g t L h = record { starts = λ m s v z l b. subst (λ y. f (next y) ≡ true) (sym l.1) h }

pub starts_one : {T V : Type 0} (f g : Option T → Bool) (p : T → Option V) →
    ((t : T) (x : V) → p t ≡ Some x → f (Some t) ≡ true) → Starts f (one p) g
starts_one f g p h = record { starts = λ m s v z l b. subst (λ y. f (next y) ≡ true) (sym l.is) (h l.head v l.value) }

pub starts_bind : {T X V : Type 0} (f h g : Option T → Bool) (L : Lang T X) (M : X → Lang T V) → Starts f L h →
    ((x : X) → Starts h (M x) g) → Starts f (bind L M) g
starts_bind f h g L M a b = record { starts = λ m s v z l c. a.starts m s l.0 l.1 l.2 ((b l.0).starts m l.1 v z l.3 c) }

pub starts_either : {T V : Type 0} (f g : Option T → Bool) (L M : Lang T V) → Starts f L g → Starts f M g →
    Starts f (either L M) g
starts_either {T} {V} f g L M a b = record { starts = λ m s v z l c. elim l [ inl x ↦ a.starts m s v z x c | inr y ↦ b.starts m s v z y c ] }

pub starts_times : {T V : Type 0} (f g : Option T → Bool) (step : V → Lang T V) → ((a : V) → Starts f (step a) f) →
    ((o : Option T) → g o ≡ true → f o ≡ true) → (n : ℕ) (a : V) → Starts f (times step n a) g
starts_times f g step a b zero x = starts_gives f g x b
starts_times f g step a b (suc n) x = starts_bind f f g (step x) (times step n) (a x) (λ y. starts_times f g step a b n y)

pub starts_more : {T V : Type 0} (f g : Option T → Bool) (step : V → Lang T V) (acc : V) →
    ((a : V) → Starts f (step a) f) → ((o : Option T) → g o ≡ true → f o ≡ true) → Starts f (more step acc) g
starts_more f g step acc a b = record { starts = λ m s v z l c. (starts_times f g step a b l.0 acc).starts m s v z l.1 c }

pub starts_reaches : {T V : Type 0} (f g : Option T → Bool) (k : Limit) (h : ℕ) (L : Lang T V) → Starts f L g →
    Starts f (reaches k h L) g
starts_reaches f g k h L a = record { starts = λ m s v z l c. a.starts m s v z l.1 c }

pub starts_tie : {T V I : Type 0} (f g : Option T → Bool) (G : (I → Lang T V) → I → Lang T V) →
    ((F : I → Lang T V) → ((j : I) → Starts f (F j) g) → (j : I) → Starts f (G F j) g) → (n : ℕ) (i : I) →
    Starts f (tie G n i) g
starts_tie f g G h zero i = record { starts = λ m s v z l c. absurd l }
starts_tie f g G h (suc n) i = starts_either f g (tie G n i) (G (tie G n) i) (starts_tie f g G h n i) (h (tie G n) (λ j. starts_tie f g G h n j) i)

pub starts_knot : {T V I : Type 0} (f g : Option T → Bool) (G : (I → Lang T V) → I → Lang T V) →
    ((F : I → Lang T V) → ((j : I) → Starts f (F j) g) → (j : I) → Starts f (G F j) g) → (i : I) →
    Starts f (knot G i) g
starts_knot f g G h i = record { starts = λ m s v z l c. (starts_tie f g G h l.0 i).starts m s v z l.1 c }

-- Bars
pub bars_from : {T V : Type 0} (f g : Option T → Bool) (L : Lang T V) (k : ℕ) (xs : List T) → Starts f L g →
    f (next xs) ≡ false → Bars L g (suc k) xs
bars_from f g L k xs a h = record { bars = λ m s v z e l c. both_ways (f (next xs)) h (subst (λ o. f o ≡ true) (next_of_take k s xs e) (a.starts m s v z l c)) }

pub bars_gives : {T V : Type 0} (g : Option T → Bool) (x : V) (k : ℕ) (xs : List T) → g (next xs) ≡ false →
    Bars (gives x) g (suc k) xs
bars_gives g x k xs h = bars_from g g (gives x) k xs (starts_gives g g x (λ o e. e)) h

pub bars_token : {T V : Type 0} (g : Option T → Bool) (t : T) (L : Lang T V) (k : ℕ) (xs : List T) →
    (next xs ≡ Some t → ⊥) → Bars (token t L) g (suc k) xs
bars_token g t L k xs h = record { bars = λ m s v z e l c. h (sym (next_of_take k s xs e) ∙ ap next l.1) }

pub bars_token_next : {T V : Type 0} (g : Option T → Bool) (t : T) (L : Lang T V) (k : ℕ) (xs ys : List T) →
    xs ≡ t ∷ ys → Bars L g k ys → Bars (token t L) g (suc k) xs
bars_token_next g t L k xs ys x b = record { bars = λ m s v z e l c. b.bars m l.0 v z (cc (e, x, l.1)) l.2 c }

pub bars_one : {T V : Type 0} (g : Option T → Bool) (p : T → Option V) (k : ℕ) (xs : List T) →
    ((t : T) (x : V) → next xs ≡ Some t → p t ≡ Some x → ⊥) → Bars (one p) g (suc k) xs
bars_one g p k xs h = record { bars = λ m s v z e l c. h l.head v (sym (next_of_take k s xs e) ∙ ap next l.is) l.value }

pub bars_one_next : {T X V : Type 0} (g : Option T → Bool) (p : T → Option X) (M : X → Lang T V) (k : ℕ)
    (xs ys : List T) (t : T) → xs ≡ t ∷ ys → ((x : X) → p t ≡ Some x → Bars (M x) g k ys) →
    Bars (bind (one p) M) g (suc k) xs
bars_one_next g p M k xs ys t x b = record {
  bars = λ m s v z e l c.
      let same : l.2.head ≡ t = cc (e, x, l.2.is) in
      let behind : take k l.1 ≡ take k ys = cc (e, x, l.2.is) in
      (b l.0 (subst (λ u. p u ≡ Some l.0) same l.2.value)).bars m l.1 v z behind l.3 c;
}

pub bars_bind : {T X V : Type 0} (h g : Option T → Bool) (L : Lang T X) (M : X → Lang T V) (k : ℕ) (xs : List T) →
    Bars L h k xs → ((x : X) → Starts h (M x) g) → Bars (bind L M) g k xs
bars_bind h g L M k xs a b = record { bars = λ m s v z e l c. a.bars m s l.0 l.1 e l.2 ((b l.0).starts m l.1 v z l.3 c) }

pub bars_either : {T V : Type 0} (g : Option T → Bool) (L M : Lang T V) (k : ℕ) (xs : List T) → Bars L g k xs →
    Bars M g k xs → Bars (either L M) g k xs
bars_either g L M k xs a b = record { bars = λ m s v z e l c. elim l [ inl x ↦ a.bars m s v z e x c | inr y ↦ b.bars m s v z e y c ] }

pub bars_reaches : {T V : Type 0} (g : Option T → Bool) (n : Limit) (h : ℕ) (L : Lang T V) (k : ℕ) (xs : List T) →
    Bars L g k xs → Bars (reaches n h L) g k xs
bars_reaches g n h L k xs a = record { bars = λ m s v z e l c. a.bars m s v z e l.1 c }

bars_tie : {T V I : Type 0} (g : Option T → Bool) (G : (I → Lang T V) → I → Lang T V) (k : ℕ) (xs : List T) →
    ((F : I → Lang T V) → ((j : I) → Bars (F j) g k xs) → (j : I) → Bars (G F j) g k xs) → (n : ℕ) (i : I) →
    Bars (tie G n i) g k xs
bars_tie g G k xs h zero i = record { bars = λ m s v z e l c. l }
bars_tie g G k xs h (suc n) i = bars_either g (tie G n i) (G (tie G n) i) k xs (bars_tie g G k xs h n i) (h (tie G n) (λ j. bars_tie g G k xs h n j) i)

pub bars_knot : {T V I : Type 0} (g : Option T → Bool) (G : (I → Lang T V) → I → Lang T V) (k : ℕ) (xs : List T) →
    ((F : I → Lang T V) → ((j : I) → Bars (F j) g k xs) → (j : I) → Bars (G F j) g k xs) → (i : I) →
    Bars (knot G i) g k xs
bars_knot g G k xs h i = record { bars = λ m s v z e l c. (bars_tie g G k xs h l.0 i).bars m s v z e l.1 c }

-- Spelled
pub spelled_begun : {T V : Type 0} (t : T) (L : Lang T V) → Begun t L → Spelled L
spelled_begun t L b = record { word = t ∷ b.word; value = b.value; spells = b.spells }

pub spelled_gives : {T V : Type 0} (x : V) → Spelled (gives {T = T} x)
spelled_gives x = record { word = []; value = x; spells = λ m z w. (refl, refl) }

pub begun_token : {T V : Type 0} (t : T) (L : Lang T V) → Spelled L → Begun t (token t L)
begun_token t L a = record {
  word = a.word;
  value = a.value;
  spells = λ m z w. (a.word ++ z, refl, a.spells m z (λ k. let l = w k in omega (arith, l)));
}

pub spelled_token : {T V : Type 0} (t : T) (L : Lang T V) → Spelled L → Spelled (token t L)
spelled_token t L a = spelled_begun t (token t L) (begun_token t L a)

pub begun_one : {T V : Type 0} (p : T → Option V) (t : T) (x : V) → p t ≡ Some x → Begun t (one p)
begun_one p t x e = record { word = []; value = x; spells = λ m z w. record { head = t; is = refl; value = e } }

pub spelled_one : {T V : Type 0} (p : T → Option V) (t : T) (x : V) → p t ≡ Some x → Spelled (one p)
spelled_one p t x e = spelled_begun t (one p) (begun_one p t x e)

pub begun_bind : {T X V : Type 0} (t : T) (L : Lang T X) (M : X → Lang T V) → Begun t L →
    ((x : X) → Spelled (M x)) → Begun t (bind L M)
begun_bind {T} t L M a b = record {
  word = a.word ++ next_part.word;
  value = next_part.value;
  spells = λ m z w.
      let flat : (a.word ++ next_part.word) ++ z ≡ a.word ++ (next_part.word ++ z) = append_assoc a.word next_part.word z in
      rw append_assoc (
        a.value,
        next_part.word ++ z,
        a.spells m (next_part.word ++ z) (λ k. let l = w k in subst (λ y. length (t ∷ y) ≤ m k) flat l),
        next_part.spells m z (λ k. let l = w k in let n = ap length flat ∙ length-append a.word (next_part.word ++ z) in omega (arith, l, n)),
      );
}
  where
    next_part : Spelled (M a.value)
    next_part = b a.value

pub spelled_bind : {T X V : Type 0} (L : Lang T X) (M : X → Lang T V) → Spelled L → ((x : X) → Spelled (M x)) →
    Spelled (bind L M)
spelled_bind {T} L M a b = record {
  word = a.word ++ next_part.word;
  value = next_part.value;
  spells = λ m z w.
      let flat : (a.word ++ next_part.word) ++ z ≡ a.word ++ (next_part.word ++ z) = append_assoc a.word next_part.word z in
      rw append_assoc (
        a.value,
        next_part.word ++ z,
        a.spells m (next_part.word ++ z) (λ k. let l = w k in subst (λ y. length y ≤ m k) flat l),
        next_part.spells m z (λ k. let l = w k in let n = ap length flat ∙ length-append a.word (next_part.word ++ z) in omega (arith, l, n)),
      );
}
  where
    next_part : Spelled (M a.value)
    next_part = b a.value

pub begun_left : {T V : Type 0} (t : T) (L M : Lang T V) → Begun t L → Begun t (either L M)
begun_left t L M a = record { word = a.word; value = a.value; spells = λ m z w. inl (a.spells m z w) }

pub begun_right : {T V : Type 0} (t : T) (L M : Lang T V) → Begun t M → Begun t (either L M)
begun_right t L M a = record { word = a.word; value = a.value; spells = λ m z w. inr (a.spells m z w) }

pub spelled_left : {T V : Type 0} (L M : Lang T V) → Spelled L → Spelled (either L M)
spelled_left L M a = record { word = a.word; value = a.value; spells = λ m z w. inl (a.spells m z w) }

pub spelled_right : {T V : Type 0} (L M : Lang T V) → Spelled M → Spelled (either L M)
spelled_right L M a = record { word = a.word; value = a.value; spells = λ m z w. inr (a.spells m z w) }

pub spelled_more : {T V : Type 0} (step : V → Lang T V) (acc : V) → Spelled (more step acc)
spelled_more step acc = record { word = []; value = acc; spells = λ m z w. (zero, (refl, refl)) }

pub spelled_reaches : {T V : Type 0} (k : Limit) (h : ℕ) (L : Lang T V) → Spelled L → Spelled (reaches k h L)
spelled_reaches k h L a = record { word = a.word; value = a.value; spells = λ m z w. (λ b. absurd (let l = w k in omega (arith, l, b)), a.spells m z w) }

pub spelled_knot : {T V I : Type 0} (G : (I → Lang T V) → I → Lang T V) (i : I) →
    ((F : I → Lang T V) → Spelled (G F i)) → Spelled (knot G i)
spelled_knot G i a = let b = a (tie G zero) in record { word = b.word; value = b.value; spells = λ m z w. (suc zero, inr (b.spells m z w)) }
