-- One lemma a combinator: what its parts read, it reads.
use Rattle.std.proofs.Common.{◌≡◌, ◌<◌, ◌≤◌, ℕ, zero, suc, Bool, true, false, List, [], ◌∷◌, ◌++◌, length, take, Option, Some, None, refl, sym, ap, ◌∙◌, subst, inl, inr, arith, append_assoc, length-append}
use Rattle.std.proofs.lemmas.Bool.{both_ways}
use Rattle.pg_grammar.specs.declared.fault.Fault.{Fault}
use Rattle.pg_grammar.specs.declared.fault.Fault.TheVariants.{Syntax, Deep, Many, Memory}
use Rattle.pg_grammar.specs.Limits.{Limit, nodes, sources, most}
use Rattle.pg_grammar.specs.Languages.{Lang, gives, token, one, bind, either, times, more, reaches}
use Rattle.pg_grammar.specs.Answers.{next, Seen, read, failed, IsRead, IsFault, Reads}
use Rattle.pg_grammar.proofs.Leading.{Leads, Far, leads_behind, leads_same, reads_behind, far_behind}
use Rattle.pg_grammar.proofs.Words.{Starts, Bars, Spelled, Begun}

take_one : {T : Type 0} (s xs : List T) → next s ≡ next xs → take 1 s ≡ take 1 xs
take_one [] [] e = refl
take_one [] (t ∷ ys) e = absurd (cc e)
take_one (t ∷ s) [] e = absurd (cc e)
take_one (t ∷ s) (u ∷ ys) e = let d : t ≡ u = cc e in ap (λ x. x ∷ []) d

-- no token
pub reads_gives : {T V : Type 0} (x v : V) (follows : Option T → Bool) (xs : List T) → v ≡ x →
    Reads (gives x) follows xs (read v xs)
reads_gives x v follows xs e = record {
  is = record {
    front = [];
    split = refl;
    spelled = λ m z. (e, refl);
    only = λ m z z' v' n l f. (l.0 ∙ sym e, l.1);
  };
}

-- one token
pub reads_one : {T V : Type 0} (p : T → Option V) (follows : Option T → Bool) (xs ys : List T) (t : T) (x : V) →
    xs ≡ t ∷ ys → p t ≡ Some x → Reads (one p) follows xs (read x ys)
reads_one p follows xs ys t x e h = record {
  is = record {
    front = t ∷ [];
    split = e;
    spelled = λ m z. record { head = t; is = refl; value = h };
    only = λ m z z' v' n l f.
        let same : t ≡ l.head = cc l.is in
        let value : Some x ≡ Some v' = sym h ∙ (ap p same ∙ l.value) in
        (cc value, cc l.is);
  };
}

-- a language whose words do not begin with the next token
pub reads_refused : {T V : Type 0} (L : Lang T V) (follows : Option T → Bool) (xs : List T) (n : ℕ) →
    Bars L follows 1 xs → Spelled L → n ≡ length xs → Reads L follows xs (failed (Syntax n))
reads_refused L follows xs n b w e = record {
  is = record {
    front = [];
    rest = xs;
    split = refl;
    left = sym e;
    tail = w.word;
    value = w.value;
    goes_on = λ k o. absurd (cc o);
    completed = λ m z l. w.spells m z l;
    none = λ m z z' v' o s l f. b.bars m z v' z' (take_one z xs s) l f;
  };
}

-- the fault for a limit
abbrev pub over_limit : Limit → ℕ → Fault
over_limit nodes n = Deep n
over_limit sources n = Many n

over_fault : {T V : Type 0} (k : Limit) (h : ℕ) (L : Lang T V) (follows : Option T → Bool) (xs ys : List T) (t : T)
    (n : ℕ) → most k < h → xs ≡ t ∷ ys → Begun t L → n ≡ length xs → IsFault (Some k) (reaches k h L) follows xs n
over_fault {T} {V} k h L follows xs ys t n over e b l = record {
  front = [];
  rest = xs;
  split = refl;
  left = sym l;
  tail = t ∷ b.word;
  value = b.value;
  goes_on = λ j o. (t, ap next e, refl);
  completed = λ m z w. (λ c. absurd (let a = w k in omega (arith, a, c)), b.spells m z w);
  none = λ m z z' v' o s r f. let a = r.0 (o k refl) in omega (arith, a, over);
}

-- a token that takes a count over its limit
pub reads_over : {T V : Type 0} (k : Limit) (h : ℕ) (L : Lang T V) (follows : Option T → Bool) (xs ys : List T)
    (t : T) (n : ℕ) → most k < h → xs ≡ t ∷ ys → Begun t L → n ≡ length xs →
    Reads (reaches k h L) follows xs (failed (over_limit k n))
reads_over nodes h L follows xs ys t n over e b l = record { is = over_fault nodes h L follows xs ys t n over e b l }
reads_over sources h L follows xs ys t n over e b l = record { is = over_fault sources h L follows xs ys t n over e b l }

-- a token that does not
pub leads_reaches : {T V : Type 0} (k : Limit) (h : ℕ) (L : Lang T V) (follows : Option T → Bool) (xs : List T) →
    h ≤ most k → Leads (reaches k h L) xs L xs follows
leads_reaches k h L follows xs le = leads_same (reaches k h L) L follows xs (λ m s v z l. (λ c. le, l)) (λ m s v z l. l.1)

pub leads_token : {T V : Type 0} (t : T) (L : Lang T V) (follows : Option T → Bool) (xs ys : List T) → xs ≡ t ∷ ys →
    Leads (token t L) xs L ys follows
leads_token t L follows xs ys e =
    rw e
    (leads_behind (token t L) L follows (t ∷ []) ys (λ m s v z l. (s, refl, l)) (λ m s v z n l f. let same : s ≡ l.0 = cc l.1 in subst (λ y. L m y v z) (sym same) l.2))

-- one token that is looked at, and what its value leads to
pub leads_one : {T X V : Type 0} (p : T → Option X) (M : X → Lang T V) (follows : Option T → Bool) (xs ys : List T)
    (t : T) (x : X) → xs ≡ t ∷ ys → p t ≡ Some x → Leads (bind (one p) M) xs (M x) ys follows
leads_one {T} {X} {V} p M follows xs ys t x e h =
    rw e
    (leads_behind (bind (one p) M) (M x) follows (t ∷ []) ys (λ m s v z l. (x, s, record { head = t; is = refl; value = h }, l)) out)
  where
    out : (m : Limit → ℕ) (s : List T) (v : V) (z : List T) → next s ≡ next ys →
        bind (one p) M m ((t ∷ []) ++ s) v z → follows (next z) ≡ true → M x m s v z
    out m s v z n l f =
        let token : t ≡ l.2.head = cc l.2.is in
        let behind : l.1 ≡ s = cc l.2.is in
        let value : Some l.0 ≡ Some x = sym l.2.value ∙ (ap p (sym token) ∙ h) in
        let same : l.0 ≡ x = cc value in
        subst (λ y. M x m y v z) behind (subst (λ u. M u m l.1 v z) same l.3)

-- a part that is read
pub leads_bind : {T X V : Type 0} (L : Lang T X) (M : X → Lang T V) (behind follows : Option T → Bool)
    (xs ys : List T) (x : X) → Reads L behind xs (read x ys) → ((u : X) → Starts behind (M u) follows) →
    Leads (bind L M) xs (M x) ys follows
leads_bind {T} {X} {V} L M behind follows xs ys x r st =
    subst (λ w. Leads (bind L M) w (M x) ys follows) (sym f.split)
    (leads_behind (bind L M) (M x) follows f.front ys (λ m s v z l. (x, s, f.spelled m s, l)) out)
  where
    f : IsRead L behind xs x ys
    f = r.is

    out : (m : Limit → ℕ) (s : List T) (v : V) (z : List T) → next s ≡ next ys → bind L M m (f.front ++ s) v z →
        follows (next z) ≡ true → M x m s v z
    out m s v z n l c =
        let o = f.only m s l.1 l.0 n l.2 ((st l.0).starts m l.1 v z l.3 c) in
        subst (λ y. M x m y v z) o.1 (subst (λ u. M u m l.1 v z) o.0 l.3)

-- a part that is not
pub reads_bind_failed : {T X V : Type 0} (L : Lang T X) (M : X → Lang T V) (behind follows : Option T → Bool)
    (xs : List T) (e : Fault) → Reads L behind xs (failed e) → ((u : X) → Starts behind (M u) follows) →
    ((u : X) → Spelled (M u)) → Reads (bind L M) follows xs (failed e)
reads_bind_failed {T} {X} {V} L M behind follows xs e r st sp = go e r
  where
    fault : (over : Option Limit) (n : ℕ) → IsFault over L behind xs n → IsFault over (bind L M) follows xs n
    fault over n f = record {
      front = f.front;
      rest = f.rest;
      split = f.split;
      left = f.left;
      tail = f.tail ++ (sp f.value).word;
      value = (sp f.value).value;
      goes_on = λ k o. let g = f.goes_on k o in (g.0, g.1, next_front f.tail (sp f.value).word g.0 g.2);
      completed = λ m z w.
          let q = sp f.value in
          let flat : (f.tail ++ q.word) ++ z ≡ f.tail ++ (q.word ++ z) = append_assoc f.tail q.word z in
          rw append_assoc (
            f.value,
            q.word ++ z,
            f.completed m (q.word ++ z) (λ k. let l = w k in subst (λ y. length y ≤ m k) flat l),
            q.spells m z (λ k. let l = w k in let n = ap length flat ∙ length-append f.tail (q.word ++ z) in omega (arith, l, n)),
          );
      none = λ m z z' v' w s l c. f.none m z l.1 l.0 w s l.2 ((st l.0).starts m l.1 v' z' l.3 c);
    }
      where
        next_front : (a b : List T) (t : T) → next a ≡ Some t → next (a ++ b) ≡ Some t
        next_front [] b t h = absurd (cc h)
        next_front (u ∷ a) b t h = h

    go : (e : Fault) → Reads L behind xs (failed e) → Reads (bind L M) follows xs (failed e)
    go (Syntax n) r = record { is = fault None n r.is }
    go (Deep n) r = record { is = fault (Some nodes) n r.is }
    go (Many n) r = record { is = fault (Some sources) n r.is }
    go Memory r = record { is = tt }

-- a choice, by the next token
pub leads_left : {T V : Type 0} (L M : Lang T V) (follows : Option T → Bool) (xs : List T) → Bars M follows 1 xs →
    Leads (either L M) xs L xs follows
leads_left L M follows xs b =
    leads_behind (either L M) L follows [] xs (λ m s v z l. inl l)
    (λ m s v z n l f. elim l [ inl x ↦ x | inr y ↦ absurd (b.bars m s v z (take_one s xs n) y f) ])

pub leads_right : {T V : Type 0} (L M : Lang T V) (follows : Option T → Bool) (xs : List T) → Bars L follows 1 xs →
    Leads (either L M) xs M xs follows
leads_right L M follows xs b =
    leads_behind (either L M) M follows [] xs (λ m s v z l. inr l)
    (λ m s v z n l f. elim l [ inl x ↦ absurd (b.bars m s v z (take_one s xs n) x f) | inr y ↦ y ])

-- a choice by k tokens, where the answer's place is no further in front than they are
pub reads_left_by : {T V : Type 0} (k : ℕ) (L M : Lang T V) (follows : Option T → Bool) (xs : List T)
    (o : Seen T V) → Bars M follows k xs → Far k xs o → Reads L follows xs o → Reads (either L M) follows xs o
reads_left_by k L M follows xs o b far r =
    reads_behind (either L M) L follows k [] xs (λ m s v z l. inl l)
    (λ m s v z n l f. elim l [ inl x ↦ x | inr y ↦ absurd (b.bars m s v z n y f) ]) o far r

pub reads_right_by : {T V : Type 0} (k : ℕ) (L M : Lang T V) (follows : Option T → Bool) (xs : List T)
    (o : Seen T V) → Bars L follows k xs → Far k xs o → Reads M follows xs o → Reads (either L M) follows xs o
reads_right_by k L M follows xs o b far r =
    reads_behind (either L M) M follows k [] xs (λ m s v z l. inr l)
    (λ m s v z n l f. elim l [ inl x ↦ absurd (b.bars m s v z n x f) | inr y ↦ y ]) o far r

-- the same, where one side has read the tokens p
pub leads_left_by : {T V : Type 0} (L M N : Lang T V) (follows : Option T → Bool) (p xs ys : List T) → xs ≡ p ++ ys →
    Bars M follows (suc (length p)) xs → Leads L xs N ys follows → Leads (either L M) xs N ys follows
leads_left_by L M N follows p xs ys e b l = record {
  to = λ o r. reads_left_by (suc (length p)) L M follows xs o b (far_behind N follows p xs ys o e r) (l.to o r);
}

pub leads_right_by : {T V : Type 0} (L M N : Lang T V) (follows : Option T → Bool) (p xs ys : List T) → xs ≡ p ++ ys →
    Bars L follows (suc (length p)) xs → Leads M xs N ys follows → Leads (either L M) xs N ys follows
leads_right_by L M N follows p xs ys e b l = record {
  to = λ o r. reads_right_by (suc (length p)) L M follows xs o b (far_behind N follows p xs ys o e r) (l.to o r);
}

-- one more step, where the next token may not stand behind the whole
pub leads_more : {T V : Type 0} (step : V → Lang T V) (acc : V) (follows : Option T → Bool) (xs : List T) →
    follows (next xs) ≡ false → Leads (more step acc) xs (bind (step acc) (more step)) xs follows
leads_more {T} {V} step acc follows xs h =
    leads_behind (more step acc) (bind (step acc) (more step)) follows [] xs (λ m s v z l. (suc l.3.0, (l.0, l.1, l.2, l.3.1))) out
  where
    go : (m : Limit → ℕ) (s : List T) (v : V) (z : List T) (n : ℕ) → next s ≡ next xs → times step n acc m s v z →
        follows (next z) ≡ true → bind (step acc) (more step) m s v z
    go m s v z zero e l f = absurd (both_ways (follows (next xs)) h (subst (λ o. follows o ≡ true) (ap next l.1 ∙ e) f))
    go m s v z (suc n) e l f = (l.0, l.1, l.2, (n, l.3))

    out : (m : Limit → ℕ) (s : List T) (v : V) (z : List T) → next s ≡ next xs → more step acc m s v z →
        follows (next z) ≡ true → bind (step acc) (more step) m s v z
    out m s v z e l f = go m s v z l.0 e l.1 f

-- no more step
pub leads_no_more : {T V : Type 0} (step : V → Lang T V) (acc : V) (behind follows : Option T → Bool)
    (xs : List T) → Bars (step acc) behind 1 xs → ((u : V) → Starts behind (more step u) follows) →
    Leads (more step acc) xs (gives acc) xs follows
leads_no_more {T} {V} step acc behind follows xs b st =
    leads_behind (more step acc) (gives acc) follows [] xs (λ m s v z l. (zero, l)) out
  where
    go : (m : Limit → ℕ) (s : List T) (v : V) (z : List T) (n : ℕ) → next s ≡ next xs → times step n acc m s v z →
        follows (next z) ≡ true → gives acc m s v z
    go m s v z zero e l f = l
    go m s v z (suc n) e l f = absurd (b.bars m s l.0 l.1 (take_one s xs e) l.2 ((st l.0).starts m l.1 v z (n, l.3) f))

    out : (m : Limit → ℕ) (s : List T) (v : V) (z : List T) → next s ≡ next xs → more step acc m s v z →
        follows (next z) ≡ true → gives acc m s v z
    out m s v z e l f = go m s v z l.0 e l.1 f

-- parts in a row, bracketed otherwise
pub leads_assoc : {T X Y V : Type 0} (L : Lang T X) (M : X → Lang T Y) (N : Y → Lang T V)
    (follows : Option T → Bool) (xs : List T) → Leads (bind (bind L M) N) xs (bind L (λ x. bind (M x) N)) xs follows
leads_assoc L M N follows xs =
    leads_same (bind (bind L M) N) (bind L (λ x. bind (M x) N)) follows xs
    (λ m s v z l. (l.3.0, l.3.1, (l.0, l.1, l.2, l.3.2), l.3.3))
    (λ m s v z l. (l.2.0, l.2.1, l.2.2, (l.0, l.1, l.2.3, l.3)))

-- behind a token, bracketed otherwise
pub leads_token_bind : {T X V : Type 0} (t : T) (L : Lang T X) (M : X → Lang T V) (follows : Option T → Bool)
    (xs : List T) → Leads (bind (token t L) M) xs (token t (bind L M)) xs follows
leads_token_bind t L M follows xs =
    leads_same (bind (token t L) M) (token t (bind L M)) follows xs
    (λ m s v z l. (l.2.0, l.2.1, (l.0, l.1, l.2.2), l.2.3))
    (λ m s v z l. (l.2.0, l.2.1, (l.0, l.1, l.2.2, l.3)))

-- a part of no token
pub leads_gives : {T X V : Type 0} (x : X) (M : X → Lang T V) (follows : Option T → Bool) (xs : List T) →
    Leads (bind (gives x) M) xs (M x) xs follows
leads_gives {T} {X} {V} x M follows xs =
    leads_same (bind (gives x) M) (M x) follows xs (λ m s v z l. (x, s, (refl, refl), l))
    (λ m s v z l. subst (λ y. M x m y v z) l.2.1 (subst (λ u. M u m l.1 v z) l.2.0 l.3))
