-- A run whose weight falls ends, and it takes one list of entries.
use Rattle.std.proofs.Common.{◌≡◌, ◌<◌, ◌⊎◌, ℕ, zero, suc, true, false, List, [], ◌∷◌, ◌++◌, length, Option, Some, None, refl, sym, ap, ◌∙◌, subst, inl, inr, arith}
use Rattle.std.proofs.Math.Nat.{suc_inj}
use Rattle.std.proofs.lemmas.Bool.{cases_Bool, cond-true, cond-false}
use Rattle.pg_ending.specs.Weight.{IsLess, is_less}
use Rattle.pg_ending.specs.Runs.{Falls, Takes, IsRunOf, RunsTo, if_lighter, lighter}
use Rattle.pg_ending.proofs.Less.{is_less_from, is_less_true}

-- P holds of a list of this length if it holds of all that are less
Climbs : (List ℕ → Type 0) → ℕ → Type 0
Climbs P n = (xs : List ℕ) → length xs ≡ n → ((ys : List ℕ) → IsLess ys xs → P ys) → P xs

-- what is less than x ∷ xs begins with a smaller number, or with x and is less behind it
less_cases : (P : List ℕ → Type 0) (x : ℕ) (xs ys : List ℕ) →
    ((y : ℕ) (zs : List ℕ) → y < x → length zs ≡ length xs → P (y ∷ zs)) →
    ((zs : List ℕ) → IsLess zs xs → P (x ∷ zs)) → IsLess ys (x ∷ xs) → P ys
less_cases P x xs [] lower behind h = absurd h
less_cases P x xs (y ∷ ys) lower behind (inl h) = lower y ys h.0 h.1
less_cases P x xs (y ∷ ys) lower behind (inr h) = subst (λ z. P (z ∷ ys)) (sym h.0) (behind ys h.1)

-- one number more in front, with each list that begins with a smaller number done
climb_front : (n : ℕ) (P : List ℕ → Type 0) → Climbs P (suc n) → (x : ℕ) →
    ((y : ℕ) → y < x → (ys : List ℕ) → length ys ≡ n → P (y ∷ ys)) → Climbs (λ xs. P (x ∷ xs)) n
unfolding Climbs
climb_front n P climbs x lower xs l behind =
    climbs (x ∷ xs) (ap suc l) (λ ys h. less_cases P x xs ys (λ y zs s m. lower y s zs (m ∙ l)) behind h)

-- the lists whose first number is below b
below_front : (n : ℕ) (P : List ℕ → Type 0) → Climbs P (suc n) →
    ((Q : List ℕ → Type 0) → Climbs Q n → (xs : List ℕ) → length xs ≡ n → Q xs) → (b x : ℕ) → x < b →
    (xs : List ℕ) → length xs ≡ n → P (x ∷ xs)
below_front n P climbs inner zero x h xs l = absurd (omega arith)
below_front n P climbs inner (suc b) x h xs l =
    inner (λ zs. P (x ∷ zs)) (climb_front n P climbs x (λ y s ys m. below_front n P climbs inner b y (omega (arith, s, h)) ys m)) xs l

-- induction over the lists of one length
by_front : (n : ℕ) (P : List ℕ → Type 0) → Climbs P n → (xs : List ℕ) → length xs ≡ n → P xs
unfolding Climbs
by_front zero P climbs [] l = climbs [] l (λ ys h. absurd (none ys h))
  where
    none : (ys : List ℕ) → IsLess ys [] → ⊥
    none [] h = h
    none (y ∷ ys) h = h
by_front zero P climbs (x ∷ xs) l = absurd (omega (arith, l))
by_front (suc n) P climbs [] l = absurd (omega (arith, l))
by_front (suc n) P climbs (x ∷ xs) l = below_front n P climbs (λ Q c ys m. by_front n Q c ys m) (suc x) x (omega arith) xs (suc_inj l)

module _ {S E : Type 0} (next : S → Option E) (after : S → E → S) where
  -- a run that takes m entries and one that takes n are one run
  pub takes_once : (m n : ℕ) (w : S) → Takes next after m w → Takes next after n w → m ≡ n
  takes_once zero zero w a b = refl
  takes_once zero (suc n) w a b = absurd (let e : None ≡ Some b.0 = sym a ∙ b.1 in cc)
  takes_once (suc m) zero w a b = absurd (let e : None ≡ Some a.0 = sym b ∙ a.1 in cc)
  takes_once (suc m) (suc n) w a b =
      let e : a.0 ≡ b.0 = let f : Some a.0 ≡ Some b.0 = sym a.1 ∙ b.1 in cc in
      ap suc (takes_once m n (after w b.0) (subst (λ x. Takes next after m (after w x)) e a.2) b.2)

  -- there is at most one list of the entries taken
  pub run_is_one : (w : S) (es fs : List E) → IsRunOf next after w es → IsRunOf next after w fs → es ≡ fs
  run_is_one w [] [] a b = refl
  run_is_one w [] (f ∷ fs) a b = absurd (let e : None ≡ Some f = sym a ∙ b.0 in cc)
  run_is_one w (e ∷ es) [] a b = absurd (let d : None ≡ Some e = sym b ∙ a.0 in cc)
  run_is_one w (e ∷ es) (f ∷ fs) a b =
      let d : e ≡ f = let c : Some e ≡ Some f = sym a.0 ∙ b.0 in cc in
      let rest : es ≡ fs = run_is_one (after w f) es fs (subst (λ x. IsRunOf next after (after w x) es) d a.1) b.1 in
      cc

  pub run_of_takes : (n : ℕ) (w : S) → Takes next after n w → (es : List E) × IsRunOf next after w es
  run_of_takes zero w t = ([], t)
  run_of_takes (suc n) w t = let r = run_of_takes n (after w t.0) t.2 in (t.0 ∷ r.0, (t.1, r.1))

  -- a front of the run, one entry longer
  pub runs_to_more : (w : S) (es : List E) (v : S) (e : E) → RunsTo next after w es v → next v ≡ Some e →
      RunsTo next after w (es ++ e ∷ []) (after v e)
  runs_to_more w [] v e r n = let s : v ≡ w = r in (subst (λ x. next x ≡ Some e) s n, ap (λ x. after x e) s)
  runs_to_more w (d ∷ es) v e r n = (r.0, runs_to_more (after w d) es v e r.1 n)

  -- a front is the whole where none is left
  pub runs_to_end : (w : S) (es : List E) (v : S) → RunsTo next after w es v → next v ≡ None →
      IsRunOf next after w es
  runs_to_end w [] v r n = subst (λ x. next x ≡ None) r n
  runs_to_end w (d ∷ es) v r n = (r.0, runs_to_end (after w d) es v r.1 n)

-- a run ends where its weight falls
pub ends : {S E : Type 0} (next : S → Option E) (after : S → E → S) (weight : S → List ℕ) →
    Falls next after weight → (w : S) → (k : ℕ) × Takes next after k w
unfolding Climbs
ends {S} {E} next after weight falls w = by_front (length (weight w)) Ends climbs (weight w) refl w refl
  where
    Ends : List ℕ → Type 0
    Ends xs = (v : S) → weight v ≡ xs → (k : ℕ) × Takes next after k v

    go : (v : S) (o : Option E) → next v ≡ o → ((ys : List ℕ) → IsLess ys (weight v) → Ends ys) →
        (k : ℕ) × Takes next after k v
    go v None n lower = (zero, n)
    go v (Some e) n lower = let r = lower (weight (after v e)) (falls v e n) (after v e) refl in (suc r.0, (e, n, r.1))

    climbs : Climbs Ends (length (weight w))
    climbs xs l lower v e = go v (next v) refl (λ ys h. lower ys (subst (λ zs. IsLess ys zs) e h))

-- so it has one list of entries
pub runs_once : {S E : Type 0} (next : S → Option E) (after : S → E → S) (weight : S → List ℕ) →
    Falls next after weight → (w : S) → (es : List E) × IsRunOf next after w es
runs_once next after weight falls w = let t = ends next after weight falls w in run_of_takes next after t.0 w t.1

module _ {S E : Type 0} (next : S → Option E) (after : S → E → S) (weight : S → List ℕ) where
  lighter_falls : Falls (lighter next after weight) after weight
  lighter_falls w e n = go (next w) n
    where
      go : (o : Option E) → if_lighter after weight w o ≡ Some e → IsLess (weight (after w e)) (weight w)
      go None n = absurd (let h : None ≡ Some e = n in cc)
      go (Some d) n = at (cases_Bool (is_less (weight (after w d)) (weight w)))
        where
          at : ((is_less (weight (after w d)) (weight w) ≡ true) ⊎ (is_less (weight (after w d)) (weight w) ≡ false)) →
              IsLess (weight (after w e)) (weight w)
          at (inl t) =
              let s : Some d ≡ Some e = sym (cond-true _ (Some d) None t) ∙ n in
              let f : d ≡ e = cc in
              is_less_true (weight (after w e)) (weight w) (subst (λ x. is_less (weight (after w x)) (weight w) ≡ true) f t)
          at (inr f) = absurd (let s : None ≡ Some e = sym (cond-false _ (Some d) None f) ∙ n in cc)

  lighter_is : (w : S) (e : E) → next w ≡ Some e → IsLess (weight (after w e)) (weight w) →
      lighter next after weight w ≡ Some e
  lighter_is w e n h = ap (λ o. if_lighter after weight w o) n ∙ cond-true _ (Some e) None (is_less_from (weight (after w e)) (weight w) h)

  -- how many entries are taken from w, as long as the weight falls: the measure of a loop that takes them
  pub steps_left : S → ℕ
  steps_left w = (ends (lighter next after weight) after weight lighter_falls w).0

  pub steps_less : (w : S) (e : E) → next w ≡ Some e → IsLess (weight (after w e)) (weight w) →
      steps_left w ≡ suc (steps_left (after w e))
  unfolding steps_left
  steps_less w e n h =
      takes_once (lighter next after weight) after (steps_left w) (suc (steps_left (after w e))) w
      (ends (lighter next after weight) after weight lighter_falls w).1
      (e, lighter_is w e n h, (ends (lighter next after weight) after weight lighter_falls (after w e)).1)

  -- what a loop's measure needs: v is the state that the loop's turn leaves
  pub steps_fall : (w v : S) (e : E) → v ≡ after w e → next w ≡ Some e → IsLess (weight (after w e)) (weight w) →
      steps_left v < steps_left w
  steps_fall w v e s n h = let t = steps_less w e n h in let u = ap steps_left s in omega arith
