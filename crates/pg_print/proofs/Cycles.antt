-- Cycles of sessions, told apart by their texts.
use Rattle.std.proofs.Common.{◌≡◌, refl, sym, ◌∙◌, ap, ap₂, ℕ, true, List, [], ◌∷◌, ◌++◌, append_assoc, append-nil, codes}
use Rattle.std.specs.List.{list_all}
use Rattle.std.proofs.lemmas.List.{append_cancel_left}
use Rattle.pg_names.specs.Names.{is_name, is_name_byte}
use Rattle.pg_model.specs.Errors.{cycle_text, deadlock_text, wait_text}
use Rattle.pg_print.proofs.Fronts.{fronts, left_holds, right_holds}

nil_cons : {X : Type 0} {x : X} {xs : List X} → [] ≡ x ∷ xs → ⊥
nil_cons e = absurd (cc)

-- a wait is not without text
no_wait : (x s : List ℕ) → [] ≡ x ++ 32 ∷ s → ⊥
no_wait [] s e = nil_cons e
no_wait (b ∷ x) s e = nil_cons e

-- a wait
wait_split : (x other : List ℕ) → wait_text x other ≡ x ++ 32 ∷ (codes "waits for " ++ other)
wait_split x other = append_assoc x (codes " waits for ") other

-- and what stands behind it
wait_before : (x other rest : List ℕ) → wait_text x other ++ rest ≡ x ++ 32 ∷ (codes "waits for " ++ (other ++ rest))
wait_before x other rest =
    ap (λ text. text ++ rest) (wait_split x other)
    ∙ append_assoc x (32 ∷ (codes "waits for " ++ other)) rest

-- the first of several waits
waits_split : (x other rest : List ℕ) →
    wait_text x other ++ codes ", " ++ rest ≡ x ++ 32 ∷ (codes "waits for " ++ (other ++ 44 ∷ 32 ∷ rest))
waits_split x other rest =
    append_assoc (wait_text x other) (codes ", ") rest ∙ wait_before x other (44 ∷ 32 ∷ rest)

-- names with a wait behind them
wait_front : (x y s t : List ℕ) → is_name x ≡ true → is_name y ≡ true →
    x ++ 32 ∷ (codes "waits for " ++ s) ≡ y ++ 32 ∷ (codes "waits for " ++ t) → (x ≡ y) × (s ≡ t)
wait_front x y s t xn yn e =
    let ended = fronts is_name_byte x y (32 ∷ (codes "waits for " ++ s)) (32 ∷ (codes "waits for " ++ t)) xn yn refl refl e in
    (ended.0, append_cancel_left (codes " waits for ") s t ended.1)

-- a name has no comma
no_comma : (x y s : List ℕ) → is_name x ≡ true → is_name y ≡ true → x ≡ y ++ 44 ∷ s → ⊥
no_comma x y s xn yn e = nil_cons ((fronts is_name_byte x y [] (44 ∷ s) xn yn tt refl (append-nil x ∙ e)).1)

last_same : (f g x y : List ℕ) → is_name x ≡ true → is_name y ≡ true → wait_text x f ≡ wait_text y g → x ≡ y
last_same f g x y xn yn e = (wait_front x y f g xn yn (sym (wait_split x f) ∙ e ∙ wait_split y g)).0

last_differs : (f x y z s : List ℕ) → is_name f ≡ true → is_name x ≡ true → is_name y ≡ true → is_name z ≡ true →
    wait_text x f ≡ wait_text y z ++ codes ", " ++ s → ⊥
last_differs f x y z s fn xn yn zn e =
    no_comma f z (32 ∷ s) fn zn
    (wait_front x y f (z ++ 44 ∷ 32 ∷ s) xn yn (sym (wait_split x f) ∙ e ∙ waits_split y z s)).1

next_same : (x y p q s t : List ℕ) → is_name x ≡ true → is_name y ≡ true → is_name p ≡ true → is_name q ≡ true →
    wait_text x p ++ codes ", " ++ s ≡ wait_text y q ++ codes ", " ++ t → (x ≡ y) × (s ≡ t)
next_same x y p q s t xn yn pn qn e =
    let ended = wait_front x y (p ++ 44 ∷ 32 ∷ s) (q ++ 44 ∷ 32 ∷ t) xn yn
    (sym (waits_split x p s) ∙ e ∙ waits_split y q t) in
    let behind = fronts is_name_byte p q (44 ∷ 32 ∷ s) (44 ∷ 32 ∷ t) pn qn refl refl ended.1 in
    (ended.0, append_cancel_left (codes ", ") s t behind.1)

-- names that are each said to wait for the next
cycle_same : (f g : List ℕ) (xs ys : List (List ℕ)) → is_name f ≡ true → is_name g ≡ true →
    list_all is_name xs ≡ true → list_all is_name ys ≡ true → cycle_text f xs ≡ cycle_text g ys → xs ≡ ys
cycle_same f g [] [] fn gn nx ny e = refl
cycle_same f g [] (y ∷ []) fn gn nx ny e = absurd (no_wait y _ (e ∙ wait_split y g))
cycle_same f g [] (y ∷ z ∷ ys) fn gn nx ny e =
    absurd (no_wait y _ (e ∙ waits_split y z (cycle_text g (z ∷ ys))))
cycle_same f g (x ∷ []) [] fn gn nx ny e = absurd (no_wait x _ (sym e ∙ wait_split x f))
cycle_same f g (x ∷ z ∷ xs) [] fn gn nx ny e =
    absurd (no_wait x _ (sym e ∙ waits_split x z (cycle_text f (z ∷ xs))))
cycle_same f g (x ∷ []) (y ∷ []) fn gn nx ny e =
    ap (λ z. z ∷ []) (last_same f g x y (left_holds (is_name x) true nx) (left_holds (is_name y) true ny) e)
cycle_same f g (x ∷ []) (y ∷ z ∷ ys) fn gn nx ny e =
    absurd (last_differs f x y z (cycle_text g (z ∷ ys)) fn (left_holds (is_name x) true nx)
    (left_holds (is_name y) (list_all is_name (z ∷ ys)) ny)
    (left_holds (is_name z) (list_all is_name ys) (right_holds (is_name y) (list_all is_name (z ∷ ys)) ny)) e)
cycle_same f g (x ∷ z ∷ xs) (y ∷ []) fn gn nx ny e =
    absurd (last_differs g y x z (cycle_text f (z ∷ xs)) gn (left_holds (is_name y) true ny)
    (left_holds (is_name x) (list_all is_name (z ∷ xs)) nx)
    (left_holds (is_name z) (list_all is_name xs) (right_holds (is_name x) (list_all is_name (z ∷ xs)) nx)) (sym e))
cycle_same f g (x ∷ p ∷ xs) (y ∷ q ∷ ys) fn gn nx ny e =
    let px = right_holds (is_name x) (list_all is_name (p ∷ xs)) nx in
    let qy = right_holds (is_name y) (list_all is_name (q ∷ ys)) ny in
    let first = next_same x y p q (cycle_text f (p ∷ xs)) (cycle_text g (q ∷ ys))
    (left_holds (is_name x) (list_all is_name (p ∷ xs)) nx) (left_holds (is_name y) (list_all is_name (q ∷ ys)) ny)
    (left_holds (is_name p) (list_all is_name xs) px) (left_holds (is_name q) (list_all is_name ys) qy) e in
    ap₂ (λ z zs. z ∷ zs) first.0 (cycle_same f g (p ∷ xs) (q ∷ ys) fn gn px qy first.1)

-- cycles with one text
pub deadlock_same : (xs ys : List (List ℕ)) → list_all is_name xs ≡ true → list_all is_name ys ≡ true →
    deadlock_text xs ≡ deadlock_text ys → xs ≡ ys
deadlock_same [] [] nx ny e = refl
deadlock_same [] (y ∷ ys) nx ny e =
    let first = left_holds (is_name y) (list_all is_name ys) ny in cycle_same y y [] (y ∷ ys) first first nx ny e
deadlock_same (x ∷ xs) [] nx ny e =
    let first = left_holds (is_name x) (list_all is_name xs) nx in cycle_same x x (x ∷ xs) [] first first nx ny e
deadlock_same (x ∷ xs) (y ∷ ys) nx ny e =
    cycle_same x y (x ∷ xs) (y ∷ ys) (left_holds (is_name x) (list_all is_name xs) nx)
    (left_holds (is_name y) (list_all is_name ys) ny) nx ny e
