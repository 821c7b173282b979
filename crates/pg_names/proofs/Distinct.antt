-- Names that all differ.
use Rattle.std.proofs.Common.{◌≡◌, refl, sym, ◌∙◌, ℕ, Bool, true, false, true≢false, not, ◌&&◌, ◌||◌, List, [], ◌∷◌, ◌++◌, ap, take, suc, zero, Some, None, slice_get}
use Rattle.std.proofs.lemmas.Bool.Decides.{not_from_Decides}
use Rattle.std.proofs.lemmas.Slice.Eq.{bytes_eq-Decides}
use Rattle.std.proofs.lemmas.List.Folds.{list_all-append, list_any-append}
use Rattle.std.specs.Bool.{Decides}
use Rattle.std.specs.List.{list_all}
use Rattle.std.specs.Str.{bytes_eq}
use Rattle.pg_names.specs.Names.{are_distinct, is_among, is_name}

apart_by : (x y : List ℕ) (a b : Bool) → Decides a (x ≡ y) → Decides b (y ≡ x) → b ≡ false → a ≡ false
apart_by x y false b one other differ = refl
apart_by x y true b one other differ = absurd (not_from_Decides b other differ (sym (one.0 refl)))

-- two names differ either way round
pub apart : (x y : List ℕ) → bytes_eq y x ≡ false → bytes_eq x y ≡ false
apart x y differ = apart_by x y (bytes_eq x y) (bytes_eq y x) (bytes_eq-Decides x y) (bytes_eq-Decides y x) differ

left_absent : (a b : Bool) → (a || b) ≡ false → a ≡ false
left_absent false b e = refl
left_absent true b e = e

right_absent : (a b : Bool) → (a || b) ≡ false → b ≡ false
right_absent false b e = e
right_absent true b e = absurd (true≢false e)

left_holds : (a b : Bool) → (a && b) ≡ true → a ≡ true
left_holds true b e = refl
left_holds false b e = e

right_holds : (a b : Bool) → (a && b) ≡ true → b ≡ true
right_holds true b e = e
right_holds false b e = absurd (true≢false (sym e))

not_holds : (a : Bool) → not a ≡ true → a ≡ false
not_holds false e = refl
not_holds true e = sym e

both : {a b : Bool} → a ≡ true → b ≡ true → (a && b) ≡ true
both {b = b} l r = ap (λ z. z && b) l ∙ r

neither : {a b : Bool} → a ≡ false → b ≡ false → (a || b) ≡ false
neither {b = b} l r = ap (λ z. z || b) l ∙ r

not_same : {a : Bool} → a ≡ false → not a ≡ true
not_same e = ap not e

none_some : {X : Type 0} {x : X} → None ≡ Some x → ⊥
none_some e = absurd (cc)

-- one name more that is not among the others
pub distinct_snoc : (names : List (List ℕ)) (name : List ℕ) → are_distinct names ≡ true → is_among names name ≡ false →
    are_distinct (names ++ name ∷ []) ≡ true
distinct_snoc [] name distinct absent = refl
distinct_snoc (x ∷ xs) name distinct absent =
    both (not_same (list_any-append (bytes_eq x) xs (name ∷ [])
    ∙ neither (not_holds (is_among xs x) (left_holds (not (is_among xs x)) (are_distinct xs) distinct))
    (neither (apart x name (left_absent (bytes_eq name x) (is_among xs name) absent)) refl)))
    (distinct_snoc xs name (right_holds (not (is_among xs x)) (are_distinct xs) distinct)
    (right_absent (bytes_eq name x) (is_among xs name) absent))

-- a name that stands in a list is among its names
among_at : (names : List (List ℕ)) (i : ℕ) (x name : List ℕ) → slice_get names i ≡ Some name →
    is_among names x ≡ false → bytes_eq x name ≡ false
among_at [] i x name is absent = absurd (none_some is)
among_at (y ∷ ys) zero x name is absent =
    let first = left_absent (bytes_eq x y) (is_among ys x) absent in
    let same : y ≡ name = cc in
    ap (λ z. bytes_eq x z) (sym same) ∙ first
among_at (y ∷ ys) (suc i) x name is absent = among_at ys i x name is (right_absent (bytes_eq x y) (is_among ys x) absent)

-- a name is not among those before it
pub absent_before : (names : List (List ℕ)) (i : ℕ) (name : List ℕ) → are_distinct names ≡ true →
    slice_get names i ≡ Some name → is_among (take i names) name ≡ false
absent_before [] i name distinct is = absurd (none_some is)
absent_before (x ∷ xs) zero name distinct is = refl
absent_before (x ∷ xs) (suc i) name distinct is =
    let others = not_holds (is_among xs x) (left_holds (not (is_among xs x)) (are_distinct xs) distinct) in
    neither (apart name x (among_at xs i x name is others))
    (absent_before xs i name (right_holds (not (is_among xs x)) (are_distinct xs) distinct) is)

-- the first items and the next one
pub take_more : {X : Type 0} (xs : List X) (i : ℕ) (x : X) → slice_get xs i ≡ Some x → take (suc i) xs ≡ take i xs ++ x ∷ []
take_more [] i x is = absurd (none_some is)
take_more (y ∷ ys) zero x is = let same : y ≡ x = cc in ap (λ z. z ∷ []) same
take_more (y ∷ ys) (suc i) x is = ap (λ zs. y ∷ zs) (take_more ys i x is)

-- what all items pass, each passes
pub all_at : {X : Type 0} (p : X → Bool) (xs : List X) (i : ℕ) (x : X) → list_all p xs ≡ true →
    slice_get xs i ≡ Some x → p x ≡ true
all_at p [] i x all is = absurd (none_some is)
all_at p (y ∷ ys) zero x all is = let same : y ≡ x = cc in ap p (sym same) ∙ left_holds (p y) (list_all p ys) all
all_at p (y ∷ ys) (suc i) x all is = all_at p ys i x (right_holds (p y) (list_all p ys) all) is

-- names, and one more
pub names_more : (names : List (List ℕ)) (name : List ℕ) →
    (list_all is_name names ≡ true) × (are_distinct names ≡ true) → is_name name ≡ true → is_among names name ≡ false →
    (list_all is_name (names ++ name ∷ []) ≡ true) × (are_distinct (names ++ name ∷ []) ≡ true)
names_more names name old is absent =
    (list_all-append is_name names (name ∷ []) ∙ both old.0 (both is refl), distinct_snoc names name old.1 absent)
