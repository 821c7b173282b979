-- The first items of a list, that grow until they are all.
use Rattle.std.proofs.Common.{◌≡◌, refl, sym, ◌∙◌, ℕ, zero, suc, true, false, List, [], ◌∷◌, ◌++◌, map, ap, length, take, Some, None, slice_get}
use Rattle.std.proofs.lemmas.Option.{slice_get-map}
use Rattle.std.specs.Option.{option_map}
use Rattle.pg_names.specs.Names.{are_distinct, is_among}
use Rattle.pg_names.proofs.Distinct.{absent_before, take_more}

length_more : {X : Type 0} (xs : List X) (x : X) → length (xs ++ x ∷ []) ≡ suc (length xs)
length_more [] x = refl
length_more (y ∷ ys) x = ap suc (length_more ys x)

-- the next item is put behind the first ones
pub front_more : {X : Type 0} (xs front more : List X) (x : X) → front ≡ take (length front) xs →
    slice_get xs (length front) ≡ Some x → more ≡ front ++ x ∷ [] → more ≡ take (length more) xs
front_more xs front more x is next grown =
    grown ∙ ap (λ zs. zs ++ x ∷ []) is ∙ sym (take_more xs (length front) x next)
    ∙ ap (λ n. take n xs) (sym (length_more front x) ∙ ap length (sym grown))

all_taken : {X : Type 0} (xs : List X) (n : ℕ) → slice_get xs n ≡ None → take n xs ≡ xs
all_taken [] zero past = refl
all_taken [] (suc n) past = refl
all_taken (x ∷ xs) zero past = absurd (let e : Some x ≡ None = past in cc)
all_taken (x ∷ xs) (suc n) past = ap (λ zs. x ∷ zs) (all_taken xs n past)

-- with no next item they are all
pub front_whole : {X : Type 0} (xs front : List X) → front ≡ take (length front) xs →
    slice_get xs (length front) ≡ None → front ≡ xs
front_whole xs front is past = is ∙ all_taken xs (length front) past

map_take : {X Y : Type 0} (f : X → Y) (n : ℕ) (xs : List X) → map f (take n xs) ≡ take n (map f xs)
map_take f zero xs = refl
map_take f (suc n) [] = refl
map_take f (suc n) (x ∷ xs) = ap (λ zs. f x ∷ zs) (map_take f n xs)

-- the next item's name is not among those of the first ones
pub absent_next : {X : Type 0} (f : X → List ℕ) (xs front : List X) (x : X) → are_distinct (map f xs) ≡ true →
    front ≡ take (length front) xs → slice_get xs (length front) ≡ Some x → is_among (map f front) (f x) ≡ false
absent_next f xs front x distinct is next =
    ap (λ zs. is_among (map f zs) (f x)) is ∙ ap (λ zs. is_among zs (f x)) (map_take f (length front) xs)
    ∙ absent_before (map f xs) (length front) (f x) distinct
    (slice_get-map f xs (length front) ∙ ap (option_map f) next)
