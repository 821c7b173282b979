-- Lists that are read by number.
use Rattle.std.proofs.Common.{◌≡◌, ◌≢◌, ◌++◌, ℕ, zero, suc, List, [], ◌∷◌, Option, Some, None, length, option_map, slice_get, slice_set, refl, ap, ◌∙◌, ◌⊎◌, inl, inr}
use Rattle.std.specs.Option.{option_map_or}
use Rattle.std.proofs.lemmas.Bool.{cases_eq}
use Rattle.pg_lists.specs.Numbered.{with_changed_nth_item, nth_item}
use Rattle.pg_xacts.proofs.Lists.{get_set, get_set_other}

-- two lists are the same where they have the same items
pub same_items : {X : Type 0} (xs ys : List X) → ((i : ℕ) → slice_get xs i ≡ slice_get ys i) → xs ≡ ys
same_items [] [] same = refl
same_items [] (y ∷ ys) same = absurd (cc (same 0))
same_items (x ∷ xs) [] same = absurd (cc (same 0))
same_items (x ∷ xs) (y ∷ ys) same =
    let first : x ≡ y = cc (same 0) in
    rw first (ap (λ zs. y ∷ zs) (same_items xs ys (λ i. same (suc i))))

-- an item that was changed
pub changed_here : {X : Type 0} (change : X → X) (xs : List X) (number : ℕ) →
    nth_item (with_changed_nth_item change xs number) number ≡ option_map change (nth_item xs number)
changed_here change xs zero = refl
changed_here {X = X} change xs (suc i) = at (slice_get xs i) refl
  where
    at : (o : Option X) → slice_get xs i ≡ o →
        slice_get (option_map_or (λ x. slice_set xs i (change x)) o xs) i ≡ option_map change o
    at None is = is
    at (Some x) is = get_set xs i x (change x) is

-- and the others
pub changed_other : {X : Type 0} (change : X → X) (xs : List X) (number other : ℕ) → other ≢ number →
    nth_item (with_changed_nth_item change xs number) other ≡ nth_item xs other
changed_other change xs number zero apart = refl
changed_other change xs zero (suc j) apart = refl
changed_other {X = X} change xs (suc i) (suc j) apart = at (slice_get xs i)
  where
    at : (o : Option X) → slice_get (option_map_or (λ x. slice_set xs i (change x)) o xs) j ≡ slice_get xs j
    at None = refl
    at (Some x) = get_set_other xs i j (change x) (λ e. apart (ap suc e))

-- what is read alike of an item and of the changed one is read alike of the lists
pub read_kept : {X Y : Type 0} (read : Option X → Y) (change : X → X) (xs : List X) (number other : ℕ) →
    ((o : Option X) → read (option_map change o) ≡ read o) →
    read (nth_item (with_changed_nth_item change xs number) other) ≡ read (nth_item xs other)
read_kept {Y = Y} read change xs number other same = at (cases_eq other number)
  where
    at : (other ≡ number) ⊎ (other ≡ number → ⊥) →
        read (nth_item (with_changed_nth_item change xs number) other) ≡ read (nth_item xs other)
    at (inl e) = rw e (ap read (changed_here change xs number) ∙ same (nth_item xs number))
    at (inr apart) = ap read (changed_other change xs number other apart)

-- an item that stands in a list stands there with more behind it
pub get_before : {X : Type 0} (xs ys : List X) (i : ℕ) (x : X) → slice_get xs i ≡ Some x →
    slice_get (xs ++ ys) i ≡ Some x
get_before [] ys i x is = absurd (cc is)
get_before (z ∷ zs) ys zero x is = is
get_before (z ∷ zs) ys (suc i) x is = get_before zs ys i x is

-- the item behind a list
pub get_behind : {X : Type 0} (xs : List X) (x : X) → slice_get (xs ++ x ∷ []) (length xs) ≡ Some x
get_behind [] x = refl
get_behind (y ∷ ys) x = get_behind ys x
