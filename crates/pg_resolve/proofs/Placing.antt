-- What is found by a name stands in its list.
use Rattle.std.proofs.Common.{◌≡◌, refl, sym, ap, ◌∙◌, subst, arith, ◌+◌, ◌<◌, ℕ, zero, suc, Bool, true, false, true≢false, cond, not, ◌||◌, nat_lt, List, [], ◌∷◌, length, map, slice_get, Option, Some, None, lt-ltb}
use Rattle.std.proofs.lemmas.List.Folds.{list_all-append}
use Rattle.std.specs.List.{list_all, position_or_len}
use Rattle.std.specs.Option.{option_and_then, option_map_or}
use Rattle.std.specs.Str.{bytes_eq}
use Rattle.pg_lists.specs.Numbered.{item_at}
use Rattle.pg_names.specs.Names.{is_among, number_of}
use Rattle.pg_model.specs.declared.catalogue.Column.{Column}
use Rattle.pg_model.specs.Kinds.{has_column, has_columns, kinds_of}
use Rattle.pg_resolve.specs.declared.scope.Known.{Known}
use Rattle.pg_resolve.specs.Resolved.{column_errors, column_in, first_place, name_errors, place_of, place_or_first, qualified_errors}
use Rattle.pg_resolve.specs.Scope.{column_names, place_in, places, places_from, scope_kinds, source_named}
use Rattle.pg_resolve.proofs.Holding.{both, cons_nil, left_holds, none_some, some_same}

below_if : (b : Bool) (k len n : ℕ) → nat_lt k len ≡ b → cond b (Some k) None ≡ Some n → nat_lt n len ≡ true
below_if true k len n below e = subst (λ (m : ℕ). nat_lt m len ≡ true) (some_same k n e) below
below_if false k len n below e = absurd (none_some e)

-- a number that is found is one of the list's
pub number_below : (names : List (List ℕ)) (name : List ℕ) (n : ℕ) → number_of names name ≡ Some n →
    nat_lt n (length names) ≡ true
number_below names name n e =
    below_if (nat_lt (position_or_len (bytes_eq name) names) (length names)) (position_or_len (bytes_eq name) names)
    (length names) n refl e

counted_if : (b rest : Bool) (k len : ℕ) → (b || rest) ≡ true → (rest ≡ true → k < len) →
    cond (not b) (1 + k) 0 < suc len
counted_if true rest k len some below = omega arith
counted_if false rest k len some below = let less : k < len = below some in omega arith

among_below : (names : List (List ℕ)) (name : List ℕ) → is_among names name ≡ true →
    position_or_len (bytes_eq name) names < length names
among_below [] name e = absurd (true≢false (sym e))
among_below (x ∷ xs) name e =
    counted_if (bytes_eq name x) (is_among xs name) (position_or_len (bytes_eq name) xs) (length xs) e (among_below xs name)

-- a name that is among others has a number
pub among_found : (names : List (List ℕ)) (name : List ℕ) → is_among names name ≡ true → number_of names name ≡ None → ⊥
among_found names name among none =
    none_some (sym none
    ∙ ap (λ (b : Bool). cond b (Some (position_or_len (bytes_eq name) names)) None)
    (lt-ltb (position_or_len (bytes_eq name) names) (length names) (among_below names name among)))

pub length_of_map : {X Y : Type 0} (f : X → Y) (xs : List X) → length (map f xs) ≡ length xs
length_of_map f [] = refl
length_of_map f (x ∷ xs) = ap suc (length_of_map f xs)

pub get_map : {X Y : Type 0} (f : X → Y) (xs : List X) (i : ℕ) (x : X) → slice_get xs i ≡ Some x →
    slice_get (map f xs) i ≡ Some (f x)
get_map f [] i x e = absurd (none_some e)
get_map f (y ∷ ys) zero x e = ap (λ z. Some (f z)) (some_same y x e)
get_map f (y ∷ ys) (suc i) x e = get_map f ys i x e

-- what is below the length is there
pub get_below : {X : Type 0} (xs : List X) (i : ℕ) → i < length xs → slice_get xs i ≡ None → ⊥
get_below [] i below e = absurd (omega arith)
get_below (x ∷ xs) zero below e = none_some (sym e)
get_below (x ∷ xs) (suc i) below e = let less : i < length xs = omega arith in get_below xs i less e

-- a column of a source that is known is one of its columns
pub has_known : (scope : List Known) (source number : ℕ) (known : Known) → item_at scope source ≡ Some known →
    nat_lt number (length known.columns) ≡ true → has_column (scope_kinds scope) source number ≡ true
has_known scope source number known is below =
    ap (λ kinds. option_map_or (λ columns. nat_lt number (length columns)) kinds false)
    (get_map (λ (k : Known). kinds_of k.columns) scope source known is)
    ∙ ap (λ (n : ℕ). nat_lt number n) (length_of_map (λ (column : Column). Some column.kind) known.columns) ∙ below

-- the number of a column by its name is below the number of columns
pub column_below : (columns : List Column) (name : List ℕ) (n : ℕ) → number_of (column_names columns) name ≡ Some n →
    nat_lt n (length columns) ≡ true
column_below columns name n is =
    ap (λ (m : ℕ). nat_lt n m) (sym (length_of_map (λ (column : Column). column.name) columns))
    ∙ number_below (column_names columns) name n is

-- the sources are those of the whole from the number n on
abbrev pub Follows : ℕ → List Known → List Known → Type 0
Follows n scope whole = (i : ℕ) (known : Known) → item_at scope i ≡ Some known → item_at whole (i + n) ≡ Some known

pub follows_all : (whole : List Known) → Follows 0 whole whole
follows_all whole i known is = let same : i + 0 ≡ i = omega arith in ap (λ (k : ℕ). item_at whole k) same ∙ is

pub follows_first : (n : ℕ) (known : Known) (scope whole : List Known) → Follows n (known ∷ scope) whole →
    item_at whole n ≡ Some known
follows_first n known scope whole follows =
    let same : n ≡ 0 + n = omega arith in ap (λ (k : ℕ). item_at whole k) same ∙ follows 0 known refl

pub follows_next : (n : ℕ) (known : Known) (scope whole : List Known) → Follows n (known ∷ scope) whole →
    Follows (suc n) scope whole
follows_next n known scope whole follows i other is =
    let same : i + suc n ≡ suc i + n = omega arith in
    ap (λ (k : ℕ). item_at whole k) same ∙ follows (suc i) other is

abbrev is_place : List Known → ℕ × ℕ → Bool
is_place whole place = has_column (scope_kinds whole) place.0 place.1

place_found : (whole : List Known) (n : ℕ) (known : Known) (name : List ℕ) (found : Option ℕ) →
    number_of (column_names known.columns) name ≡ found → item_at whole n ≡ Some known →
    list_all (is_place whole) (option_map_or (λ column. (n, column) ∷ []) found []) ≡ true
place_found whole n known name None found is = refl
place_found whole n known name (Some number) found is =
    both (has_column (scope_kinds whole) n number) true
    (has_known whole n number known is (column_below known.columns name number found)) refl

-- where a name stands there are columns
all_places : (name : List ℕ) (n : ℕ) (scope whole : List Known) → Follows n scope whole →
    list_all (is_place whole) (places_from n scope name) ≡ true
all_places name n [] whole follows = refl
all_places name n (known ∷ scope) whole follows =
    list_all-append (is_place whole) (place_in n known.columns name) (places_from (suc n) scope name)
    ∙ both (list_all (is_place whole) (place_in n known.columns name))
    (list_all (is_place whole) (places_from (suc n) scope name))
    (place_found whole n known name (number_of (column_names known.columns) name) refl
    (follows_first n known scope whole follows))
    (all_places name (suc n) scope whole (follows_next n known scope whole follows))

place_fits : (name : List ℕ) (found : List (ℕ × ℕ)) (whole : List Known) → list_all (is_place whole) found ≡ true →
    name_errors name found ≡ [] → has_columns (scope_kinds whole) (first_place found) ≡ true
place_fits name [] whole all none = absurd (cons_nil none)
place_fits name (place ∷ []) whole all none = left_holds (is_place whole place) true all
place_fits name (_ ∷ _ ∷ _) whole all none = absurd (cons_nil none)

-- a bare name without errors is a column of a source
pub name_fits : (name : List ℕ) (scope : List Known) → name_errors name (places scope name) ≡ [] →
    has_columns (scope_kinds scope) (first_place (places scope name)) ≡ true
name_fits name scope none =
    place_fits name (places scope name) scope (all_places name 0 scope scope (follows_all scope)) none

number_fits : (scope : List Known) (source : ℕ) (known : Known) (name : List ℕ) (found : Option ℕ) →
    item_at scope source ≡ Some known → number_of (column_names known.columns) name ≡ found →
    column_errors name found ≡ [] →
    has_columns (scope_kinds scope) (place_or_first (option_map_or (λ c. Some (source, c)) found None)) ≡ true
number_fits scope source known name None is found none = absurd (cons_nil none)
number_fits scope source known name (Some number) is found none =
    has_known scope source number known is (column_below known.columns name number found)

source_fits : (scope : List Known) (source : ℕ) (name : List ℕ) (found : Option Known) → item_at scope source ≡ found →
    column_errors name (option_and_then (λ (known : Known). number_of (column_names known.columns) name) found) ≡ [] →
    has_columns (scope_kinds scope) (place_or_first (option_map_or (λ c. Some (source, c))
    (option_and_then (λ (known : Known). number_of (column_names known.columns) name) found) None)) ≡ true
source_fits scope source name None is none = absurd (cons_nil none)
source_fits scope source name (Some known) is none =
    number_fits scope source known name (number_of (column_names known.columns) name) is refl none

qualified_found : (scope : List Known) (source name : List ℕ) (found : Option ℕ) →
    qualified_errors scope source name found ≡ [] →
    has_columns (scope_kinds scope)
    (place_or_first (option_and_then (λ s. option_map_or (λ c. Some (s, c)) (column_in scope s name) None) found)) ≡ true
qualified_found scope source name None none = absurd (cons_nil none)
qualified_found scope source name (Some s) none = source_fits scope s name (item_at scope s) refl none

-- and so is a name behind that of its source
pub qualified_fits : (scope : List Known) (source name : List ℕ) →
    qualified_errors scope source name (source_named scope source) ≡ [] →
    has_columns (scope_kinds scope) (place_or_first (place_of scope source name)) ≡ true
qualified_fits scope source name none = qualified_found scope source name (source_named scope source) none
