-- The version that a number of a store stands for is the one that the definitions name.
use Rattle.std.proofs.Common.{◌≡◌, ◌<◌, ◌≤◌, ◌++◌, ◌&&◌, ℕ, zero, suc, Bool, true, false, cond, List, [], ◌∷◌, Option, Some, None, length, map, filter, take, option_and_then, option_map, is_some, slice_get, refl, ap, sym, ◌∙◌, arith, append-nil}
use Rattle.std.specs.List.{last_or}
use Rattle.std.proofs.lemmas.List.{map-append}
use Rattle.pg_values.specs.declared.value.Value.{Value}
use Rattle.pg_heap.specs.declared.version.Version.{Version}
use Rattle.pg_heap.specs.Rows.{last_version, values_of}
use Rattle.pg_rows.specs.Stores.{Stored, is_version_of, last_accepted, last_number, passes, version_of, versions_of, with_values}

-- the last of a list is the item behind the others
last_behind : {X : Type 0} (o : Option X) (xs : List X) (x : X) → last_or o (xs ++ x ∷ []) ≡ Some x
last_behind o [] x = refl
last_behind o (y ∷ ys) x = last_behind (Some y) ys x

-- one more item of a front
take_more : {X : Type 0} (xs : List X) (i : ℕ) (x : X) → slice_get xs i ≡ Some x → take (suc i) xs ≡ take i xs ++ x ∷ []
take_more [] i x is = absurd (cc is)
take_more (y ∷ ys) zero x is = let e : y ≡ x = cc is in rw e refl
take_more (y ∷ ys) (suc i) x is = ap (λ zs. y ∷ zs) (take_more ys i x is)

within_some : {X : Type 0} (xs : List X) (i : ℕ) → i < length xs → (x : X) × (slice_get xs i ≡ Some x)
within_some [] i within = absurd (omega (arith, within))
within_some (x ∷ xs) zero within = (x, refl)
within_some (x ∷ xs) (suc i) within = within_some xs i (omega (arith, within))

-- the whole list as a front
take_whole : {X : Type 0} (xs : List X) → take (length xs) xs ≡ xs
take_whole [] = refl
take_whole (x ∷ xs) = ap (λ zs. x ∷ zs) (take_whole xs)

-- what passes of two lists behind one another
pub filter_append : {X : Type 0} (test : X → Bool) (xs ys : List X) → filter test (xs ++ ys) ≡ filter test xs ++ filter test ys
filter_append test [] ys = refl
filter_append test (x ∷ xs) ys = at (filter_append test xs ys) (test x)
  where
    at : filter test (xs ++ ys) ≡ filter test xs ++ filter test ys → (b : Bool) →
        cond b (x ∷ filter test (xs ++ ys)) (filter test (xs ++ ys)) ≡ cond b (x ∷ filter test xs) (filter test xs) ++ filter test ys
    at behind true = ap (λ zs. x ∷ zs) behind
    at behind false = behind

-- the versions that pass a test
abbrev passing : (Stored → Bool) → List Stored → List Version
passing test versions = map (λ stored. stored.version) (filter test versions)

-- the last number that passes is that of the last version that passes
read_front : (test : Stored → Bool) (versions : List Stored) (count : ℕ) → count ≤ length versions →
    option_and_then (version_of versions) (last_number (passes test versions) count)
    ≡ last_version (passing test (take count versions))
read_front test versions zero le = refl
read_front test versions (suc before) le =
    let found = within_some versions before (omega (arith, le)) in
    at found.0 found.1 (read_front test versions before (omega (arith, le))) (test found.0) refl
  where
    at : (stored : Stored) → slice_get versions before ≡ Some stored →
        option_and_then (version_of versions) (last_number (passes test versions) before) ≡ last_version (passing test (take before versions)) →
        (b : Bool) → test stored ≡ b →
        option_and_then (version_of versions) (last_number (passes test versions) (suc before))
        ≡ last_version (passing test (take (suc before) versions))
    at stored is behind true passed =
        rw (
          take_more versions before stored is,
          filter_append test (take before versions) (stored ∷ []),
          is,
          passed,
          map-append (λ s. s.version) (filter test (take before versions)) (stored ∷ []),
        )
        (ap (λ o. option_map (λ s. s.version) o) is ∙ sym (last_behind None (passing test (take before versions)) stored.version))
    at stored is behind false passed =
        rw (take_more versions before stored is, filter_append test (take before versions) (stored ∷ []), is, passed, append-nil (filter test (take before versions)))
        behind

pub read_last : (test : Stored → Bool) (versions : List Stored) →
    option_and_then (version_of versions) (last_number (passes test versions) (length versions)) ≡ last_version (passing test versions)
read_last test versions =
    read_front test versions (length versions) (omega arith) ∙ ap (λ front. last_version (passing test front)) (take_whole versions)

-- the versions of a row that are accepted
accepted_versions : (accepts : Version → Bool) (row : ℕ) (versions : List Stored) →
    passing (λ stored. is_version_of row stored && accepts stored.version) versions ≡ filter accepts (versions_of row versions)
accepted_versions accepts row [] = refl
accepted_versions accepts row (stored ∷ versions) =
    at (accepted_versions accepts row versions) (is_version_of row stored) (accepts stored.version) refl
  where
    at : passing (λ stored. is_version_of row stored && accepts stored.version) versions ≡ filter accepts (versions_of row versions) →
        (b a : Bool) → accepts stored.version ≡ a →
        map (λ s. s.version) (cond (b && accepts stored.version) (stored ∷ filter (λ stored. is_version_of row stored && accepts stored.version) versions) (filter (λ stored. is_version_of row stored && accepts stored.version) versions))
        ≡ filter accepts (map (λ s. s.version) (cond b (stored ∷ filter (is_version_of row) versions) (filter (is_version_of row) versions)))
    at behind true true is = rw is (ap (λ zs. stored.version ∷ zs) behind)
    at behind true false is = rw is behind
    at behind false a is = behind

pub read_accepted : (accepts : Version → Bool) (versions : List Stored) (row : ℕ) →
    option_and_then (version_of versions) (last_accepted accepts versions row) ≡ last_version (filter accepts (versions_of row versions))
read_accepted accepts versions row =
    read_last (λ stored. is_version_of row stored && accepts stored.version) versions
    ∙ ap last_version (accepted_versions accepts row versions)

-- the values of a version, where there are any
pub read_values : (versions : List Stored) (number : Option ℕ) →
    option_and_then (λ n. values_of (version_of versions n)) (with_values versions number)
    ≡ values_of (option_and_then (version_of versions) number)
read_values versions None = refl
read_values versions (Some number) = at (values_of (version_of versions number)) refl
  where
    at : (o : Option (List Value)) → values_of (version_of versions number) ≡ o →
        option_and_then (λ n. values_of (version_of versions n)) (cond (is_some (values_of (version_of versions number))) (Some number) None)
        ≡ values_of (version_of versions number)
    at None is = rw is refl
    at (Some values) is = rw is is
