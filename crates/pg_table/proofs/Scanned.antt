-- What is collected from the pieces of a table: each row that a statement sees once.
use Rattle.std.proofs.Common.{◌≡◌, ◌≢◌, ◌<◌, ◌≤◌, ◌+◌, ◌-◌, ◌++◌, ◌⊎◌, inl, inr, ◌&&◌, ℕ, zero, suc, Bool, true, false, cond, List, [], ◌∷◌, Option, Some, None, length, map, nat_eq, option_map, option_and_then, is_some, refl, ap, ap₂, sym, ◌∙◌, arith, append-nil, eq-eqb, ne_eqb, eqb-true}
use Rattle.std.specs.Prelude.{filter_map, flat_map}
use Rattle.std.specs.List.{cons_option}
use Rattle.std.specs.Option.{option_map_or}
use Rattle.std.proofs.lemmas.Bool.{and_parts, cases_eq}
use Rattle.std.proofs.lemmas.List.{map-append}
use Rattle.std.proofs.lemmas.List.Elements.{filter-append}
use Rattle.pg_values.specs.declared.value.Value.{Value}
use Rattle.pg_xacts.specs.declared.me.Me.{Me}
use Rattle.pg_xacts.specs.Transactions.{Transactions}
use Rattle.pg_heap.specs.declared.version.Version.{Version}
use Rattle.pg_heap.specs.Rows.{values_of}
use Rattle.pg_heap.specs.Seen.{is_seen, seen}
use Rattle.pg_rows.specs.declared.scan.SeenVersion.{SeenVersion}
use Rattle.pg_rows.specs.Stores.{Stored, is_settled, is_version_of, last_accepted, passes, row_in, rows_from, seen_number, stored_of, version_of, with_values}
use Rattle.pg_rows.specs.Scans.{is_number, numbers_from, seen_among, seen_at, seen_below, seen_stored}
use Rattle.pg_rows.proofs.Numbers.{last_passes}
use Rattle.pg_rows.proofs.Read.{read_accepted}
use Rattle.pg_rows.proofs.Shown.{among_more}
use Rattle.pg_world.specs.declared.candidate.SeenRow.{SeenRow}
use Rattle.pg_world.specs.Candidates.{seen_row, seen_row_with, seen_rows}
use Rattle.pg_table.specs.States.{TableState, table_shown}
use Rattle.pg_table.specs.Scanned.{in_row_order, of_row, seen_row_of}

-- the version of a row that a test accepts last was drawn, and is one of the row
pub record IsLastOf (versions : List Stored) (row number : ℕ) : Type 0 where
  pub stored : Stored
  pub is : stored_of versions number ≡ Some stored
  pub row_is : stored.row ≡ row
  pub first : 0 < number
  pub within : number ≤ length versions

last_of : (accepts : Version → Bool) (versions : List Stored) (row number : ℕ) → last_accepted accepts versions row ≡ Some number → IsLastOf versions row number
last_of accepts versions row number is =
    let passed = last_passes (passes (λ stored. is_version_of row stored && accepts stored.version) versions) (length versions) number is in
    at (stored_of versions number) refl passed.0 passed.1.0 passed.1.1
  where
    at : (o : Option Stored) → stored_of versions number ≡ o → option_map_or (λ stored. is_version_of row stored && accepts stored.version) o false ≡ true →
        0 < number → number ≤ length versions → IsLastOf versions row number
    at None there passed first within = absurd (cc passed)
    at (Some stored) there passed first within =
        let parts = and_parts (is_version_of row stored) (accepts stored.version) passed in
        record {
          stored = stored;
          is = there;
          row_is = eqb-true stored.row row (and_parts (is_settled stored.state) (nat_eq stored.row row) parts.0).1;
          first = first;
          within = within;
        }

-- those of one row are found behind one another
of_row_append : (row : ℕ) (xs ys : List SeenVersion) → of_row row (map seen_row_of (xs ++ ys)) ≡ of_row row (map seen_row_of xs) ++ of_row row (map seen_row_of ys)
of_row_append row xs ys =
    ap (of_row row) (map-append seen_row_of xs ys) ∙ filter-append (λ one. nat_eq one.row row) (map seen_row_of xs) (map seen_row_of ys)

module _ (transactions : Transactions) (commits : ℕ) (me : Me) (versions : List Stored) (row : ℕ) where
  -- what one number gives of the row
  abbrev at_number : ℕ → List SeenRow
  at_number number = of_row row (map seen_row_of (cons_option (seen_at transactions commits me versions number) []))

  -- what so many numbers give of it
  abbrev in_front : ℕ → List SeenRow
  in_front count = of_row row (map seen_row_of (seen_among transactions commits me versions 1 count))

  one_more : (count : ℕ) → in_front (suc count) ≡ in_front count ++ at_number (1 + count)
  one_more count =
      ap (λ found. of_row row (map seen_row_of found)) (among_more transactions commits me versions 1 count)
      ∙ of_row_append row (seen_among transactions commits me versions 1 count) (cons_option (seen_at transactions commits me versions (1 + count)) [])

  -- another number than that of the version seen gives nothing
  nothing_at : (number : ℕ) → is_number (seen_number transactions commits me versions row) number ≡ false → at_number number ≡ []
  nothing_at number none = at (stored_of versions number)
    where
      other : (stored : Stored) → stored.row ≢ row → (b : Bool) →
          of_row row (map seen_row_of (cons_option (cond b (Some (record { row = stored.row; number = number; version = stored.version })) None) [])) ≡ []
      other stored apart false = refl
      other stored apart true = rw (ne_eqb stored.row row apart) refl

      by_row : (stored : Stored) → (stored.row ≡ row) ⊎ (stored.row ≡ row → ⊥) →
          of_row row (map seen_row_of (cons_option (seen_stored transactions commits me versions number stored) [])) ≡ []
      by_row stored (inl e) =
          ap (λ b. of_row row (map seen_row_of (cons_option (cond b (Some (record { row = stored.row; number = number; version = stored.version })) None) [])))
          (ap (λ r. is_number (seen_number transactions commits me versions r) number) e ∙ none)
      by_row stored (inr apart) = other stored apart (is_number (seen_number transactions commits me versions stored.row) number)

      at : (o : Option Stored) → of_row row (map seen_row_of (cons_option (option_and_then (seen_stored transactions commits me versions number) o) [])) ≡ []
      at None = refl
      at (Some stored) = by_row stored (cases_eq stored.row row)

  -- and where no version is seen, no number does
  nothing_in_front : ((number : ℕ) → is_number (seen_number transactions commits me versions row) number ≡ false) → (count : ℕ) → in_front count ≡ []
  nothing_in_front none zero = refl
  nothing_in_front none (suc count) =
      one_more count ∙ ap₂ (λ xs ys. xs ++ ys) (nothing_in_front none count) (nothing_at (1 + count) (none (1 + count)))

  -- the number of the version seen gives the row
  module _ (number : ℕ) (last : IsLastOf versions row number) (is : seen_number transactions commits me versions row ≡ Some number) where
    abbrev shown : SeenRow
    shown = record { row = row; version = last.stored.version }

    this_number : is_number (seen_number transactions commits me versions last.stored.row) number ≡ true
    this_number =
        ap (λ r. is_number (seen_number transactions commits me versions r) number) last.row_is
        ∙ (ap (λ o. is_number o number) is ∙ eq-eqb number number refl)

    something_at : at_number number ≡ shown ∷ []
    something_at =
        ap (λ o. of_row row (map seen_row_of (cons_option (option_and_then (seen_stored transactions commits me versions number) o) []))) last.is
        ∙ (ap (λ b. of_row row (map seen_row_of (cons_option (cond b (Some (record { row = last.stored.row; number = number; version = last.stored.version })) None) []))) this_number
        ∙ from last.stored.row last.row_is)
      where
        from : (r : ℕ) → r ≡ row → of_row row (record { row = r; version = last.stored.version } ∷ []) ≡ shown ∷ []
        from r e = rw (e, eq-eqb row row refl) refl

    other_number : (m : ℕ) → number ≢ m → is_number (seen_number transactions commits me versions row) m ≡ false
    other_number m apart = ap (λ o. is_number o m) is ∙ ne_eqb number m apart

    before_it : (count : ℕ) → count < number → in_front count ≡ []
    before_it zero lt = refl
    before_it (suc count) lt =
        one_more count
        ∙ ap₂ (λ xs ys. xs ++ ys) (before_it count (omega (arith, lt))) (nothing_at (1 + count) (other_number (1 + count) (λ e. omega (arith, e, lt))))

    from_it : (count : ℕ) → number ≤ count → in_front count ≡ shown ∷ []
    from_it zero le = let f = last.first in absurd (omega (arith, le, f))
    from_it (suc count) le = one_more count ∙ at (λ less. from_it count less) (cases_eq number (1 + count))
      where
        at : (number ≤ count → in_front count ≡ shown ∷ []) → (number ≡ 1 + count) ⊎ (number ≡ 1 + count → ⊥) → in_front count ++ at_number (1 + count) ≡ shown ∷ []
        at behind (inl e) = ap₂ (λ xs ys. xs ++ ys) (before_it count (omega (arith, e))) (ap at_number (sym e) ∙ something_at)
        at behind (inr apart) =
            ap₂ (λ xs ys. xs ++ ys) (behind (omega (arith, le, apart))) (nothing_at (1 + count) (other_number (1 + count) apart))
            ∙ append-nil (shown ∷ [])

  abbrev last_seen : Option ℕ
  last_seen = last_accepted (is_seen transactions commits me) versions row

  seen_is : (o : Option ℕ) → last_seen ≡ o → seen transactions commits me (row_in versions row) ≡ option_and_then (version_of versions) o
  seen_is o is = sym (read_accepted (is_seen transactions commits me) versions row) ∙ ap (λ n. option_and_then (version_of versions) n) is

  -- all numbers give of a row what is seen of it
  pub bucket_is : in_front (length versions) ≡ cons_option (seen_row transactions commits me (row_in versions row)) []
  bucket_is = at last_seen refl
    where
      rows_by : (v : Option Version) → seen transactions commits me (row_in versions row) ≡ v →
          seen_row transactions commits me (row_in versions row) ≡ seen_row_with row v (values_of v)
      rows_by v is = ap (λ o. seen_row_with row o (values_of o)) is

      by_values : (number : ℕ) → last_seen ≡ Some number → (last : IsLastOf versions row number) → (o : Option (List Value)) → last.stored.version.values ≡ o →
          in_front (length versions) ≡ cons_option (seen_row_with row (Some last.stored.version) o) []
      by_values number is last None values_are =
          nothing_in_front
          (λ m.
          ap (λ o. is_number o m)
          (ap (with_values versions) is
          ∙ ap (λ o. cond (is_some (values_of (option_map (λ s. s.version) o))) (Some number) None) last.is
          ∙ ap (λ o. cond (is_some o) (Some number) None) values_are))
          (length versions)
      by_values number is last (Some values) values_are =
          from_it number last
          (ap (with_values versions) is
          ∙ ap (λ o. cond (is_some (values_of (option_map (λ s. s.version) o))) (Some number) None) last.is
          ∙ ap (λ o. cond (is_some o) (Some number) None) values_are)
          (length versions) last.within

      at : (o : Option ℕ) → last_seen ≡ o → in_front (length versions) ≡ cons_option (seen_row transactions commits me (row_in versions row)) []
      at None is =
          nothing_in_front (λ m. ap (λ o. is_number (with_values versions o) m) is) (length versions)
          ∙ ap (λ o. cons_option o []) (sym (rows_by None (seen_is None is)))
      at (Some number) is =
          let last = last_of (is_seen transactions commits me) versions row number is in
          let version_is = seen_is (Some number) is ∙ ap (λ o. option_map (λ s. s.version) o) last.is in
          by_values number is last last.stored.version.values refl
          ∙ ap (λ o. cons_option o []) (sym (rows_by (Some last.stored.version) version_is))

cons_append : {X : Type 0} (o : Option X) (xs : List X) → cons_option o [] ++ xs ≡ cons_option o xs
cons_append None xs = refl
cons_append (Some x) xs = refl

-- so in order of row number they are the rows that are seen
module _ (transactions : Transactions) (commits : ℕ) (me : Me) (versions : List Stored) where
  abbrev all : List SeenRow
  all = map seen_row_of (seen_among transactions commits me versions 1 (length versions))

  ordered : (first count : ℕ) → flat_map (λ row. of_row row all) (numbers_from first count)
      ≡ filter_map (seen_row transactions commits me) (rows_from first count versions)
  ordered first zero = refl
  ordered first (suc count) =
      ap₂ (λ xs ys. xs ++ ys) (bucket_is transactions commits me versions first) (ordered (first + 1) count)
      ∙ cons_append (seen_row transactions commits me (row_in versions first)) (filter_map (seen_row transactions commits me) (rows_from (first + 1) count versions))

pub scanned_is : (transactions : Transactions) (commits : ℕ) (me : Me) (state : TableState) →
    in_row_order state.store.drawn (map seen_row_of (seen_below transactions commits me state.store.versions (length state.store.versions + 1)))
    ≡ seen_rows transactions commits me (table_shown state)
scanned_is transactions commits me state =
    ap (λ count. in_row_order state.store.drawn (map seen_row_of (seen_among transactions commits me state.store.versions 1 count))) (one_less (length state.store.versions))
    ∙ ordered transactions commits me state.store.versions 1 state.store.drawn
  where
    one_less : (n : ℕ) → n + 1 - 1 ≡ n
    one_less n = omega arith
