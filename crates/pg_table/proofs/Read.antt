-- A table is read row by row.
use Rattle.std.proofs.Common.{◌≡◌, ◌+◌, ◌++◌, ℕ, List, [], ◌∷◌, Option, Some, None, option_and_then, ap, sym, ◌∙◌, arith, add-one}
use Rattle.std.specs.Prelude.{filter_map}
use Rattle.std.proofs.lemmas.List.Elements.{filter_map-append}
use Rattle.pg_values.specs.declared.value.Value.{Value}
use Rattle.pg_xacts.specs.Transactions.{Transactions}
use Rattle.pg_heap.specs.Current.{is_live, live_values}
use Rattle.pg_heap.specs.Rows.{values_of}
use Rattle.pg_heap.specs.declared.row.Row.{Row}
use Rattle.pg_rows.specs.Scans.{found_items}
use Rattle.pg_rows.specs.Stores.{Stored, last_accepted, live_number, row_in, rows_from, version_of}
use Rattle.pg_rows.proofs.Read.{read_accepted, read_values}
use Rattle.pg_rows.proofs.Rows.{rows_behind}

-- what one row more adds
read_more : {X : Type 0} (read : Row → Option X) (versions : List Stored) (count : ℕ) →
    filter_map read (rows_from 1 count versions) ++ found_items (read (row_in versions (count + 1)))
    ≡ filter_map read (rows_from 1 (count + 1) versions)
read_more read versions count =
    ap (λ row. filter_map read (rows_from 1 count versions) ++ filter_map read (row ∷ [])) (ap (row_in versions) one_first)
    ∙ (sym (filter_map-append read (rows_from 1 count versions) (row_in versions (1 + count) ∷ []))
    ∙ (ap (filter_map read) (sym (rows_behind 1 count versions))
    ∙ ap (λ n. filter_map read (rows_from 1 n versions)) (sym (add-one count))))
  where
    one_first : count + 1 ≡ 1 + count
    one_first = omega arith

pub read_next : {X : Type 0} (read : Row → Option X) (versions : List Stored) (count : ℕ) (before after : List X) (found : Option X) →
    before ≡ filter_map read (rows_from 1 count versions) → found ≡ read (row_in versions (count + 1)) → after ≡ before ++ found_items found →
    after ≡ filter_map read (rows_from 1 (count + 1) versions)
read_next read versions count before after found before_is found_is after_is =
    after_is ∙ (ap (λ xs. xs ++ found_items found) before_is
    ∙ (ap (λ o. filter_map read (rows_from 1 count versions) ++ found_items o) found_is ∙ read_more read versions count))

module _ (transactions : Transactions) (versions : List Stored) (row : ℕ) where
  -- what is live of a row
  live_is : live_values transactions [] (row_in versions row)
      ≡ option_and_then (λ n. values_of (version_of versions n)) (live_number transactions versions row)
  live_is =
      sym (read_values versions (last_accepted (is_live transactions []) versions row)
      ∙ ap values_of (read_accepted (is_live transactions []) versions row))

  pub live_none : None ≡ live_number transactions versions row → None ≡ live_values transactions [] (row_in versions row)
  live_none is = sym (live_is ∙ ap (λ o. option_and_then (λ n. values_of (version_of versions n)) o) (sym is))

  pub live_some : (number : ℕ) (values found : List Value) → Some number ≡ live_number transactions versions row →
      values_of (version_of versions number) ≡ Some values → found ≡ values → Some found ≡ live_values transactions [] (row_in versions row)
  live_some number values found is there same =
      ap Some same
      ∙ (sym there
      ∙ sym (live_is ∙ ap (λ o. option_and_then (λ n. values_of (version_of versions n)) o) (sym is)))
