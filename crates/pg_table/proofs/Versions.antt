-- The current version of a row, by its number.
use Rattle.std.proofs.Common.{◌≡◌, ◌<◌, ◌≤◌, ◌⊎◌, ℕ, zero, suc, true, false, List, Option, Some, None, is_some, length, if◌then◌else◌, option_map, option_and_then, refl, ap, sym, ◌∙◌, arith, inl, inr}
use Rattle.std.proofs.lemmas.Bool.{cases_lt}
use Rattle.std.proofs.lemmas.Option.{slice_get_past}
use Rattle.pg_xacts.specs.Transactions.{Transactions}
use Rattle.pg_values.specs.declared.value.Value.{Value}
use Rattle.pg_heap.specs.Current.{current}
use Rattle.pg_heap.specs.Rows.{values_of}
use Rattle.pg_heap.specs.declared.version.Version.{Version}
use Rattle.pg_rows.specs.Stores.{HasValues, Stored, current_number, is_current_for, last_accepted, row_in, version_of, with_values}
use Rattle.pg_rows.proofs.Read.{read_accepted}
use Rattle.pg_world.specs.Changes.{row_at}
use Rattle.pg_table.specs.Holds.{current_there, unless_gone}
use Rattle.pg_table.specs.States.{TableState, table_shown}
use Rattle.pg_table.proofs.Holding.{row_at_is}

-- a number of a version with values, and the version
there_read : (versions : List Stored) (o : Option ℕ) →
    option_and_then (version_of versions) (with_values versions o) ≡ unless_gone (option_and_then (version_of versions) o)
there_read versions None = refl
there_read versions (Some number) = at (version_of versions number) refl
  where
    by : (version : Version) (values : Option (List Value)) → version.values ≡ values → version_of versions number ≡ Some version →
        option_and_then (version_of versions) (if is_some (values_of (version_of versions number)) then Some number else None)
        ≡ option_map (λ values. version) values
    by version None none is =
        ap (λ o. option_and_then (version_of versions) (if is_some o then Some number else None)) (ap values_of is ∙ none)
    by version (Some values) some is =
        ap (λ o. option_and_then (version_of versions) (if is_some o then Some number else None)) (ap values_of is ∙ some) ∙ is

    at : (o : Option Version) → version_of versions number ≡ o →
        option_and_then (version_of versions) (with_values versions (Some number)) ≡ unless_gone o
    at None is = rw is refl
    at (Some version) is = by version version.values refl is

-- the version of the number that is current
current_read : (state : TableState) (transactions : Transactions) (xact row : ℕ) → 0 < row → row ≤ state.store.drawn →
    option_and_then (version_of state.store.versions) (current_number transactions xact state.store.versions row)
    ≡ current_there transactions xact (row_at (table_shown state) row)
current_read state transactions xact row first within =
    there_read state.store.versions (last_accepted (is_current_for transactions xact) state.store.versions row)
    ∙ ap unless_gone (read_accepted (is_current_for transactions xact) state.store.versions row)
    ∙ sym (ap (current_there transactions xact) (row_at_is state row first within))

module _ (state : TableState) (transactions : Transactions) (xact row : ℕ) (first : 0 < row) (within : row ≤ state.store.drawn) where
  pub current_found : (number : ℕ) (version : Version) → Some number ≡ current_number transactions xact state.store.versions row →
      version_of state.store.versions number ≡ Some version →
      Some version ≡ current_there transactions xact (row_at (table_shown state) row)
  current_found number version is there =
      sym there ∙ (ap (λ o. option_and_then (version_of state.store.versions) o) is ∙ current_read state transactions xact row first within)

  pub current_gone : None ≡ current_number transactions xact state.store.versions row →
      None ≡ current_there transactions xact (row_at (table_shown state) row)
  current_gone is = ap (λ o. option_and_then (version_of state.store.versions) o) is ∙ current_read state transactions xact row first within

-- a version with values was drawn
pub drawn_with_values : (versions : List Stored) (number : ℕ) → HasValues versions number → (0 < number) × (number ≤ length versions)
drawn_with_values versions zero has = absurd (cc has)
drawn_with_values versions (suc before) has = (omega arith, within (cases_lt before (length versions)))
  where
    within : (before < length versions) ⊎ (length versions ≤ before) → suc before ≤ length versions
    within (inl lt) = omega (arith, lt)
    within (inr past) = absurd (let e : false ≡ true = rw (slice_get_past versions before past) at has in cc e)
