-- A row that has a current version for a transaction is one of its table.
use Rattle.std.proofs.Common.{◌≡◌, ℕ, zero, suc, true, false, List, [], Option, Some, None, slice_get, refl, sym, ap, ◌∙◌}
use Rattle.std.specs.Prelude.{is_none, is_some, unwrap_or}
use Rattle.pg_values.specs.declared.value.Value.{Value}
use Rattle.pg_xacts.specs.Transactions.{Transactions}
use Rattle.pg_heap.specs.declared.row.Row.{Row}
use Rattle.pg_heap.specs.declared.version.Version.{Version}
use Rattle.pg_heap.specs.Current.{current, current_values}
use Rattle.pg_heap.specs.Rows.{row_of, values_of}
use Rattle.pg_world.specs.Changes.{row_at, table_at}
use Rattle.pg_world.specs.declared.table.TableView.{TableView}
use Rattle.pg_world.specs.Tables.{empty_table, locks_on}

-- a row of a table with a current version, which is there
pub record IsThere (tables : List TableView) (transactions : Transactions) (number row_number xact : ℕ) : Type 0 where
  pub table : TableView
  pub table_is : slice_get tables number ≡ Some table
  pub row : Row
  pub row_is : row_of table.rows row_number ≡ Some row
  pub version : Version
  pub current_is : current transactions xact row ≡ Some version
  pub there : is_some version.values ≡ true

pub there_at : (tables : List TableView) (transactions : Transactions) (number row_number xact : ℕ) →
    is_none (current_values transactions xact (row_at (table_at tables number) row_number)) ≡ false →
    IsThere tables transactions number row_number xact
there_at tables transactions number row_number xact there = at (slice_get tables number) refl
  where
    none : (r : ℕ) → row_of [] r ≡ None
    none zero = refl
    none (suc before) = refl

    some : (values : Option (List Value)) → is_none values ≡ false → is_some values ≡ true
    some None is = absurd (cc is)
    some (Some values) is = refl

    with_version : (table : TableView) → slice_get tables number ≡ Some table → (row : Row) → row_of table.rows row_number ≡ Some row →
        (o : Option Version) → current transactions xact row ≡ o → is_none (values_of o) ≡ false →
        IsThere tables transactions number row_number xact
    with_version table table_is one one_is None is held = absurd (cc held)
    with_version table table_is one one_is (Some version) is held = record {
      table = table;
      table_is = table_is;
      row = one;
      row_is = one_is;
      version = version;
      current_is = is;
      there = some version.values held;
    }

    with_row : (table : TableView) → slice_get tables number ≡ Some table → table_at tables number ≡ table → (o : Option Row) →
        row_of table.rows row_number ≡ o → IsThere tables transactions number row_number xact
    with_row table table_is same None is =
        let e : row_at (table_at tables number) row_number ≡ record { number = row_number; versions = [] } =
        ap (λ t. row_at t row_number) same ∙ ap (λ o. unwrap_or o (record { number = row_number; versions = [] })) is in
        absurd (let f : true ≡ false = sym (ap (λ r. is_none (current_values transactions xact r)) e) ∙ there in cc f)
    with_row table table_is same (Some row) is =
        let e : row_at (table_at tables number) row_number ≡ row =
        ap (λ t. row_at t row_number) same ∙ ap (λ o. unwrap_or o (record { number = row_number; versions = [] })) is in
        with_version table table_is row is (current transactions xact row) refl
        (sym (ap (λ r. is_none (current_values transactions xact r)) e) ∙ there)

    at : (o : Option TableView) → slice_get tables number ≡ o → IsThere tables transactions number row_number xact
    at (Some table) is = with_row table is (ap (λ o. unwrap_or o empty_table) is) (row_of table.rows row_number) refl
    at None is =
        let e : row_at (table_at tables number) row_number ≡ record { number = row_number; versions = [] } =
        ap (λ o. row_at (unwrap_or o empty_table) row_number) is
        ∙ ap (λ o. unwrap_or o (record { number = row_number; versions = [] })) (none row_number) in
        absurd (let f : true ≡ false = sym (ap (λ r. is_none (current_values transactions xact r)) e) ∙ there in cc f)

-- the row that it is
pub row_there : (tables : List TableView) (number row_number : ℕ) (table : TableView) (row : Row) → slice_get tables number ≡ Some table →
    row_of table.rows row_number ≡ Some row → row_at (table_at tables number) row_number ≡ row
row_there tables number row_number table row table_is row_is =
    ap (λ o. row_at (unwrap_or o empty_table) row_number) table_is
    ∙ ap (λ o. unwrap_or o (record { number = row_number; versions = [] })) row_is

pub locks_there : (tables : List TableView) (number row_number : ℕ) (table : TableView) → slice_get tables number ≡ Some table →
    locks_on (table_at tables number) row_number ≡ locks_on table row_number
locks_there tables number row_number table table_is = ap (λ o. locks_on (unwrap_or o empty_table) row_number) table_is
