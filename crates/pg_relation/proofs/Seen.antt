-- What a statement sees does not change by what others do, and not by its own command.
use Rattle.std.proofs.Common.{◌≡◌, ℕ, zero, suc, Bool, true, false, cond, List, [], ◌∷◌, ◌++◌, map, Option, Some, None, slice_get, slice_set, refl, sym, ap, ◌∙◌, not, eqb-true}
use Rattle.std.specs.Prelude.{filter, filter_map, nat_eq, option_map, ◌||◌}
use Rattle.std.specs.Option.{option_map_or}
use Rattle.std.proofs.lemmas.Option.{slice_get-map}
use Rattle.pg_lists.specs.Numbered.{with_changed_item}
use Rattle.pg_values.specs.declared.value.Value.{Value}
use Rattle.pg_xacts.specs.declared.me.Me.{Me}
use Rattle.pg_xacts.specs.declared.transaction.Transaction.{Transaction}
use Rattle.pg_xacts.specs.declared.transaction.XStatus.{XStatus}
use Rattle.pg_xacts.specs.declared.transaction.XStatus.TheVariants.{Running as IsRunning}
use Rattle.pg_xacts.specs.Transactions.{Transactions, is_among_commits, is_status_among, status_of, transaction_begun, with_status}
use Rattle.pg_heap.specs.declared.version.Version.{Version}
use Rattle.pg_heap.specs.declared.row.Row.{Row}
use Rattle.pg_heap.specs.Rows.{row_drawn, row_stored, is_written_by, row_without, rows_without, with_version}
use Rattle.pg_heap.specs.Seen.{is_own_earlier, is_seen}
use Rattle.pg_world.specs.Candidates.{seen_row, seen_rows}
use Rattle.pg_world.specs.declared.placed.PlacedRow.{PlacedRow}
use Rattle.pg_world.specs.declared.table.TableView.{TableView}
use Rattle.pg_world.specs.Tables.{placed_at, placed_stored, row_changed, row_inserted, row_placed, version_by}

-- filters that pass the same
module _ {X : Type 0} where
  filter_same : (p q : X → Bool) → ((x : X) → p x ≡ q x) → (xs : List X) → filter p xs ≡ filter q xs
  filter_same p q same [] = refl
  filter_same p q same (x ∷ xs) = rw (same x, filter_same p q same xs) refl

  -- what does not pass is not missed
  filter_within : (p q : X → Bool) → ((x : X) → q x ≡ false → p x ≡ false) → (xs : List X) →
      filter p (filter q xs) ≡ filter p xs
  filter_within p q none [] = refl
  filter_within p q none (x ∷ xs) = at (q x) refl (filter_within p q none xs)
    where
      at : (b : Bool) → q x ≡ b → filter p (filter q xs) ≡ filter p xs →
          filter p (cond b (x ∷ filter q xs) (filter q xs)) ≡ cond (p x) (x ∷ filter p xs) (filter p xs)
      at true is same = rw same refl
      at false is same = rw (none x is) same

  filter_more : (p : X → Bool) (xs : List X) (y : X) → p y ≡ false → filter p (xs ++ y ∷ []) ≡ filter p xs
  filter_more p [] y none = rw none refl
  filter_more p (x ∷ xs) y none = rw (filter_more p xs y none) refl

-- lists of what there is
module _ {X Y : Type 0} where
  filter_map_same : (f g : X → Option Y) → ((x : X) → f x ≡ g x) → (xs : List X) → filter_map f xs ≡ filter_map g xs
  filter_map_same f g same [] = refl
  filter_map_same f g same (x ∷ xs) = rw (same x, filter_map_same f g same xs) refl

  filter_map_changed : (f g : X → Option Y) (change : X → X) → ((x : X) → f (change x) ≡ g x) → (xs : List X) →
      filter_map f (map change xs) ≡ filter_map g xs
  filter_map_changed f g change same [] = refl
  filter_map_changed f g change same (x ∷ xs) = rw (same x, filter_map_changed f g change same xs) refl

  filter_map_more : (f : X → Option Y) (xs : List X) (y : X) → f y ≡ None → filter_map f (xs ++ y ∷ []) ≡ filter_map f xs
  filter_map_more f [] y none = rw none refl
  filter_map_more f (x ∷ xs) y none = rw (filter_map_more f xs y none) refl

  filter_map_set : (f : X → Option Y) (xs : List X) (i : ℕ) (x y : X) → slice_get xs i ≡ Some x → f y ≡ f x →
      filter_map f (slice_set xs i y) ≡ filter_map f xs
  filter_map_set f [] i x y is same = refl
  filter_map_set f (z ∷ xs) zero x y is same = let e : z ≡ x = cc is in rw (same, e) refl
  filter_map_set f (z ∷ xs) (suc i) x y is same = rw (filter_map_set f xs i x y is same) refl

-- whether a transaction is among the first commits
module _ (commits : ℕ) where
  among_more : (list : List Transaction) (session place : ℕ) →
      option_map_or (is_status_among commits) (option_map (λ t. t.status) (slice_get (list ++ record { session = session; status = IsRunning } ∷ []) place)) false
      ≡ option_map_or (is_status_among commits) (option_map (λ t. t.status) (slice_get list place)) false
  among_more [] session zero = refl
  among_more [] session (suc place) = refl
  among_more (first ∷ list) session zero = refl
  among_more (first ∷ list) session (suc place) = among_more list session place

  -- a transaction that is begun is not
  pub among_begun : (transactions : Transactions) (number xact : ℕ) →
      is_among_commits (transaction_begun transactions number) commits xact ≡ is_among_commits transactions commits xact
  among_begun transactions number zero = refl
  among_begun transactions number (suc before) = among_more transactions.list number before

  among_set : (list : List Transaction) (place other : ℕ) (t : Transaction) (status : XStatus) →
      slice_get list place ≡ Some t → t.status ≡ IsRunning → is_status_among commits status ≡ false →
      option_map_or (is_status_among commits) (option_map (λ t. t.status) (slice_get (slice_set list place (record t { status = status })) other)) false
      ≡ option_map_or (is_status_among commits) (option_map (λ t. t.status) (slice_get list other)) false
  among_set [] place other t status is running none = refl
  among_set (first ∷ list) zero zero t status is running none =
      let e : first ≡ t = cc is in rw (none, e, running) refl
  among_set (first ∷ list) zero (suc other) t status is running none = refl
  among_set (first ∷ list) (suc place) zero t status is running none = refl
  among_set (first ∷ list) (suc place) (suc other) t status is running none = among_set list place other t status is running none

  -- one that ends was not, and is not where its status says so
  pub among_ended : (transactions : Transactions) (xact other : ℕ) (status : XStatus) →
      status_of transactions xact ≡ Some IsRunning → is_status_among commits status ≡ false →
      is_among_commits (with_status transactions xact status) commits other ≡ is_among_commits transactions commits other
  among_ended transactions zero other status running none = refl
  among_ended transactions (suc before) zero status running none = refl
  among_ended transactions (suc before) (suc place) status running none = at (slice_get transactions.list before) refl running
    where
      at : (o : Option Transaction) → slice_get transactions.list before ≡ o → option_map (λ t. t.status) o ≡ Some IsRunning →
          is_among_commits (with_status transactions (suc before) status) commits (suc place) ≡ is_among_commits transactions commits (suc place)
      at None is h = absurd (cc h)
      at (Some t) is h =
          let e : t.status ≡ IsRunning = cc h in
          rw is (among_set transactions.list before place t status is e none)

  -- one that runs is not
  pub among_running : (transactions : Transactions) (xact : ℕ) → status_of transactions xact ≡ Some IsRunning →
      is_among_commits transactions commits xact ≡ false
  among_running transactions xact is = rw is refl

-- the rows of a table
module _ (commits : ℕ) (me : Me) where
  row_same : (transactions after : Transactions) (row other : Row) → other.number ≡ row.number →
      filter (is_seen after commits me) other.versions ≡ filter (is_seen transactions commits me) row.versions →
      seen_row after commits me other ≡ seen_row transactions commits me row
  row_same transactions after row other number versions = rw (number, versions) refl

  -- a version is seen as before, where its writer is among the commits as before
  version_same : (transactions after : Transactions) →
      ((xact : ℕ) → is_among_commits after commits xact ≡ is_among_commits transactions commits xact) →
      (version : Version) → is_seen after commits me version ≡ is_seen transactions commits me version
  version_same transactions after same version = ap (λ b. b || is_own_earlier me version) (same version.writer)

  pub rows_same : (transactions after : Transactions) →
      ((xact : ℕ) → is_among_commits after commits xact ≡ is_among_commits transactions commits xact) → (rows : List Row) →
      filter_map (seen_row after commits me) rows ≡ filter_map (seen_row transactions commits me) rows
  rows_same transactions after same rows =
      filter_map_same (seen_row after commits me) (seen_row transactions commits me)
      (λ row. row_same transactions after row row refl
      (filter_same (is_seen after commits me) (is_seen transactions commits me) (version_same transactions after same) row.versions)) rows

  -- what another transaction wrote and nobody else has seen is not missed
  pub unseen_by_other : (transactions : Transactions) (xact : ℕ) → is_among_commits transactions commits xact ≡ false →
      (xact ≡ me.xact → ⊥) → (version : Version) → version.writer ≡ xact → is_seen transactions commits me version ≡ false
  unseen_by_other transactions xact none apart version is =
      at (nat_eq version.writer me.xact) refl
    where
      at : (b : Bool) → nat_eq version.writer me.xact ≡ b → is_seen transactions commits me version ≡ false
      at true same = absurd (apart (sym is ∙ eqb-true version.writer me.xact same))
      at false other = rw (other, is, none) refl

  pub rows_left : (transactions after : Transactions) (xact : ℕ) →
      ((other : ℕ) → is_among_commits after commits other ≡ is_among_commits transactions commits other) →
      is_among_commits transactions commits xact ≡ false → (xact ≡ me.xact → ⊥) → (rows : List Row) →
      filter_map (seen_row after commits me) (rows_without xact rows) ≡ filter_map (seen_row transactions commits me) rows
  rows_left transactions after xact same none apart rows =
      filter_map_changed (seen_row after commits me) (seen_row transactions commits me) (row_without xact)
      (λ row. row_same transactions after row (row_without xact row) refl
      (filter_within (is_seen after commits me) (λ version. not (is_written_by xact version)) hidden row.versions
      ∙ filter_same (is_seen after commits me) (is_seen transactions commits me) (version_same transactions after same) row.versions)) rows
    where
      written : (b : Bool) → not b ≡ false → b ≡ true
      written true is = refl
      written false is = absurd (cc is)

      hidden : (version : Version) → not (is_written_by xact version) ≡ false → is_seen after commits me version ≡ false
      hidden version is =
          unseen_by_other after xact (same xact ∙ none) apart version
          (eqb-true version.writer xact (written (is_written_by xact version) is))

  -- a row that has no version is not seen
  pub rows_drawn : (transactions : Transactions) (rows : List Row) →
      filter_map (seen_row transactions commits me) (row_drawn rows) ≡ filter_map (seen_row transactions commits me) rows
  rows_drawn transactions rows = filter_map_more (seen_row transactions commits me) rows _ refl

  -- nor is a version more, where that is not seen
  pub rows_stored : (transactions : Transactions) (rows : List Row) (number : ℕ) (version : Version) →
      is_seen transactions commits me version ≡ false →
      filter_map (seen_row transactions commits me) (row_stored rows number version)
      ≡ filter_map (seen_row transactions commits me) rows
  rows_stored transactions rows zero version unseen = refl
  rows_stored transactions rows (suc before) version unseen = at (slice_get rows before) refl
    where
      at : (o : Option Row) → slice_get rows before ≡ o →
          filter_map (seen_row transactions commits me)
          (option_map_or (λ row. slice_set rows before (with_version version row)) o rows)
          ≡ filter_map (seen_row transactions commits me) rows
      at None is = refl
      at (Some row) is =
          filter_map_set (seen_row transactions commits me) rows before row (with_version version row) is
          (row_same transactions transactions row (with_version version row) refl
          (filter_more (is_seen transactions commits me) row.versions version unseen))

  pub table_placed : (transactions : Transactions) (table : TableView) (by : Me) (values : List Value) →
      seen_rows transactions commits me (row_placed table by values) ≡ seen_rows transactions commits me table
  table_placed transactions table by values = rows_drawn transactions table.rows

  pub table_inserted : (transactions : Transactions) (table : TableView) (by : Me) (row : ℕ) →
      ((values : List Value) → is_seen transactions commits me (version_by by values) ≡ false) →
      seen_rows transactions commits me (row_inserted table by row) ≡ seen_rows transactions commits me table
  table_inserted transactions table by row unseen = at (placed_at table.placed row)
    where
      at : (placed : Option PlacedRow) →
          seen_rows transactions commits me (placed_stored table by row placed) ≡ seen_rows transactions commits me table
      at None = refl
      at (Some placed) = rows_stored transactions table.rows row (version_by by placed.values) (unseen placed.values)

  pub table_changed : (transactions : Transactions) (table : TableView) (by : Me) (row : ℕ) (values : Option (List Value)) →
      is_seen transactions commits me (record { values = values; writer = by.xact; command = by.command }) ≡ false →
      seen_rows transactions commits me (row_changed table by row values) ≡ seen_rows transactions commits me table
  table_changed transactions table by row values unseen =
      rows_stored transactions table.rows row (record { values = values; writer = by.xact; command = by.command }) unseen

-- tables by number
module _ {Y : Type 0} where
  pub numbered_same : (f g : TableView → List Y) → ((table : TableView) → f table ≡ g table) → (tables : List TableView) (number : ℕ) →
      option_map_or f (slice_get tables number) [] ≡ option_map_or g (slice_get tables number) []
  numbered_same f g same tables number = at (slice_get tables number)
    where
      at : (o : Option TableView) → option_map_or f o [] ≡ option_map_or g o []
      at None = refl
      at (Some table) = same table

  pub numbered_mapped : (f g : TableView → List Y) (change : TableView → TableView) →
      ((table : TableView) → f (change table) ≡ g table) → (tables : List TableView) (number : ℕ) →
      option_map_or f (slice_get (map change tables) number) [] ≡ option_map_or g (slice_get tables number) []
  numbered_mapped f g change same tables number = rw (slice_get-map change tables number) (at (slice_get tables number))
    where
      at : (o : Option TableView) → option_map_or f (option_map change o) [] ≡ option_map_or g o []
      at None = refl
      at (Some table) = same table

  numbered_set : (f : TableView → List Y) (tables : List TableView) (place number : ℕ) (table other : TableView) →
      slice_get tables place ≡ Some table → f other ≡ f table →
      option_map_or f (slice_get (slice_set tables place other) number) [] ≡ option_map_or f (slice_get tables number) []
  numbered_set f [] place number table other is same = refl
  numbered_set f (first ∷ tables) zero zero table other is same = let e : first ≡ table = cc is in rw (same, e) refl
  numbered_set f (first ∷ tables) zero (suc number) table other is same = refl
  numbered_set f (first ∷ tables) (suc place) zero table other is same = refl
  numbered_set f (first ∷ tables) (suc place) (suc number) table other is same =
      numbered_set f tables place number table other is same

  pub numbered_changed : (f : TableView → List Y) (change : TableView → TableView) →
      ((table : TableView) → f (change table) ≡ f table) → (tables : List TableView) (place number : ℕ) →
      option_map_or f (slice_get (with_changed_item change tables place) number) [] ≡ option_map_or f (slice_get tables number) []
  numbered_changed f change same tables place number = at (slice_get tables place) refl
    where
      at : (o : Option TableView) → slice_get tables place ≡ o →
          option_map_or f (slice_get (option_map_or (λ table. slice_set tables place (change table)) o tables) number) []
          ≡ option_map_or f (slice_get tables number) []
      at None is = refl
      at (Some table) is = numbered_set f tables place number table (change table) is (same table)
