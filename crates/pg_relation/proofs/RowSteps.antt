-- How the rows of all tables, with the locks on them, come out of those before an entry: each stands
-- where it stood, as the entry leaves it, or was just drawn.
use Rattle.std.proofs.Common.{◌≡◌, ◌≢◌, ◌⊎◌, ◌<◌, ◌≤◌, ◌+◌, ℕ, zero, suc, List, [], ◌∷◌, ◌++◌, length, map, Option, Some, None, slice_get, refl, sym, ap, ◌∙◌, subst, inl, inr, arith, length-append}
use Rattle.std.specs.Prelude.{option_map, unwrap_or}
use Rattle.std.proofs.Math.Nat.{suc_inj}
use Rattle.std.proofs.lemmas.Bool.{cases_eq}
use Rattle.std.proofs.lemmas.List.{length-map}
use Rattle.std.proofs.lemmas.Option.{slice_get-map, slice_get_within}
use Rattle.pg_lists.specs.Numbered.{nth_item, with_changed_item, with_changed_nth_item}
use Rattle.pg_multi.specs.declared.row_lock.RowLock.{RowLock}
use Rattle.pg_multi.specs.declared.strength.Strength.{Strength}
use Rattle.pg_multi.specs.Locks.{lock_joined, locks_left}
use Rattle.pg_xacts.proofs.Lists.{length_changed_from_one}
use Rattle.pg_heap.specs.declared.row.Row.{Row}
use Rattle.pg_heap.specs.declared.version.Version.{Version}
use Rattle.pg_heap.specs.Rows.{row_drawn, row_of, row_stored, row_without, with_version}
use Rattle.pg_heap.proofs.Lists.{changed_here, changed_other, get_before}
use Rattle.pg_world.specs.declared.table.TableView.{TableView}
use Rattle.pg_world.specs.Tables.{TransactionEnd, commit, rollback, locks_on, row_locked, table_after_end}
use Rattle.pg_relation.proofs.Lists.{slice_get_some}

-- A row and the locks on it, before and behind.

-- as they were
abbrev pub IsSame : Row → List RowLock → Row → List RowLock → Type 0
IsSame row locks behind left = (behind ≡ row) × (left ≡ locks)

-- as they were, but for one row, which has a version more
abbrev pub IsStored : Row → List RowLock → Version → Row → List RowLock → Row → List RowLock → Type 0
IsStored at_row at_locks version row locks behind left =
    IsSame row locks behind left
    ⊎ ((row ≡ at_row) × (locks ≡ at_locks) × (behind ≡ with_version version at_row) × (left ≡ at_locks))

-- as they were, but for one row, which a transaction has locked
abbrev pub IsLockedFor : Row → List RowLock → ℕ → Strength → Row → List RowLock → Row → List RowLock → Type 0
IsLockedFor at_row at_locks xact strength row locks behind left =
    IsSame row locks behind left
    ⊎ ((row ≡ at_row) × (locks ≡ at_locks) × (behind ≡ at_row) × (left ≡ lock_joined at_locks xact strength))

-- behind the end of a transaction
abbrev pub row_ended : ℕ → TransactionEnd → Row → Row
row_ended xact commit row = row
row_ended xact rollback row = row_without xact row

abbrev pub IsEnded : ℕ → TransactionEnd → Row → List RowLock → Row → List RowLock → Type 0
IsEnded xact end row locks behind left = (behind ≡ row_ended xact end row) × (left ≡ locks_left locks xact)

-- a row that was just drawn
abbrev pub IsNew : ℕ → Row → List RowLock → Type 0
IsNew number row locks = (row ≡ record { number = number; versions = [] }) × (locks ≡ [])

-- The rows of a table, and of all tables.

module _ (R : Row → List RowLock → Row → List RowLock → Type 0) where
  pub record RowsStep (view new : TableView) : Type 0 where
    pub listed : length view.locks ≡ length view.rows → length new.locks ≡ length new.rows
    pub forward : (number : ℕ) (row : Row) → row_of view.rows number ≡ Some row →
        (behind : Row) × (row_of new.rows number ≡ Some behind) × R row (locks_on view number) behind (locks_on new number)
    pub back : (number : ℕ) (behind : Row) → row_of new.rows number ≡ Some behind →
        ((row : Row) × (row_of view.rows number ≡ Some row) × R row (locks_on view number) behind (locks_on new number))
        ⊎ IsNew number behind (locks_on new number)

  pub record TablesStep (tables new : List TableView) : Type 0 where
    pub forward : (number : ℕ) (view : TableView) → slice_get tables number ≡ Some view →
        (behind : TableView) × (slice_get new number ≡ Some behind) × RowsStep view behind
    pub back : (number : ℕ) (behind : TableView) → slice_get new number ≡ Some behind →
        (view : TableView) × (slice_get tables number ≡ Some view) × RowsStep view behind

-- Lists by number.

-- an item behind a change was there, and is as it was but for the one changed
pub changed_back : {X : Type 0} (change : X → X) (xs : List X) (number other : ℕ) (y : X) →
    nth_item (with_changed_nth_item change xs number) other ≡ Some y →
    ((other ≡ number) × ((x : X) × (nth_item xs number ≡ Some x) × (y ≡ change x)))
    ⊎ ((other ≢ number) × (nth_item xs other ≡ Some y))
changed_back {X = X} change xs number other y is = at (cases_eq other number)
  where
    own : (o : Option X) → nth_item xs number ≡ o → option_map change o ≡ Some y →
        (x : X) × (nth_item xs number ≡ Some x) × (y ≡ change x)
    own None there e = absurd (cc e)
    own (Some x) there e = let f : change x ≡ y = cc e in (x, there, sym f)

    at : (other ≡ number) ⊎ (other ≡ number → ⊥) →
        ((other ≡ number) × ((x : X) × (nth_item xs number ≡ Some x) × (y ≡ change x)))
        ⊎ ((other ≢ number) × (nth_item xs other ≡ Some y))
    at (inl same) = inl (
      same,
      own (nth_item xs number) refl
          (sym (changed_here change xs number) ∙ (ap (λ k. nth_item (with_changed_nth_item change xs number) k) (sym same) ∙ is)),
    )
    at (inr apart) = inr (apart, sym (changed_other change xs number other apart) ∙ is)

-- an item of a list with one more is one of the list, or the last
append_back : {X : Type 0} (xs : List X) (i : ℕ) (x y : X) → slice_get (xs ++ y ∷ []) i ≡ Some x →
    (slice_get xs i ≡ Some x) ⊎ ((i ≡ length xs) × (x ≡ y))
append_back [] zero x y is = let e : y ≡ x = cc is in inr (refl, sym e)
append_back [] (suc i) x y is = absurd (cc is)
append_back (z ∷ xs) zero x y is = inl is
append_back (z ∷ xs) (suc i) x y is = at (append_back xs i x y is)
  where
    at : (slice_get xs i ≡ Some x) ⊎ ((i ≡ length xs) × (x ≡ y)) →
        (slice_get xs i ≡ Some x) ⊎ ((suc i ≡ suc (length xs)) × (x ≡ y))
    at (inl there) = inl there
    at (inr last) = inr (ap suc last.0, last.1)

pub nth_map : {X Y : Type 0} (f : X → Y) (xs : List X) (number : ℕ) → nth_item (map f xs) number ≡ option_map f (nth_item xs number)
nth_map f xs zero = refl
nth_map f xs (suc i) = slice_get-map f xs i

pub past : {X : Type 0} (xs : List X) (i : ℕ) → length xs ≤ i → slice_get xs i ≡ None
past [] i le = refl
past (x ∷ xs) zero le = absurd (omega (arith, le))
past (x ∷ xs) (suc i) le = past xs i (omega (arith, le))

-- where two lists are as long, each has an item where the other has
both_have : {X Y : Type 0} (xs : List X) (ys : List Y) (number : ℕ) (x : X) → nth_item xs number ≡ Some x →
    length ys ≡ length xs → (y : Y) × (nth_item ys number ≡ Some y)
both_have xs ys zero x is same = absurd (cc is)
both_have xs ys (suc i) x is same =
    let within = slice_get_within xs i x is in slice_get_some ys i (omega (arith, within, same))

-- The locks on a row by its number.

abbrev listed_at : List (List RowLock) → ℕ → List RowLock
listed_at lists number = unwrap_or (nth_item lists number) []

drawn_locks : (lists : List (List RowLock)) (number : ℕ) → listed_at (lists ++ [] ∷ []) number ≡ listed_at lists number
drawn_locks lists zero = refl
drawn_locks [] (suc zero) = refl
drawn_locks [] (suc (suc i)) = refl
drawn_locks (one ∷ lists) (suc zero) = refl
drawn_locks (one ∷ lists) (suc (suc i)) = drawn_locks lists (suc i)

pub nobody : (lists : List (List RowLock)) (number : ℕ) → length lists < number → listed_at (lists ++ [] ∷ []) number ≡ []
nobody lists zero within = refl
nobody lists (suc i) within = drawn_locks lists (suc i) ∙ ap (λ o. unwrap_or o []) (past lists i (omega (arith, within)))

mapped_locks : (xact : ℕ) (lists : List (List RowLock)) (number : ℕ) →
    listed_at (map (λ locks. locks_left locks xact) lists) number ≡ locks_left (listed_at lists number) xact
mapped_locks xact lists number =
    ap (λ o. unwrap_or o []) (nth_map (λ locks. locks_left locks xact) lists number) ∙ at (nth_item lists number)
  where
    at : (o : Option (List RowLock)) → unwrap_or (option_map (λ locks. locks_left locks xact) o) [] ≡ locks_left (unwrap_or o []) xact
    at None = refl
    at (Some locks) = refl

-- Tables.

-- a table whose rows and locks stand as they were
pub rows_kept : (R : Row → List RowLock → Row → List RowLock → Type 0) → ((row : Row) (locks : List RowLock) → R row locks row locks) →
    (view new : TableView) → new.rows ≡ view.rows → new.locks ≡ view.locks → RowsStep R view new
rows_kept R same view new rows locks = record {
  listed = λ listed. ap length locks ∙ (listed ∙ ap length (sym rows));
  forward = λ number row is. (row, ap (λ rs. row_of rs number) rows ∙ is, here number row);
  back = λ number row is. inl (row, ap (λ rs. row_of rs number) (sym rows) ∙ is, here number row);
}
  where
    here : (number : ℕ) (row : Row) → R row (locks_on view number) row (locks_on new number)
    here number row =
        subst (λ ls. R row (locks_on view number) row ls) (ap (λ ls. listed_at ls number) (sym locks)) (same row (locks_on view number))

-- a row more, without a version
pub rows_drawn : (view new : TableView) → length view.locks ≡ length view.rows → new.rows ≡ row_drawn view.rows →
    new.locks ≡ view.locks ++ [] ∷ [] → RowsStep IsSame view new
rows_drawn view new listed rows locks = record {
  listed = λ before. ap length locks ∙ (more view.locks _ ∙ (ap (λ n. n + 1) before ∙ (sym (more view.rows _) ∙ ap length (sym rows))));
  forward = λ number row is. (row, ap (λ rs. row_of rs number) rows ∙ forward number row is, (refl, here number));
  back = λ number row is. back number row (ap (λ rs. row_of rs number) (sym rows) ∙ is);
}
  where
    more : {X : Type 0} (xs : List X) (x : X) → length (xs ++ x ∷ []) ≡ length xs + 1
    more {X = X} xs x = omega (arith, length-append {A = X})

    here : (number : ℕ) → locks_on new number ≡ locks_on view number
    here number = ap (λ ls. listed_at ls number) locks ∙ drawn_locks view.locks number

    forward : (number : ℕ) (row : Row) → row_of view.rows number ≡ Some row → row_of (row_drawn view.rows) number ≡ Some row
    forward zero row is = absurd (cc is)
    forward (suc i) row is = get_before view.rows _ i row is

    back : (number : ℕ) (row : Row) → row_of (row_drawn view.rows) number ≡ Some row →
        ((one : Row) × (row_of view.rows number ≡ Some one) × IsSame one (locks_on view number) row (locks_on new number))
        ⊎ IsNew number row (locks_on new number)
    back zero row is = absurd (cc is)
    back (suc i) row is = at (append_back view.rows i row _ is)
      where
        at : (slice_get view.rows i ≡ Some row) ⊎ ((i ≡ length view.rows) × (row ≡ record { number = length view.rows + 1; versions = [] })) →
            ((one : Row) × (row_of view.rows (suc i) ≡ Some one) × IsSame one (locks_on view (suc i)) row (locks_on new (suc i)))
            ⊎ IsNew (suc i) row (locks_on new (suc i))
        at (inl there) = inl (row, there, (refl, here (suc i)))
        at (inr last) =
            let e : length view.rows + 1 ≡ suc i = omega (arith, last.0) in
            let none = past view.locks i (let f = last.0 in omega (arith, listed, f)) in
            inr (last.1 ∙ ap (λ n. record { number = n; versions = [] }) e, here (suc i) ∙ ap (λ o. unwrap_or o []) none)

-- a version more of a row
pub rows_stored : (view new : TableView) (number : ℕ) (at_row : Row) (version : Version) → row_of view.rows number ≡ Some at_row →
    new.rows ≡ row_stored view.rows number version → new.locks ≡ view.locks →
    RowsStep (IsStored at_row (locks_on view number) version) view new
rows_stored view new number at_row version at_is rows locks = record {
  listed = λ listed.
      ap length locks
      ∙ (listed ∙ (sym (length_changed_from_one (with_version version) view.rows number) ∙ ap length (sym rows)));
  forward = λ other row is. forward other row is (cases_eq other number);
  back = λ other row is.
      inl (back other row (changed_back (with_version version) view.rows number other row (ap (λ rs. row_of rs other) (sym rows) ∙ is)));
}
  where
    here : (other : ℕ) → locks_on new other ≡ locks_on view other
    here other = ap (λ ls. listed_at ls other) locks

    forward : (other : ℕ) (row : Row) → row_of view.rows other ≡ Some row → (other ≡ number) ⊎ (other ≡ number → ⊥) →
        (behind : Row) × (row_of new.rows other ≡ Some behind)
        × IsStored at_row (locks_on view number) version row (locks_on view other) behind (locks_on new other)
    forward other row is (inl same) =
        let e : Some row ≡ Some at_row = sym is ∙ (ap (λ k. row_of view.rows k) same ∙ at_is) in
        let f : row ≡ at_row = cc e in (
          with_version version at_row,
          ap (λ rs. row_of rs other) rows
              ∙ (ap (λ k. row_of (row_stored view.rows number version) k) same
              ∙ (changed_here (with_version version) view.rows number ∙ ap (λ o. option_map (with_version version) o) at_is)),
          inr (f, ap (λ k. locks_on view k) same, refl, here other ∙ ap (λ k. locks_on view k) same),
        )
    forward other row is (inr apart) = (
      row,
      ap (λ rs. row_of rs other) rows ∙ (changed_other (with_version version) view.rows number other apart ∙ is),
      inl (refl, here other),
    )

    back : (other : ℕ) (behind : Row) →
        ((other ≡ number) × ((row : Row) × (row_of view.rows number ≡ Some row) × (behind ≡ with_version version row)))
        ⊎ ((other ≢ number) × (row_of view.rows other ≡ Some behind)) →
        (row : Row) × (row_of view.rows other ≡ Some row)
        × IsStored at_row (locks_on view number) version row (locks_on view other) behind (locks_on new other)
    back other behind (inl h) =
        let e : Some h.1.0 ≡ Some at_row = sym h.1.1 ∙ at_is in
        let f : h.1.0 ≡ at_row = cc e in (
          at_row,
          ap (λ k. row_of view.rows k) h.0 ∙ at_is,
          inr (refl, ap (λ k. locks_on view k) h.0, h.1.2 ∙ ap (λ r. with_version version r) f, here other ∙ ap (λ k. locks_on view k) h.0),
        )
    back other behind (inr h) = (behind, h.1, inl (refl, here other))

-- a lock more on a row
pub locked_here : (view : TableView) (xact number : ℕ) (strength : Strength) (at_row : Row) →
    length view.locks ≡ length view.rows → row_of view.rows number ≡ Some at_row →
    locks_on (row_locked view xact number strength) number ≡ lock_joined (locks_on view number) xact strength
locked_here view xact number strength at_row listed at_is =
    let there = both_have view.rows view.locks number at_row at_is listed in
    ap (λ o. unwrap_or o []) (changed_here (λ locks. lock_joined locks xact strength) view.locks number)
    ∙ rw there.1 refl

pub rows_locked : (view : TableView) (xact number : ℕ) (strength : Strength) (at_row : Row) →
    length view.locks ≡ length view.rows → row_of view.rows number ≡ Some at_row →
    RowsStep (IsLockedFor at_row (locks_on view number) xact strength) view (row_locked view xact number strength)
rows_locked view xact number strength at_row listed at_is = record {
  listed = λ before. length_changed_from_one (λ locks. lock_joined locks xact strength) view.locks number ∙ before;
  forward = λ other row is. (row, is, step other row is (cases_eq other number));
  back = λ other row is. inl (row, is, step other row is (cases_eq other number));
}
  where
    step : (other : ℕ) (row : Row) → row_of view.rows other ≡ Some row → (other ≡ number) ⊎ (other ≡ number → ⊥) →
        IsLockedFor at_row (locks_on view number) xact strength row (locks_on view other) row (locks_on (row_locked view xact number strength) other)
    step other row is (inl same) =
        let e : Some row ≡ Some at_row = sym is ∙ (ap (λ k. row_of view.rows k) same ∙ at_is) in
        let f : row ≡ at_row = cc e in
        inr (
          f,
          ap (λ k. locks_on view k) same,
          f,
          ap (λ k. locks_on (row_locked view xact number strength) k) same
              ∙ locked_here view xact number strength at_row listed at_is,
        )
    step other row is (inr apart) =
        inl (refl, ap (λ o. unwrap_or o []) (changed_other (λ locks. lock_joined locks xact strength) view.locks number other apart))

-- the end of a transaction
pub rows_ended : (xact : ℕ) (end : TransactionEnd) (view : TableView) → RowsStep (IsEnded xact end) view (table_after_end xact end view)
rows_ended xact commit view = record {
  listed = λ listed. length-map view.locks (λ locks. locks_left locks xact) ∙ listed;
  forward = λ number row is. (row, is, (refl, mapped_locks xact view.locks number));
  back = λ number row is. inl (row, is, (refl, mapped_locks xact view.locks number));
}
rows_ended xact rollback view = record {
  listed = λ listed.
      length-map view.locks (λ locks. locks_left locks xact) ∙ (listed ∙ sym (length-map view.rows (row_without xact)));
  forward = λ number row is. (
    row_without xact row,
    nth_map (row_without xact) view.rows number ∙ ap (λ o. option_map (row_without xact) o) is,
    (refl, mapped_locks xact view.locks number),
  );
  back = λ number row is. inl (back number row (row_of view.rows number) refl (sym (nth_map (row_without xact) view.rows number) ∙ is));
}
  where
    back : (number : ℕ) (behind : Row) (o : Option Row) → row_of view.rows number ≡ o → option_map (row_without xact) o ≡ Some behind →
        (row : Row) × (row_of view.rows number ≡ Some row)
        × IsEnded xact rollback row (locks_on view number) behind (locks_on (table_after_end xact rollback view) number)
    back number behind None there is = absurd (cc is)
    back number behind (Some row) there is =
        let e : row_without xact row ≡ behind = cc is in (row, there, (sym e, mapped_locks xact view.locks number))

-- All tables.

module _ (R : Row → List RowLock → Row → List RowLock → Type 0) (same : (row : Row) (locks : List RowLock) → R row locks row locks)
    (tables : List TableView) where
  pub tables_same : TablesStep R tables tables
  tables_same = record {
    forward = λ number view is. (view, is, rows_kept R same view view refl refl);
    back = λ number view is. (view, is, rows_kept R same view view refl refl);
  }

  pub tables_changed : (change : TableView → TableView) (place : ℕ) →
      ((view : TableView) → slice_get tables place ≡ Some view → RowsStep R view (change view)) →
      TablesStep R tables (with_changed_item change tables place)
  tables_changed change place step = record {
    forward = λ number view is. forward number view is (cases_eq number place);
    back = λ number view is. back number view (changed_back change tables (suc place) (suc number) view is);
  }
    where
      forward : (number : ℕ) (view : TableView) → slice_get tables number ≡ Some view → (number ≡ place) ⊎ (number ≡ place → ⊥) →
          (behind : TableView) × (slice_get (with_changed_item change tables place) number ≡ Some behind) × RowsStep R view behind
      forward number view is (inl e) =
          let here : slice_get tables place ≡ Some view = ap (λ k. slice_get tables k) (sym e) ∙ is in (
            change view,
            ap (λ k. slice_get (with_changed_item change tables place) k) e
                ∙ (changed_here change tables (suc place) ∙ ap (λ o. option_map change o) here),
            step view here,
          )
      forward number view is (inr apart) =
          (view, changed_other change tables (suc place) (suc number) (λ e. apart (suc_inj e)) ∙ is, rows_kept R same view view refl refl)

      back : (number : ℕ) (behind : TableView) →
          ((suc number ≡ suc place) × ((view : TableView) × (slice_get tables place ≡ Some view) × (behind ≡ change view)))
          ⊎ ((suc number ≢ suc place) × (slice_get tables number ≡ Some behind)) →
          (view : TableView) × (slice_get tables number ≡ Some view) × RowsStep R view behind
      back number behind (inl h) = (
        h.1.0,
        ap (λ k. slice_get tables k) (suc_inj h.0) ∙ h.1.1,
        subst (λ v. RowsStep R h.1.0 v) (sym h.1.2) (step h.1.0 h.1.1),
      )
      back number behind (inr h) = (behind, h.1, rows_kept R same behind behind refl refl)

pub tables_mapped : (R : Row → List RowLock → Row → List RowLock → Type 0) (f : TableView → TableView) →
    ((view : TableView) → RowsStep R view (f view)) → (tables : List TableView) → TablesStep R tables (map f tables)
tables_mapped R f step tables = record {
  forward = λ number view is. (f view, slice_get-map f tables number ∙ ap (λ o. option_map f o) is, step view);
  back = λ number view is. back number view (slice_get tables number) refl (sym (slice_get-map f tables number) ∙ is);
}
  where
    back : (number : ℕ) (behind : TableView) (o : Option TableView) → slice_get tables number ≡ o → option_map f o ≡ Some behind →
        (view : TableView) × (slice_get tables number ≡ Some view) × RowsStep R view behind
    back number behind None there is = absurd (cc is)
    back number behind (Some view) there is =
        let e : f view ≡ behind = cc is in (view, there, subst (λ v. RowsStep R view v) e (step view))
