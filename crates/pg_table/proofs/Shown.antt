-- What is done to a table is done to the part of the world that it shows.
use Rattle.std.proofs.Common.{◌≡◌, ◌≢◌, ◌<◌, ◌+◌, ◌++◌, ◌⊎◌, inl, inr, ℕ, zero, suc, cond, List, [], ◌∷◌, Option, Some, None, length, option_map, option_and_then, slice_get, refl, ap, ap₂, subst, sym, ◌∙◌, arith, eq-eqb, ne_eqb}
use Rattle.std.specs.List.{cons_option}
use Rattle.pg_values.specs.declared.value.Value.{Value}
use Rattle.pg_xacts.specs.declared.me.Me.{Me}
use Rattle.pg_heap.specs.Rows.{row_stored}
use Rattle.pg_heap.specs.declared.row.Row.{Row}
use Rattle.pg_heap.specs.declared.slot.State.{State}
use Rattle.pg_heap.specs.declared.slot.State.TheVariants.{Dead, Placed, Settled}
use Rattle.pg_heap.proofs.Lists.{changed_here, changed_other}
use Rattle.pg_locks.specs.Locks.{locks_of_row_added}
use Rattle.pg_multi.specs.declared.row_lock.RowLock.{RowLock}
use Rattle.pg_rows.specs.Stores.{Stored, draft_of, is_placed, rows_of, stored_of, with_version_state}
use Rattle.pg_rows.proofs.Stored.{in_state}
use Rattle.pg_rows.proofs.Rows.{length_rows, rows_attached_at, rows_placed}
use Rattle.pg_world.specs.declared.placed.PlacedRow.{PlacedRow}
use Rattle.pg_world.specs.declared.table.TableView.{TableView}
use Rattle.pg_world.specs.Tables.{next_row, placed_at, placed_beside, placed_stored, row_inserted, row_placed, version_by}
use Rattle.pg_table.specs.declared.placing.DraftKind.{DraftKind}
use Rattle.pg_table.specs.declared.placing.DraftKind.TheVariants.{First, Next}
use Rattle.pg_table.specs.declared.placing.Placing.{Placing}
use Rattle.pg_table.specs.States.{IsPlacedBy, IsTable, TableState, draft_under, of_kind, placed_from, placed_under, row_inserted_in, row_placed_in, table_shown, version_settled_in, waiting_number, waiting_row, waiting_version}
use Rattle.pg_table.proofs.Kept.{nth_before, nth_behind, stands_last}
use Rattle.pg_table.proofs.Placed.{placed_none}
use Rattle.pg_table.proofs.Waiting.{IsWaiting, kind_none, kind_some, waiting_at}

-- a table of the world from its parts
abbrev pub view_of : List Row → List PlacedRow → List (List RowLock) → TableView
view_of rows placed locks = record { rows = rows; placed = placed; locks = locks }

-- what waits under a number has that number, and its version waits
pub record IsUnder (versions : List Stored) (row : ℕ) (placing : Placing) (found : PlacedRow) : Type 0 where
  pub stored : Stored
  pub is : stored_of versions placing.version ≡ Some stored
  pub state : stored.state ≡ Placed
  pub row_is : found.row ≡ row
  pub writer : found.me.xact ≡ stored.version.writer
  pub command : found.me.command ≡ stored.version.command
  pub values : stored.version.values ≡ Some found.values

pub draft_is : (versions : List Stored) (row : ℕ) (placing : Placing) (found : PlacedRow) → draft_under versions row placing ≡ Some found →
    IsUnder versions row placing found
draft_is versions row placing found is = at (stored_of versions placing.version) refl is
  where
    from : (stored : Stored) → stored_of versions placing.version ≡ Some stored → (state : State) → stored.state ≡ state → (o : Option (List Value)) →
        stored.version.values ≡ o →
        cond (is_placed state) (option_map (λ values. record { row = row; me = record { session = placing.session; xact = stored.version.writer; command = stored.version.command }; values = values }) o) None ≡ Some found →
        IsUnder versions row placing found
    from stored there Placed state_is None values_are e = absurd (cc e)
    from stored there Settled state_is o values_are e = absurd (cc e)
    from stored there Dead state_is o values_are e = absurd (cc e)
    from stored there Placed state_is (Some values) values_are e =
        let same : record { row = row; me = record { session = placing.session; xact = stored.version.writer; command = stored.version.command }; values = values } ≡ found = cc e in
        record {
          stored = stored;
          is = there;
          state = state_is;
          row_is = ap (λ x. x.row) (sym same);
          writer = ap (λ x. x.me.xact) (sym same);
          command = ap (λ x. x.me.command) (sym same);
          values = values_are ∙ ap (λ x. Some x.values) same;
        }

    at : (o : Option Stored) → stored_of versions placing.version ≡ o → option_and_then (waiting_row row placing) o ≡ Some found → IsUnder versions row placing found
    at None there e = absurd (cc e)
    at (Some stored) there e = from stored there stored.state refl stored.version.values refl e

pub under : (versions : List Stored) (row : ℕ) (placing : Placing) (found : PlacedRow) → placed_under versions row placing ≡ Some found →
    IsUnder versions row placing found
under versions row placing found is =
    draft_is versions row placing found (kind_some First placing.kind (draft_under versions row placing) found is).1

-- nothing waits under smaller numbers than the first
placed_less : (first : ℕ) (placings : List Placing) (versions : List Stored) (row : ℕ) → row < first →
    placed_at (placed_from first placings versions) row ≡ None
placed_less first [] versions row lt = refl
placed_less first (p ∷ ps) versions row lt =
    at (placed_less (first + 1) ps versions row (omega (arith, lt))) (placed_under versions first p) refl
  where
    at : placed_at (placed_from (first + 1) ps versions) row ≡ None → (o : Option PlacedRow) → placed_under versions first p ≡ o →
        placed_at (cons_option o (placed_from (first + 1) ps versions)) row ≡ None
    at behind None is = behind
    at behind (Some x) is =
        let e = (under versions first p x is).row_is in rw (ne_eqb x.row row (λ f. omega (arith, e, f, lt))) behind

-- what waits under a number
pub placed_lookup : (first : ℕ) (placings : List Placing) (versions : List Stored) (i : ℕ) →
    placed_at (placed_from first placings versions) (first + i) ≡ option_and_then (placed_under versions (first + i)) (slice_get placings i)
placed_lookup first [] versions i = refl
placed_lookup first (p ∷ ps) versions zero =
    let same : first + zero ≡ first = omega arith in rw same (at (placed_under versions first p) refl)
  where
    at : (o : Option PlacedRow) → placed_under versions first p ≡ o → placed_at (cons_option o (placed_from (first + 1) ps versions)) first ≡ o
    at None is = placed_less (first + 1) ps versions first (omega arith)
    at (Some x) is = rw (eq-eqb x.row first (under versions first p x is).row_is) refl
placed_lookup first (p ∷ ps) versions (suc i) =
    let e : first + 1 + i ≡ first + suc i = omega arith in
    at (subst (λ n. placed_at (placed_from (first + 1) ps versions) n ≡ option_and_then (placed_under versions n) (slice_get ps i)) e (placed_lookup (first + 1) ps versions i))
    (placed_under versions first p) refl
  where
    at : placed_at (placed_from (first + 1) ps versions) (first + suc i) ≡ option_and_then (placed_under versions (first + suc i)) (slice_get ps i) →
        (o : Option PlacedRow) → placed_under versions first p ≡ o →
        placed_at (cons_option o (placed_from (first + 1) ps versions)) (first + suc i) ≡ option_and_then (placed_under versions (first + suc i)) (slice_get ps i)
    at behind None is = behind
    at behind (Some x) is =
        let e = (under versions first p x is).row_is in
        rw (ne_eqb x.row (first + suc i) (λ f. omega (arith, e, f))) behind

-- where the versions placed are the same, the same is placed
pub placed_same : (first : ℕ) (placings : List Placing) (versions more : List Stored) →
    ((i : ℕ) (p : Placing) → slice_get placings i ≡ Some p → (p.kind ≡ Next) ⊎ (stored_of more p.version ≡ stored_of versions p.version)) →
    placed_from first placings more ≡ placed_from first placings versions
placed_same first [] versions more same = refl
placed_same first (p ∷ ps) versions more same =
    ap₂ (λ o xs. cons_option o xs) (at (same 0 p refl)) (placed_same (first + 1) ps versions more (λ i q is. same (suc i) q is))
  where
    at : (p.kind ≡ Next) ⊎ (stored_of more p.version ≡ stored_of versions p.version) → placed_under more first p ≡ placed_under versions first p
    at (inl next) = rw next refl
    at (inr e) = ap (λ o. of_kind First p.kind (option_and_then (waiting_row first p) o)) e

cons_append : {X : Type 0} (o : Option X) (xs ys : List X) → cons_option o (xs ++ ys) ≡ cons_option o xs ++ ys
cons_append None xs ys = refl
cons_append (Some x) xs ys = refl

-- one row number more
placed_more : (first : ℕ) (placings : List Placing) (p : Placing) (versions : List Stored) →
    placed_from first (placings ++ p ∷ []) versions ≡ placed_from first placings versions ++ cons_option (placed_under versions (first + length placings) p) []
placed_more first [] p versions =
    ap (λ row. cons_option (placed_under versions row p) []) (plus_zero first)
  where
    plus_zero : (n : ℕ) → n ≡ n + zero
    plus_zero n = omega arith
placed_more first (q ∷ qs) p versions =
    ap (λ xs. cons_option (placed_under versions first q) xs) (placed_more (first + 1) qs p versions ∙ ap (λ row. placed_from (first + 1) qs versions ++ cons_option (placed_under versions row p) []) (row_is first (length qs)))
    ∙ cons_append (placed_under versions first q) (placed_from (first + 1) qs versions) (cons_option (placed_under versions (first + length (q ∷ qs)) p) [])
  where
    row_is : (a b : ℕ) → a + 1 + b ≡ a + suc b
    row_is a b = omega arith

-- a row number is drawn
module _ (state : TableState) (me : Me) (values : List Value) (table : IsTable state) where
  abbrev draft : Stored
  draft = draft_of me (state.store.drawn + 1) (Some values)

  abbrev mine : Placing
  mine = record { session = me.session; version = length state.store.versions + 1; kind = First }

  abbrev more : List Stored
  more = state.store.versions ++ draft ∷ []

  same_placed : placed_from 1 state.placings more ≡ placed_from 1 state.placings state.store.versions
  same_placed =
      placed_same 1 state.placings state.store.versions more
      (λ i p is.
      let f = table.named (suc i) p is in
      inr (nth_before state.store.versions draft f.stored p.version f.is ∙ sym f.is))

  draft_there : stored_of more (length state.store.versions + 1) ≡ Some draft
  draft_there =
      let e : length state.store.versions + 1 ≡ suc (length state.store.versions) = omega arith in
      ap (stored_of more) e ∙ nth_behind state.store.versions draft

  -- the row that is drawn
  abbrev waits : ℕ → PlacedRow
  waits row = record { row = row; me = me; values = values }

  row_drawn_is : 1 + length state.placings ≡ next_row (table_shown state)
  row_drawn_is =
      let c = table.count in let l = length_rows 1 state.store.drawn state.store.versions in omega (arith, c, l)

  pub placed_shown : table_shown (row_placed_in state me values) ≡ row_placed (table_shown state) me values
  placed_shown =
      ap₂ (λ rows placed. view_of rows placed (locks_of_row_added state.locks))
      (rows_placed state.store me values (λ number stored is. (table.within number stored is).1))
      (placed_more 1 state.placings mine more
      ∙ ap₂ (λ xs ys. xs ++ ys) same_placed
      (ap (λ o. cons_option (option_and_then (waiting_row (1 + length state.placings) mine) o) []) draft_there
      ∙ ap (λ row. waits row ∷ []) row_drawn_is))

-- what waits under a number no longer does
placed_settled : (first : ℕ) (placings : List Placing) (versions more : List Stored) (i : ℕ) (p : Placing) → slice_get placings i ≡ Some p →
    placed_under more (first + i) p ≡ None →
    ((j : ℕ) (q : Placing) → j ≢ i → slice_get placings j ≡ Some q → stored_of more q.version ≡ stored_of versions q.version) →
    placed_beside (placed_from first placings versions) (first + i) ≡ placed_from first placings more
placed_settled first [] versions more i p is none same = absurd (cc is)
placed_settled first (q ∷ qs) versions more zero p is none same =
    let row : first + zero ≡ first = omega arith in
    let e : q ≡ p = cc is in
    let gone : placed_under more first q ≡ None = ap₂ (λ r x. placed_under more r x) (sym row) e ∙ none in
    rw (row, gone) (at (placed_under versions first q) refl)
  where
    behind : placed_beside (placed_from (first + 1) qs versions) first ≡ placed_from (first + 1) qs more
    behind =
        placed_none (placed_from (first + 1) qs versions) first (placed_less (first + 1) qs versions first (omega arith))
        ∙ sym (placed_same (first + 1) qs versions more (λ j x there. inr (same (suc j) x (λ e. cc e) there)))

    at : (o : Option PlacedRow) → placed_under versions first q ≡ o →
        placed_beside (cons_option o (placed_from (first + 1) qs versions)) first ≡ placed_from (first + 1) qs more
    at None there = behind
    at (Some x) there = rw (eq-eqb x.row first (under versions first q x there).row_is) behind
placed_settled first (q ∷ qs) versions more (suc i) p is none same =
    ap (λ o. placed_beside (cons_option o (placed_from (first + 1) qs versions)) (first + suc i)) (sym same_first)
    ∙ at
    (ap (placed_beside (placed_from (first + 1) qs versions)) (sym row)
    ∙ placed_settled (first + 1) qs versions more i p is (ap (λ r. placed_under more r p) row ∙ none)
    (λ j x apart there. same (suc j) x (λ e. apart (suc_same e)) there))
    (placed_under more first q) same_first
  where
    row : first + 1 + i ≡ first + suc i
    row = omega arith

    same_first : placed_under more first q ≡ placed_under versions first q
    same_first = ap (λ o. of_kind First q.kind (option_and_then (waiting_row first q) o)) (same 0 q (λ e. cc e) refl)

    suc_same : {a b : ℕ} → suc a ≡ suc b → a ≡ b
    suc_same e = omega (arith, e)

    at : placed_beside (placed_from (first + 1) qs versions) (first + suc i) ≡ placed_from (first + 1) qs more →
        (o : Option PlacedRow) → o ≡ placed_under versions first q →
        placed_beside (cons_option o (placed_from (first + 1) qs versions)) (first + suc i) ≡ cons_option o (placed_from (first + 1) qs more)
    at behind None there = behind
    at behind (Some x) there =
        let e = (under versions first q x (sym there)).row_is in
        rw (ne_eqb x.row (first + suc i) (λ f. omega (arith, e, f))) (ap (λ xs. x ∷ xs) behind)

-- what waits has values, and is a draft under its number
pub waiting_values : (kind : DraftKind) (state : TableState) (i number : ℕ) → IsTable state → (w : IsWaiting kind state i number) →
    (values : List Value) × ((w.stored.version.values ≡ Some values) ×
    (draft_under state.store.versions (suc i) w.placing
    ≡ Some (record { row = suc i; me = record { session = w.placing.session; xact = w.stored.version.writer; command = w.stored.version.command }; values = values })))
waiting_values kind state i number table w =
    let f = table.named (suc i) w.placing w.at_row in
    let same : f.stored ≡ w.stored = cc (f.is, w.is, w.version) in
    let values_are : w.stored.version.values ≡ Some f.values = ap (λ s. s.version.values) (sym same) ∙ f.values_are in (
      f.values,
      (
        values_are,
        ap (λ o. option_and_then (waiting_row (suc i) w.placing) o) (ap (stored_of state.store.versions) w.version ∙ w.is)
            ∙ shown_as (suc i) w.placing w.stored f.values w.state_is values_are,
      ),
    )
  where
    shown_as : (row : ℕ) (p : Placing) (stored : Stored) (values : List Value) → stored.state ≡ Placed → stored.version.values ≡ Some values →
        waiting_row row p stored ≡ Some (record { row = row; me = record { session = p.session; xact = stored.version.writer; command = stored.version.command }; values = values })
    shown_as row p stored values placed are = rw (placed, are) refl

-- what is placed is shown
pub waiting_shown : (state : TableState) (i number : ℕ) → IsTable state → (w : IsWaiting First state i number) →
    (values : List Value) × ((w.stored.version.values ≡ Some values) ×
    (placed_at (table_shown state).placed (suc i)
    ≡ Some (record { row = suc i; me = record { session = w.placing.session; xact = w.stored.version.writer; command = w.stored.version.command }; values = values })))
waiting_shown state i number table w =
    let v = waiting_values First state i number table w in (
      v.0,
      (
        v.1.0,
        ap (placed_at (table_shown state).placed) (one_more i)
            ∙ (placed_lookup 1 state.placings state.store.versions i
            ∙ (ap (λ o. option_and_then (placed_under state.store.versions (1 + i)) o) w.at_row
            ∙ (ap (λ n. placed_under state.store.versions n w.placing) (sym (one_more i))
            ∙ (ap (λ kind. of_kind First kind (draft_under state.store.versions (suc i) w.placing)) w.kind_is ∙ v.1.1)))),
      ),
    )
  where
    one_more : (i : ℕ) → suc i ≡ 1 + i
    one_more i = omega arith

-- what waits under a number is settled
module _ (kind : DraftKind) (state : TableState) (i number : ℕ) (table : IsTable state) (w : IsWaiting kind state i number) where
  pub settled_row : w.stored.row ≡ suc i
  settled_row =
      let f = table.named (suc i) w.placing w.at_row in
      let same : f.stored ≡ w.stored = cc (f.is, w.is, w.version) in
      ap (λ s. s.row) (sym same) ∙ f.row_is

  abbrev settled_versions : List Stored
  settled_versions = (with_version_state state.store number Settled).versions

  -- it is one of the row's versions
  pub settled_rows : rows_of (with_version_state state.store number Settled) ≡ row_stored (rows_of state.store) (suc i) w.stored.version
  settled_rows =
      rows_attached_at state.store number w.stored table.within w.is w.state_is (stands_last state number w.stored table w.is w.state_is)
      ∙ ap (λ r. row_stored (rows_of state.store) r w.stored.version) settled_row

  -- it waits no more
  pub settled_gone : placed_under settled_versions (1 + i) w.placing ≡ None
  settled_gone =
      kind_none First w.placing.kind (draft_under settled_versions (1 + i) w.placing)
      (ap (λ o. option_and_then (waiting_row (1 + i) w.placing) o)
      (ap (stored_of settled_versions) w.version ∙ (changed_here (in_state Settled) state.store.versions number ∙ ap (λ o. option_map (in_state Settled) o) w.is)))

  -- what waits under other numbers stays
  pub settled_others : (j : ℕ) (q : Placing) → j ≢ i → slice_get state.placings j ≡ Some q → stored_of settled_versions q.version ≡ stored_of state.store.versions q.version
  settled_others j q apart there =
      changed_other (in_state Settled) state.store.versions number q.version
      (λ e.
      let f = table.named (suc j) q there in
      let same : f.stored ≡ w.stored = cc (f.is, w.is, e) in
      let rows : suc j ≡ suc i = sym f.row_is ∙ (ap (λ s. s.row) same ∙ settled_row) in
      apart (omega (arith, rows)))

-- where no draft is placed, nothing is
pub nothing_placed : (state : TableState) (row : ℕ) → waiting_number state row ≡ None → placed_at (table_shown state).placed row ≡ None
nothing_placed state zero none = placed_less 1 state.placings state.store.versions 0 (omega arith)
nothing_placed state (suc i) none =
    ap (placed_at (table_shown state).placed) (one_more i)
    ∙ (placed_lookup 1 state.placings state.store.versions i ∙ at (slice_get state.placings i) none)
  where
    one_more : (i : ℕ) → suc i ≡ 1 + i
    one_more i = omega arith

    by_stored : (p : Placing) (o : Option Stored) → option_and_then (λ stored. cond (is_placed stored.state) (Some p.version) None) o ≡ None →
        option_and_then (waiting_row (1 + i) p) o ≡ None
    by_stored p None none = refl
    by_stored p (Some stored) none = by_state stored.state refl none
      where
        by_state : (s : State) → stored.state ≡ s → cond (is_placed s) (Some p.version) None ≡ None → waiting_row (1 + i) p stored ≡ None
        by_state Placed s e = absurd (cc e)
        by_state Settled s e = rw s refl
        by_state Dead s e = rw s refl

    by_kind : (p : Placing) (kind : DraftKind) → of_kind First kind (waiting_version state.store.versions p) ≡ None →
        of_kind First kind (draft_under state.store.versions (1 + i) p) ≡ None
    by_kind p First none = by_stored p (stored_of state.store.versions p.version) none
    by_kind p Next none = refl

    at : (o : Option Placing) → option_and_then (λ placing. of_kind First placing.kind (waiting_version state.store.versions placing)) o ≡ None →
        option_and_then (placed_under state.store.versions (1 + i)) o ≡ None
    at None none = refl
    at (Some p) none = by_kind p p.kind none

-- what is placed under a number is settled
module _ (state : TableState) (me : Me) (table : IsTable state) where
  something : (i number : ℕ) → IsWaiting First state i number → IsPlacedBy state me (suc i) →
      table_shown (version_settled_in state (Some number)) ≡ row_inserted (table_shown state) me (suc i)
  something i number w mine =
      ap₂ (λ rows placed. view_of rows placed state.locks)
      (settled_rows First state i number table w ∙ ap (λ v. row_stored (rows_of state.store) (suc i) v) version_is)
      beside
      ∙ ap (placed_stored (table_shown state) me (suc i)) (sym shown.1.1)
    where
      shown : (values : List Value) × ((w.stored.version.values ≡ Some values) ×
          (placed_at (table_shown state).placed (suc i)
          ≡ Some (record { row = suc i; me = record { session = w.placing.session; xact = w.stored.version.writer; command = w.stored.version.command }; values = values })))
      shown = waiting_shown state i number table w

      me_is : record { session = w.placing.session; xact = w.stored.version.writer; command = w.stored.version.command } ≡ me
      me_is = mine (record { row = suc i; me = record { session = w.placing.session; xact = w.stored.version.writer; command = w.stored.version.command }; values = shown.0 }) shown.1.1

      version_is : w.stored.version ≡ version_by me shown.0
      version_is =
          ap (λ v. record w.stored.version { values = v }) shown.1.0
          ∙ ap (λ m. version_by m shown.0) me_is

      one_more : (i : ℕ) → suc i ≡ 1 + i
      one_more i = omega arith

      beside : placed_from 1 state.placings (with_version_state state.store number Settled).versions ≡ placed_beside (table_shown state).placed (suc i)
      beside =
          sym
          (placed_settled 1 state.placings state.store.versions (with_version_state state.store number Settled).versions i w.placing w.at_row
          (settled_gone First state i number table w) (settled_others First state i number table w))
          ∙ ap (placed_beside (table_shown state).placed) (sym (one_more i))

  pub inserted_shown : (row : ℕ) → IsPlacedBy state me row → table_shown (row_inserted_in state row) ≡ row_inserted (table_shown state) me row
  inserted_shown row mine = at row (waiting_number state row) refl mine
    where
      at : (row : ℕ) (o : Option ℕ) → waiting_number state row ≡ o → IsPlacedBy state me row →
          table_shown (version_settled_in state o) ≡ row_inserted (table_shown state) me row
      at row None none mine = ap (placed_stored (table_shown state) me row) (sym (nothing_placed state row none))
      at zero (Some number) is mine = absurd (cc is)
      at (suc i) (Some number) is mine = something i number (waiting_at First state i number is) mine
