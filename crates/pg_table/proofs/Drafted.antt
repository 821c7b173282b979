-- What holds of a table is kept where new values of a row are staged, and where a row is erased.
use Rattle.std.proofs.Common.{◌≡◌, ◌≢◌, ◌<◌, ◌≤◌, ◌+◌, ◌++◌, ◌⊎◌, inl, inr, ℕ, zero, suc, List, [], ◌∷◌, Option, Some, None, length, option_map, slice_get, slice_set, refl, ap, sym, ◌∙◌, arith}
use Rattle.std.specs.Option.{option_map_or}
use Rattle.std.proofs.lemmas.Bool.{cases_eq}
use Rattle.pg_values.specs.declared.value.Value.{Value}
use Rattle.pg_xacts.specs.declared.me.Me.{Me}
use Rattle.pg_xacts.proofs.Lists.{length_changed_from_one}
use Rattle.pg_lists.specs.Numbered.{nth_item, with_changed_nth_item}
use Rattle.pg_heap.specs.declared.slot.State.TheVariants.{Placed, Settled}
use Rattle.pg_heap.proofs.Lists.{changed_here, changed_other, get_behind}
use Rattle.pg_rows.specs.Stores.{HasNoDraft, Stored, draft_of, stored_of}
use Rattle.pg_table.specs.declared.placing.DraftKind.TheVariants.{Next}
use Rattle.pg_table.specs.declared.placing.Placing.{Placing}
use Rattle.pg_table.specs.States.{IsDrawnFor, IsTable, TableState, row_erased_in, row_staged_in}
use Rattle.pg_table.proofs.Kept.{last_more, nth_before, nth_behind, nth_case}

-- an item that was drawn is there
pub nth_there : {X : Type 0} (xs : List X) (m : ℕ) → 0 < m → m ≤ length xs → (x : X) × (nth_item xs m ≡ Some x)
nth_there xs zero first within = absurd (omega (arith, first))
nth_there xs (suc before) first within = at xs before (omega (arith, within))
  where
    at : {X : Type 0} (xs : List X) (i : ℕ) → i < length xs → (x : X) × (slice_get xs i ≡ Some x)
    at [] i lt = absurd (omega (arith, lt))
    at (x ∷ xs) zero lt = (x, refl)
    at (x ∷ xs) (suc i) lt = at xs i (omega (arith, lt))

-- the last item is changed
pub last_changed : {X : Type 0} (change : X → X) (xs : List X) (x : X) →
    with_changed_nth_item change (xs ++ x ∷ []) (length xs + 1) ≡ xs ++ change x ∷ []
last_changed change xs x =
    ap (with_changed_nth_item change (xs ++ x ∷ [])) (next (length xs))
    ∙ (ap (λ o. option_map_or (λ y. slice_set (xs ++ x ∷ []) (length xs) (change y)) o (xs ++ x ∷ [])) (get_behind xs x)
    ∙ set_behind xs x (change x))
  where
    next : (n : ℕ) → n + 1 ≡ suc n
    next n = omega arith

    set_behind : {X : Type 0} (xs : List X) (x y : X) → slice_set (xs ++ x ∷ []) (length xs) y ≡ xs ++ y ∷ []
    set_behind [] x y = refl
    set_behind (z ∷ zs) x y = ap (λ ws. z ∷ ws) (set_behind zs x y)

-- one version more, of a row that was drawn and of which no draft waits
module _ (state : TableState) (new : Stored) (table : IsTable state) (drawn : (0 < new.row) × (new.row ≤ state.store.drawn))
    (free : HasNoDraft state.store.versions new.row) where
  abbrev grown : List Stored
  grown = state.store.versions ++ new ∷ []

  within_more : (number : ℕ) (stored : Stored) → stored_of grown number ≡ Some stored → (0 < stored.row) × (stored.row ≤ state.store.drawn)
  within_more number stored is = at (nth_case state.store.versions new stored number is)
    where
      at : (stored_of state.store.versions number ≡ Some stored) ⊎ ((number ≡ suc (length state.store.versions)) × (stored ≡ new)) →
          (0 < stored.row) × (stored.row ≤ state.store.drawn)
      at (inl old) = table.within number stored old
      at (inr it) = rw it.1 drawn

  named_more : (row : ℕ) (placing : Placing) → nth_item state.placings row ≡ Some placing → IsDrawnFor grown row placing.version
  named_more row placing is =
      let f = table.named row placing is in
      record {
        stored = f.stored;
        values = f.values;
        is = nth_before state.store.versions new f.stored placing.version f.is;
        row_is = f.row_is;
        values_are = f.values_are;
      }

  -- one that is no draft
  pub table_grown : new.state ≢ Placed → IsTable (record state { store = record state.store { versions = grown } })
  table_grown settled = record {
    count = table.count;
    locked = table.locked;
    within = within_more;
    named = named_more;
    waits = λ number stored is placed. waits number stored (nth_case state.store.versions new stored number is) placed;
    last = last_more state.store.versions new table.last free;
  }
    where
      waits : (number : ℕ) (stored : Stored) →
          (stored_of state.store.versions number ≡ Some stored) ⊎ ((number ≡ suc (length state.store.versions)) × (stored ≡ new)) →
          stored.state ≡ Placed → option_map (λ p. p.version) (nth_item state.placings stored.row) ≡ Some number
      waits number stored (inl old) placed = table.waits number stored old placed
      waits number stored (inr it) placed = absurd (settled (ap (λ s. s.state) (sym it.1) ∙ placed))

-- the row's newest version says that it is gone
pub erased_is : (state : TableState) (me : Me) (row : ℕ) →
    row_erased_in state me row
    ≡ record state { store = record state.store { versions = state.store.versions ++ record (draft_of me row None) { state = Settled } ∷ [] } }
erased_is state me row =
    ap (λ versions. record state { store = record state.store { versions = versions } })
    (last_changed (λ stored. record stored { state = Settled }) state.store.versions (draft_of me row None))

pub table_erased : (state : TableState) (me : Me) (row : ℕ) → IsTable state → (0 < row) × (row ≤ state.store.drawn) →
    HasNoDraft state.store.versions row → IsTable (row_erased_in state me row)
table_erased state me row table drawn free =
    rw (erased_is state me row)
    (table_grown state (record (draft_of me row None) { state = Settled }) table drawn free (λ e. cc e))

-- new values are staged
module _ (state : TableState) (me : Me) (row : ℕ) (values : List Value) (table : IsTable state) (drawn : (0 < row) × (row ≤ state.store.drawn))
    (free : HasNoDraft state.store.versions row) where
  abbrev draft : Stored
  draft = draft_of me row (Some values)

  abbrev mine : Placing
  mine = record { session = me.session; version = length state.store.versions + 1; kind = Next }

  abbrev named_by : Placing → Placing
  named_by placing = mine

  version_next : length state.store.versions + 1 ≡ suc (length state.store.versions)
  version_next = omega arith

  pub table_staged : IsTable (row_staged_in state me row values)
  table_staged = record {
    count = length_changed_from_one named_by state.placings row ∙ table.count;
    locked = table.locked;
    within = within_more state draft table drawn free;
    named = λ r placing is. named r placing (cases_eq r row) is;
    waits = λ number stored is placed. waits number stored (nth_case state.store.versions draft stored number is) placed;
    last = last_more state.store.versions draft table.last free;
  }
    where
      own : (r : ℕ) (placing : Placing) → r ≡ row → mine ≡ placing → IsDrawnFor (state.store.versions ++ draft ∷ []) r placing.version
      own r placing here same = record {
        stored = draft;
        values = values;
        is = ap (λ p. stored_of (state.store.versions ++ draft ∷ []) p.version) (sym same)
            ∙ (ap (stored_of (state.store.versions ++ draft ∷ [])) version_next ∙ nth_behind state.store.versions draft);
        row_is = sym here;
        values_are = refl;
      }

      named : (r : ℕ) (placing : Placing) → (r ≡ row) ⊎ (r ≡ row → ⊥) →
          nth_item (with_changed_nth_item named_by state.placings row) r ≡ Some placing →
          IsDrawnFor (state.store.versions ++ draft ∷ []) r placing.version
      named r placing (inl here) is = by (nth_item state.placings row) (sym (changed_here named_by state.placings row) ∙ (ap (nth_item (with_changed_nth_item named_by state.placings row)) (sym here) ∙ is))
        where
          by : (o : Option Placing) → option_map named_by o ≡ Some placing → IsDrawnFor (state.store.versions ++ draft ∷ []) r placing.version
          by None e = absurd (cc e)
          by (Some p) e = own r placing here (cc e)
      named r placing (inr apart) is =
          named_more state draft table drawn free r placing (sym (changed_other named_by state.placings row r apart) ∙ is)

      waits : (number : ℕ) (stored : Stored) →
          (stored_of state.store.versions number ≡ Some stored) ⊎ ((number ≡ suc (length state.store.versions)) × (stored ≡ draft)) →
          stored.state ≡ Placed →
          option_map (λ p. p.version) (nth_item (with_changed_nth_item named_by state.placings row) stored.row) ≡ Some number
      waits number stored (inl old) placed =
          ap (λ o. option_map (λ p. p.version) o) (changed_other named_by state.placings row stored.row (λ e. free number stored old e placed))
          ∙ table.waits number stored old placed
      waits number stored (inr new) placed =
          let there = nth_there state.placings row drawn.0 (let c = table.count in let le = drawn.1 in omega (arith, c, le)) in
          ap (λ s. option_map (λ p. p.version) (nth_item (with_changed_nth_item named_by state.placings row) s.row)) new.1
          ∙ (ap (λ o. option_map (λ p. p.version) o) (changed_here named_by state.placings row)
          ∙ (ap (λ o. option_map (λ p. p.version) (option_map named_by o)) there.1 ∙ ap Some (version_next ∙ sym new.0)))
