-- What setup leaves of tables: what nothing was drawn in is so, and a row more keeps it.
use Rattle.std.proofs.Common.{◌≡◌, ◌+◌, ◌∷◌, ℕ, zero, suc, List, [], length, map, Option, Some, None, arith, refl, subst, ◌∙◌, length-append}
use Rattle.std.specs.Prelude.{IfOk, Result, Ok, Err}
use Rattle.pg_lists.specs.Numbered.{nth_item}
use Rattle.pg_values.specs.declared.value.Value.{Value}
use Rattle.pg_xacts.specs.declared.me.Me.{Me}
use Rattle.pg_xacts.proofs.Lists.{length_changed_from_one}
use Rattle.pg_heap.specs.declared.slot.State.TheVariants.{Settled}
use Rattle.pg_rows.specs.Stores.{Stored, draft_of, stored_of}
use Rattle.pg_table.specs.States.{IsTable, TableState, empty_state, row_added_in, row_placed_in, staged_at, version_settled_in, waiting_number}
use Rattle.pg_table.specs.declared.placing.DraftKind.TheVariants.{First}
use Rattle.pg_table.specs.declared.placing.Placing.{Placing}
use Rattle.pg_table.proofs.Kept.{table_placed, table_settled}
use Rattle.pg_table.proofs.Staged.{staged_inserted, staged_placed}
use Rattle.pg_board.specs.Loaded.{AreLoaded, IsLoaded}

empty_is : IsTable empty_state
empty_is = record {
  count = refl;
  locked = refl;
  within = λ number stored is. absurd (nothing number stored is);
  named = λ row placing is. absurd (none row placing is);
  waits = λ number stored is. absurd (nothing number stored is);
  last = λ draft other stored more is. absurd (nothing draft stored is);
}
  where
    nothing : (number : ℕ) (stored : Stored) → stored_of [] number ≡ Some stored → ⊥
    nothing zero stored is = cc is
    nothing (suc before) stored is = cc is

    none : (row : ℕ) (placing : Placing) → nth_item [] row ≡ Some placing → ⊥
    none zero placing is = cc is
    none (suc before) placing is = cc is

nothing_staged : (row : ℕ) → staged_at empty_state row ≡ None
nothing_staged zero = refl
nothing_staged (suc before) = refl

-- a table in which nothing was drawn
empty_one : IsLoaded empty_state
empty_one = record { table = empty_is; unstaged = nothing_staged; versions = refl }

pub empty_loaded : {X : Type 0} (xs : List X) → AreLoaded (map (λ x. empty_state) xs)
empty_loaded [] number state is = absurd (cc is)
empty_loaded (x ∷ xs) zero state is = subst (λ s. IsLoaded s) (let e : empty_state ≡ state = cc is in e) empty_one
empty_loaded (x ∷ xs) (suc number) state is = empty_loaded xs number state is

pub loaded_of : {X E : Type 0} (xs : List X) (result : Result (List TableState) E) → IfOk result (λ tables. tables ≡ map (λ x. empty_state) xs) →
    IfOk result AreLoaded
loaded_of xs (Ok tables) is = rw is (empty_loaded xs)
loaded_of xs (Err error) is = tt

-- a version that settles is no version more
settled_size : (state : TableState) (number : Option ℕ) →
    length (version_settled_in state number).store.versions ≡ length state.store.versions
settled_size state None = refl
settled_size state (Some number) =
    length_changed_from_one (λ (stored : Stored). record stored { state = Settled }) state.store.versions number

settled_drawn : (state : TableState) (number : Option ℕ) → (version_settled_in state number).store.drawn ≡ state.store.drawn
settled_drawn state None = refl
settled_drawn state (Some number) = refl

-- a row is added
pub added_loaded : (state : TableState) (me : Me) (values : List Value) → IsLoaded state → IsLoaded (row_added_in state me values)
added_loaded state me values is = record {
  table = table_settled First placed (state.store.drawn + 1) table;
  unstaged = λ row. staged_inserted placed (state.store.drawn + 1) row table ∙ (staged_placed state me values row is.table ∙ is.unstaged row);
  versions =
      let same = settled_size placed (waiting_number placed (state.store.drawn + 1)) in
      let drawn = settled_drawn placed (waiting_number placed (state.store.drawn + 1)) in
      let one = length-append state.store.versions (draft_of me (state.store.drawn + 1) (Some values) ∷ []) in
      let many = is.versions in
      omega (arith, same, drawn, one, many);
}
  where
    placed : TableState
    placed = row_placed_in state me values

    table : IsTable placed
    table = table_placed state me values is.table
