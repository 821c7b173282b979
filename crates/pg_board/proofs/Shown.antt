-- What is done to the tables of a server is done to the tables of the world.
use Rattle.std.proofs.Common.{◌≡◌, ℕ, zero, suc, List, [], ◌∷◌, map, Option, Some, None, refl, ap, sym, ◌∙◌}
use Rattle.std.specs.Prelude.{option_map}
use Rattle.std.specs.Option.{option_map_or}
use Rattle.std.proofs.lemmas.Option.{slice_get-map}
use Rattle.pg_lists.specs.Numbered.{item_at, with_changed_item, with_item}
use Rattle.pg_world.specs.declared.table.TableView.{TableView}
use Rattle.pg_world.specs.Tables.{TransactionEnd, commit, empty_table, rollback, table_after_end}
use Rattle.pg_table.specs.States.{TableState, empty_state, state_ended, state_undone, table_shown}
use Rattle.pg_table.proofs.Gone.{ended_shown, undone_shown}
use Rattle.pg_board.specs.Shown.{tables_shown}

-- a table of a number
pub shown_at : (tables : List TableState) (number : ℕ) → item_at (tables_shown tables) number ≡ option_map table_shown (item_at tables number)
shown_at tables number = slice_get-map table_shown tables number

-- one table otherwise
shown_set : (tables : List TableState) (number : ℕ) (state : TableState) →
    tables_shown (with_item tables number state) ≡ with_item (tables_shown tables) number (table_shown state)
shown_set [] number state = refl
shown_set (one ∷ tables) zero state = refl
shown_set (one ∷ tables) (suc number) state = ap (λ views. table_shown one ∷ views) (shown_set tables number state)

pub shown_changed : (change : TableView → TableView) (tables : List TableState) (number : ℕ) (state after : TableState) →
    item_at tables number ≡ Some state → table_shown after ≡ change (table_shown state) →
    tables_shown (with_item tables number after) ≡ with_changed_item change (tables_shown tables) number
shown_changed change tables number state after there is =
    shown_set tables number after
    ∙ (ap (λ view. with_item (tables_shown tables) number view) is
    ∙ sym (ap (λ o. option_map_or (λ view. with_item (tables_shown tables) number (change view)) o (tables_shown tables))
    (shown_at tables number ∙ ap (λ o. option_map table_shown o) there)))

pub shown_kept : (change : TableView → TableView) (tables : List TableState) (number : ℕ) → item_at tables number ≡ None →
    tables_shown tables ≡ with_changed_item change (tables_shown tables) number
shown_kept change tables number none =
    sym (ap (λ o. option_map_or (λ view. with_item (tables_shown tables) number (change view)) o (tables_shown tables))
    (shown_at tables number ∙ ap (λ o. option_map table_shown o) none))

-- tables of which nothing was drawn
pub shown_empty : {X : Type 0} (xs : List X) → tables_shown (map (λ x. empty_state) xs) ≡ map (λ x. empty_table) xs
shown_empty [] = refl
shown_empty (x ∷ xs) = ap (λ views. empty_table ∷ views) (shown_empty xs)

-- all tables behind the end of a transaction
ended_with : (end : TransactionEnd) (xact : ℕ) (change : TableState → TableState) →
    ((state : TableState) → table_shown (change state) ≡ table_after_end xact end (table_shown state)) → (tables : List TableState) →
    tables_shown (map change tables) ≡ map (table_after_end xact end) (tables_shown tables)
ended_with end xact change same [] = refl
ended_with end xact change same (state ∷ tables) = rw (same state, ended_with end xact change same tables) refl

pub committed_in : (xact : ℕ) (tables : List TableState) →
    tables_shown (map (state_ended xact) tables) ≡ map (table_after_end xact commit) (tables_shown tables)
committed_in xact tables = ended_with commit xact (state_ended xact) (λ state. ended_shown state xact) tables

pub rolled_back_in : (xact : ℕ) (tables : List TableState) →
    tables_shown (map (state_undone xact) tables) ≡ map (table_after_end xact rollback) (tables_shown tables)
rolled_back_in xact tables = ended_with rollback xact (state_undone xact) (λ state. undone_shown state xact) tables

-- one table is changed, if there is one of that number
pub changed_in : (change : TableState → TableState) (view : TableView → TableView) (tables : List TableState) (number : ℕ) →
    ((state : TableState) → item_at tables number ≡ Some state → table_shown (change state) ≡ view (table_shown state)) →
    tables_shown (with_changed_item change tables number) ≡ with_changed_item view (tables_shown tables) number
changed_in change view tables number same = at (item_at tables number) refl
  where
    at : (one : Option TableState) → item_at tables number ≡ one →
        tables_shown (option_map_or (λ state. with_item tables number (change state)) one tables)
        ≡ with_changed_item view (tables_shown tables) number
    at None is = shown_kept view tables number is
    at (Some state) is = shown_changed view tables number state (change state) is (same state is)
