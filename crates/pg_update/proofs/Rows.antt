-- The rows of the tables by number, as a statement locks and changes them.
use Rattle.std.proofs.Common.{◌≡◌, ◌<◌, ℕ, zero, suc, true, List, [], Option, Some, None, is_none, map, option_map, unwrap_or, refl, ap, sym, ◌∙◌, arith}
use Rattle.std.proofs.lemmas.Option.{slice_get-map}
use Rattle.pg_lists.specs.Numbered.{item_at, with_changed_item}
use Rattle.pg_lists.proofs.Lists.{slice_set_same}
use Rattle.pg_multi.specs.declared.strength.Strength.{Strength}
use Rattle.pg_values.specs.declared.value.Value.{Value}
use Rattle.pg_xacts.specs.declared.me.Me.{Me}
use Rattle.pg_xacts.specs.declared.on.On.{On}
use Rattle.pg_xacts.specs.Transactions.{Transactions}
use Rattle.pg_heap.specs.Current.{current, current_values}
use Rattle.pg_heap.specs.declared.row.Row.{Row}
use Rattle.pg_heap.specs.declared.version.Version.{Version}
use Rattle.pg_rows.proofs.Rows.{rows_past}
use Rattle.pg_world.specs.Changes.{current_name, name_of, row_at, table_at}
use Rattle.pg_world.specs.Tables.{empty_table}
use Rattle.pg_world.specs.declared.table.TableView.{TableView}
use Rattle.pg_table.specs.declared.hold.Hold.{Hold}
use Rattle.pg_table.specs.declared.hold.Hold.TheVariants.{Blocked, Gone}
use Rattle.pg_table.specs.Holds.{current_there, hold_answer, state_after_hold, unless_gone}
use Rattle.pg_table.specs.States.{TableState, table_shown}

-- the table of a number, as it is shown
abbrev shown_by : Option TableState → TableView
shown_by found = unwrap_or (option_map table_shown found) empty_table

pub shown_at : (tables : List TableState) (number : ℕ) (found : Option TableState) → item_at tables number ≡ found →
    table_at (map table_shown tables) number ≡ shown_by found
shown_at tables number found is = ap (λ o. unwrap_or o empty_table) (slice_get-map table_shown tables number ∙ ap (λ o. option_map table_shown o) is)

-- a row that is gone since it was not drawn
abbrev pub undrawn : ℕ → Row
undrawn row = record { number = row; versions = [] }

row_of_none : (row : ℕ) → row_at empty_table row ≡ undrawn row
row_of_none zero = refl
row_of_none (suc before) = refl

row_past : (state : TableState) (row : ℕ) → state.store.drawn < row → row_at (table_shown state) row ≡ undrawn row
row_past state zero gt = absurd (omega (arith, gt))
row_past state (suc before) gt =
    ap (λ o. unwrap_or o (undrawn (suc before))) (rows_past 1 state.store.drawn state.store.versions before (omega (arith, gt)))

module _ (tables : List TableState) (number row : ℕ) where
  pub no_table : item_at tables number ≡ None → row_at (table_at (map table_shown tables) number) row ≡ undrawn row
  no_table is = ap (λ t. row_at t row) (shown_at tables number None is) ∙ row_of_none row

  pub no_row : (state : TableState) → item_at tables number ≡ Some state → state.store.drawn < row →
      row_at (table_at (map table_shown tables) number) row ≡ undrawn row
  no_row state is past = ap (λ t. row_at t row) (shown_at tables number (Some state) is) ∙ row_past state row past

  pub first_row : row ≡ 0 → row_at (table_at (map table_shown tables) number) row ≡ undrawn row
  first_row is = rw is refl

  -- what comes of it
  pub none_current : (transactions : Transactions) (xact : ℕ) → row_at (table_at (map table_shown tables) number) row ≡ undrawn row →
      None ≡ current_there transactions xact (row_at (table_at (map table_shown tables) number) row)
  none_current transactions xact is = rw is refl

  pub answer_gone : (transactions : Transactions) (me : Me) (strength : Strength) →
      row_at (table_at (map table_shown tables) number) row ≡ undrawn row →
      Gone ≡ hold_answer (table_at (map table_shown tables) number) transactions me row strength
  answer_gone transactions me strength is = rw is refl

-- the tables where nothing is changed
pub unchanged : (tables : List TableState) (number : ℕ) (found : Option TableState) → item_at tables number ≡ found →
    tables ≡ with_changed_item (λ state. state) tables number
unchanged tables number None is = rw is refl
unchanged tables number (Some state) is = rw is (sym (slice_set_same tables number state is))

-- so they stay where another transaction is waited for
pub blocked_leaves : (tables after : List TableState) (number xact row : ℕ) (strength : Strength) (answer : Hold) (on : On) → answer ≡ Blocked on →
    after ≡ with_changed_item (λ state. state_after_hold answer state xact row strength) tables number → after ≡ tables
blocked_leaves tables after number xact row strength answer on is left =
    left ∙ ap left_by is ∙ sym (unchanged tables number (item_at tables number) refl)
  where
    left_by : Hold → List TableState
    left_by hold = with_changed_item (λ state. state_after_hold hold state xact row strength) tables number

-- the name of the version that is current
module _ (transactions : Transactions) (xact : ℕ) (row : Row) where
  pub there_current : (version : Version) → current_there transactions xact row ≡ Some version → current transactions xact row ≡ Some version
  there_current version is = at (current transactions xact row) refl is
    where
      same : (one : Version) (values : Option (List Value)) → option_map (λ values. one) values ≡ Some version → one ≡ version
      same one None is = absurd (cc is)
      same one (Some values) is = cc is

      at : (o : Option Version) → current transactions xact row ≡ o → unless_gone o ≡ Some version → current transactions xact row ≡ Some version
      at None is there = absurd (cc there)
      at (Some one) is there = is ∙ ap (λ v. Some v) (same one one.values there)

  pub name_current : (version : Version) → Some version ≡ current_there transactions xact row → name_of version ≡ current_name transactions xact row
  name_current version is = rw (there_current version (sym is)) refl

  pub none_there : None ≡ current_there transactions xact row → is_none (current_values transactions xact row) ≡ true
  none_there is = at (current transactions xact row) refl (sym is)
    where
      none : (one : Version) (values : Option (List Value)) → option_map (λ values. one) values ≡ None → is_none values ≡ true
      none one None is = refl
      none one (Some values) is = absurd (cc is)

      at : (o : Option Version) → current transactions xact row ≡ o → unless_gone o ≡ None → is_none (current_values transactions xact row) ≡ true
      at None is there = rw is refl
      at (Some one) is there = rw is (none one one.values there)
