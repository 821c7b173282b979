-- What a table answers a statement that wishes to lock a row.
use Rattle.std.proofs.Common.{◌≡◌, ◌≢◌, ◌<◌, ◌≤◌, ◌&&◌, ℕ, zero, suc, Bool, true, false, nat_eq, List, [], Option, Some, None, IfSome, is_none, is_some, length, not, option_map, option_and_then, unwrap_or, refl, ap, sym, ◌∙◌, arith, eq-eqb, ne_eqb}
use Rattle.std.proofs.lemmas.Option.{slice_get_past}
use Rattle.pg_values.specs.declared.value.Value.{Value}
use Rattle.pg_multi.specs.declared.strength.Strength.{Strength}
use Rattle.pg_multi.specs.Locks.{blocker}
use Rattle.pg_xacts.specs.declared.me.Me.{Me}
use Rattle.pg_xacts.specs.Transactions.{Transactions, beginner_of}
use Rattle.pg_heap.specs.Current.{current_values, newest}
use Rattle.pg_heap.specs.Rows.{values_of}
use Rattle.pg_heap.specs.declared.version.Version.{Version}
use Rattle.pg_rows.specs.Stores.{HasValues, Stored, current_number, is_current_for, is_version_of, last_accepted, newest_number, passes, row_in, version_of}
use Rattle.pg_rows.proofs.Numbers.{last_passes}
use Rattle.pg_rows.proofs.Read.{read_accepted, read_last, read_values}
use Rattle.pg_world.specs.Changes.{is_of_command, row_at}
use Rattle.pg_locks.specs.Locks.{locks_at}
use Rattle.pg_table.specs.declared.hold.Hold.TheVariants.{Gone}
use Rattle.pg_table.specs.Holds.{hold_answer, hold_by}
use Rattle.pg_table.specs.States.{TableState, table_shown}
use Rattle.pg_table.proofs.Order.{row_there}

-- the row of a number that was drawn
pub row_at_is : (state : TableState) (row : ℕ) → 0 < row → row ≤ state.store.drawn → row_at (table_shown state) row ≡ row_in state.store.versions row
row_at_is state row first within = ap (λ o. unwrap_or o (record { number = row; versions = [] })) (row_there state.store row first within)

-- whether the newest version is of a command
pub own_none : (state : TableState) (me : Me) (row : ℕ) → 0 < row → row ≤ state.store.drawn → None ≡ newest_number state.store.versions row →
    false ≡ is_of_command me (newest (row_at (table_shown state) row))
own_none state me row first within is =
    sym
    (ap (λ r. is_of_command me (newest r)) (row_at_is state row first within)
    ∙ ap (is_of_command me) (sym (read_last (is_version_of row) state.store.versions) ∙ ap (λ o. option_and_then (version_of state.store.versions) o) (sym is)))

own_some : (state : TableState) (me : Me) (row number : ℕ) (version : Version) → 0 < row → row ≤ state.store.drawn →
    Some number ≡ newest_number state.store.versions row → version_of state.store.versions number ≡ Some version →
    is_of_command me (newest (row_at (table_shown state) row)) ≡ (nat_eq version.writer me.xact && nat_eq version.command me.command)
own_some state me row number version first within is there =
    ap (λ r. is_of_command me (newest r)) (row_at_is state row first within)
    ∙ ap (is_of_command me) (sym (read_last (is_version_of row) state.store.versions) ∙ (ap (λ o. option_and_then (version_of state.store.versions) o) (sym is) ∙ there))

module _ (state : TableState) (me : Me) (row number : ℕ) (version : Version) (first : 0 < row) (within : row ≤ state.store.drawn)
    (is : Some number ≡ newest_number state.store.versions row) (there : version_of state.store.versions number ≡ Some version) where
  pub own_writer : version.writer ≡ me.xact → nat_eq version.command me.command ≡ is_of_command me (newest (row_at (table_shown state) row))
  own_writer same =
      sym
      (own_some state me row number version first within is there
      ∙ ap (λ b. b && nat_eq version.command me.command) (eq-eqb version.writer me.xact same))

  pub other_writer : version.writer ≢ me.xact → nat_eq version.writer me.xact ≡ is_of_command me (newest (row_at (table_shown state) row))
  other_writer apart =
      let other = ne_eqb version.writer me.xact apart in
      other
      ∙ sym
      (own_some state me row number version first within is there
      ∙ ap (λ b. b && nat_eq version.command me.command) other)

-- a newest version was drawn
pub newest_drawn : (versions : List Stored) (row number : ℕ) → Some number ≡ newest_number versions row → (0 < number) × (number ≤ length versions)
newest_drawn versions row number is = (last_passes (passes (is_version_of row) versions) (length versions) number (sym is)).1

-- whether the row is gone
current_read : (state : TableState) (transactions : Transactions) (xact row : ℕ) → 0 < row → row ≤ state.store.drawn →
    current_values transactions xact (row_at (table_shown state) row)
    ≡ option_and_then (λ n. values_of (version_of state.store.versions n)) (current_number transactions xact state.store.versions row)
current_read state transactions xact row first within =
    ap (current_values transactions xact) (row_at_is state row first within)
    ∙ sym
    (read_values state.store.versions (last_accepted (is_current_for transactions xact) state.store.versions row)
    ∙ ap values_of (read_accepted (is_current_for transactions xact) state.store.versions row))

pub current_none : (state : TableState) (transactions : Transactions) (xact row : ℕ) → 0 < row → row ≤ state.store.drawn →
    (o : Option ℕ) → o ≡ current_number transactions xact state.store.versions row → IfSome o (HasValues state.store.versions) → (b : Bool) → is_some o ≡ not b →
    is_none (current_values transactions xact (row_at (table_shown state) row)) ≡ b
current_none state transactions xact row first within o is has b some =
    ap (λ v. is_none v) (current_read state transactions xact row first within ∙ ap (λ n. option_and_then (λ n. values_of (version_of state.store.versions n)) n) (sym is))
    ∙ at o b has some
  where
    there : (v : Option (List Value)) → is_some v ≡ true → is_none v ≡ false
    there None has = absurd (cc has)
    there (Some values) has = refl

    at : (o : Option ℕ) (b : Bool) → IfSome o (HasValues state.store.versions) → is_some o ≡ not b →
        is_none (option_and_then (λ n. values_of (version_of state.store.versions n)) o) ≡ b
    at None true has some = refl
    at None false has some = absurd (cc some)
    at (Some number) true has some = absurd (cc some)
    at (Some number) false has some = there (values_of (version_of state.store.versions number)) has

-- who was never begun has no beginner
pub never_begun : (transactions : Transactions) (xact : ℕ) → length transactions.list < xact → beginner_of transactions xact ≡ None
never_begun transactions zero gt = refl
never_begun transactions (suc before) gt =
    ap (λ o. option_map (λ transaction. transaction.session) o) (slice_get_past transactions.list before (omega (arith, gt)))

-- the answers
module _ (state : TableState) (transactions : Transactions) (me : Me) (row : ℕ) (strength : Strength) where
  pub answer_gone : is_of_command me (newest (row_at (table_shown state) row)) ≡ false →
      is_none (current_values transactions me.xact (row_at (table_shown state) row)) ≡ true →
      hold_answer (table_shown state) transactions me row strength ≡ Gone
  answer_gone own gone = rw (own, gone) refl

  pub answer_by : (other : Option ℕ) → is_of_command me (newest (row_at (table_shown state) row)) ≡ false →
      is_none (current_values transactions me.xact (row_at (table_shown state) row)) ≡ false →
      other ≡ blocker (locks_at state.locks row) me.xact strength → hold_answer (table_shown state) transactions me row strength ≡ hold_by transactions other
  answer_by other own gone is = rw (own, gone) (ap (hold_by transactions) (sym is))
