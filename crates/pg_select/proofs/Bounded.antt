-- Before the first step of a SELECT, and how many quiet steps there are at most.
use Rattle.std.proofs.Common.{◌≡◌, ◌≤◌, ◌+◌, ◌*◌, ℕ, List, Option, Some, None, length, refl, ap, subst, ◌∙◌, arith}
use Rattle.std.specs.Prelude.{IfSome}
use Rattle.std.proofs.lemmas.List.{length-map}
use Rattle.pg_xacts.specs.declared.me.Me.{Me}
use Rattle.pg_xacts.specs.Snapshots.{SnapshotView, WasTakenOf}
use Rattle.pg_xacts.specs.Transactions.{Transactions}
use Rattle.pg_model.specs.declared.statement.Select.{Select}
use Rattle.pg_world.specs.declared.session.Running.{Running}
use Rattle.pg_table.specs.States.{TableState}
use Rattle.pg_scans.proofs.Bounds.{first_reading, left_bounded}
use Rattle.pg_scans.specs.Readings.{ReadingView, pieces_left}
use Rattle.pg_select.specs.Steps.{IsReadingFor, IsSelecting, SelectView, new_select, quiet_left, quiet_steps, tables_of}

pub begins : (select : Select) (tables : List TableState) (transactions : Transactions) (me : Me) (snapshot : SnapshotView) →
    WasTakenOf transactions snapshot → IsSelecting select tables transactions (new_select select me snapshot)
begins select tables transactions me snapshot taken =
    record { tables_are = refl; collected = first_reading tables transactions me snapshot (tables_of select) taken; begun = refl }

module _ (most : ℕ) (select : Select) (tables : List TableState) (transactions : Transactions) where
  few : (running : Running) (o : Option ReadingView) → IfSome o (IsReadingFor select tables transactions running) →
      quiet_steps most o ≤ 1 + length select.sources * (1 + most)
  few running None is = omega arith
  few running (Some reading) is =
      let h = left_bounded most reading in
      let e : length reading.tables ≡ length select.sources = ap length is.tables_are ∙ length-map _ _ in
      subst (λ n. 1 + pieces_left most reading ≤ 1 + n * (1 + most)) e (omega (arith, h))

  pub bounded : (machine : SelectView) → IsSelecting select tables transactions machine →
      quiet_left most machine ≤ 1 + length select.sources * (1 + most)
  bounded machine is = few machine.running machine.reading is
