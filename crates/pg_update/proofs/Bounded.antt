-- Before the first step of an UPDATE or DELETE, and how many quiet steps there are at most before its
-- next entry.
use Rattle.std.proofs.Common.{◌≡◌, ◌≤◌, ◌+◌, ◌*◌, ℕ, suc, Bool, true, false, List, Option, Some, None, length, refl, ap, subst, ◌∙◌, arith}
use Rattle.std.specs.Prelude.{IfSome}
use Rattle.std.proofs.lemmas.List.{length-map}
use Rattle.pg_xacts.specs.declared.me.Me.{Me}
use Rattle.pg_xacts.specs.Snapshots.{SnapshotView, WasTakenOf}
use Rattle.pg_xacts.specs.Transactions.{Transactions}
use Rattle.pg_model.specs.declared.statement.Change.{Change}
use Rattle.pg_world.specs.Candidates.{table_of_source}
use Rattle.pg_world.specs.declared.session.Running.{Running}
use Rattle.pg_world.specs.declared.session.Stage.{Stage}
use Rattle.pg_world.specs.declared.session.Stage.TheVariants.{Between as between, Found as found, Locked as locked, Placed as placed}
use Rattle.pg_table.specs.States.{TableState}
use Rattle.pg_scans.proofs.Bounds.{first_reading, left_bounded}
use Rattle.pg_scans.specs.Readings.{ReadingView, pieces_left}
use Rattle.pg_update.specs.Steps.{ChangeView, IsChanging, IsReadingFor, new_change, quiet_left, reading_left, stagings_at, tables_of}

pub begins : (change : Change) (tables : List TableState) (transactions : Transactions) (me : Me) (snapshot : SnapshotView) →
    WasTakenOf transactions snapshot → IsChanging change tables transactions (new_change change me snapshot)
begins change tables transactions me snapshot taken =
    record { tables_are = refl; collected = first_reading tables transactions me snapshot (tables_of change) taken; begun = refl }

one_staging : (stage : Stage) (staged : Bool) → stagings_at stage staged ≤ 1
one_staging between staged = omega arith
one_staging found staged = omega arith
one_staging (locked name) true = omega arith
one_staging (locked name) false = omega arith
one_staging (placed row) staged = omega arith

module _ (most : ℕ) (change : Change) (tables : List TableState) (transactions : Transactions) where
  few : (running : Running) (o : Option ReadingView) → IfSome o (IsReadingFor change tables transactions running) →
      reading_left most o ≤ 1 + (1 + length change.sources) * (1 + most)
  few running None is = omega arith
  few running (Some reading) is =
      let h = left_bounded most reading in
      let counted = ap length is.tables_are ∙ ap suc (length-map change.sources table_of_source) in
      let e : length reading.tables ≡ 1 + length change.sources = omega (arith, counted) in
      subst (λ n. 1 + pieces_left most reading ≤ 1 + n * (1 + most)) e (omega (arith, h))

  pub bounded : (machine : ChangeView) → IsChanging change tables transactions machine →
      quiet_left most machine ≤ 2 + (1 + length change.sources) * (1 + most)
  bounded machine is =
      let reads = few machine.running machine.reading is in
      let stages = one_staging machine.running.stage machine.staged in
      omega (arith, reads, stages)
