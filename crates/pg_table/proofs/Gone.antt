-- A transaction that ends in a table ends in the part of the world that it shows.
use Rattle.std.proofs.Common.{◌≡◌, ◌+◌, ℕ, Bool, true, false, cond, List, [], ◌∷◌, Option, Some, None, map, not, nat_eq, option_map, option_and_then, refl, ap, ap₂, ◌∙◌}
use Rattle.std.specs.Prelude.{◌==◌}
use Rattle.std.specs.List.{cons_option}
use Rattle.pg_heap.specs.Rows.{is_written_by}
use Rattle.pg_heap.specs.declared.slot.State.{State}
use Rattle.pg_heap.specs.declared.slot.State.TheVariants.{Dead, Placed, Settled}
use Rattle.pg_locks.specs.Locks.{locks_ended}
use Rattle.pg_rows.specs.Stores.{Stored, ended_version, stored_of, undone_version}
use Rattle.pg_rows.proofs.Rows.{rows_ended, rows_undone}
use Rattle.pg_world.specs.declared.placed.PlacedRow.{PlacedRow}
use Rattle.pg_world.specs.Tables.{commit, placed_by_others, rollback, table_after_end}
use Rattle.pg_table.specs.declared.placing.DraftKind.{DraftKind}
use Rattle.pg_table.specs.declared.placing.DraftKind.TheVariants.{First, Next}
use Rattle.pg_table.specs.declared.placing.Placing.{Placing}
use Rattle.pg_table.specs.States.{TableState, draft_under, of_kind, placed_from, placed_under, state_ended, state_undone, table_shown, waiting_row}
use Rattle.pg_table.proofs.Kept.{nth_map}
use Rattle.pg_table.proofs.Shown.{draft_is, view_of}

-- what a transaction has placed no longer waits
module _ (change : Stored → Stored) (xact : ℕ)
    (waits : (row : ℕ) (placing : Placing) (stored : Stored) →
    waiting_row row placing (change stored) ≡ cond (is_written_by xact stored.version) None (waiting_row row placing stored)) where
  placed_gone : (first : ℕ) (placings : List Placing) (versions : List Stored) →
      placed_from first placings (map change versions) ≡ placed_by_others (placed_from first placings versions) xact
  placed_gone first [] versions = refl
  placed_gone first (p ∷ ps) versions =
      ap₂ (λ o xs. cons_option o xs)
      (ap (λ o. of_kind First p.kind (option_and_then (waiting_row first p) o)) (nth_map change versions p.version))
      (placed_gone (first + 1) ps versions)
      ∙ by_kind p.kind refl
    where
      rest : List PlacedRow
      rest = placed_by_others (placed_from (first + 1) ps versions) xact

      by_writer : (stored : Stored) → stored_of versions p.version ≡ Some stored → (b : Bool) → is_written_by xact stored.version ≡ b → (o : Option PlacedRow) →
          draft_under versions first p ≡ o → cons_option (cond b None o) rest ≡ placed_by_others (cons_option o (placed_from (first + 1) ps versions)) xact
      by_writer stored is true by None there = refl
      by_writer stored is false by None there = refl
      by_writer stored is b by (Some x) there =
          let u = draft_is versions first p x there in
          let same : u.stored ≡ stored = cc (u.is, is) in
          let written : (x.me.xact == xact) ≡ b = ap (λ n. nat_eq n xact) (u.writer ∙ ap (λ s. s.version.writer) same) ∙ by in
          rw written (by_case b)
        where
          by_case : (b : Bool) → cons_option (cond b None (Some x)) rest ≡ cond (not b) (x ∷ rest) rest
          by_case true = refl
          by_case false = refl

      at : (o : Option Stored) → stored_of versions p.version ≡ o →
          cons_option (option_and_then (waiting_row first p) (option_map change o)) rest
          ≡ placed_by_others (cons_option (option_and_then (waiting_row first p) o) (placed_from (first + 1) ps versions)) xact
      at None is = refl
      at (Some stored) is =
          ap (λ o. cons_option o rest) (waits first p stored)
          ∙ by_writer stored is (is_written_by xact stored.version) refl (waiting_row first p stored)
          (ap (λ o. option_and_then (waiting_row first p) o) is)

      by_kind : (kind : DraftKind) → p.kind ≡ kind →
          cons_option (of_kind First p.kind (option_and_then (waiting_row first p) (option_map change (stored_of versions p.version)))) rest
          ≡ placed_by_others (cons_option (placed_under versions first p) (placed_from (first + 1) ps versions)) xact
      by_kind First is = rw is (at (stored_of versions p.version) refl)
      by_kind Next is = rw is refl

pub undone_waits : (xact row : ℕ) (placing : Placing) (stored : Stored) →
    waiting_row row placing (undone_version xact stored) ≡ cond (is_written_by xact stored.version) None (waiting_row row placing stored)
undone_waits xact row placing stored = at (is_written_by xact stored.version) refl
  where
    at : (b : Bool) → is_written_by xact stored.version ≡ b → waiting_row row placing (undone_version xact stored) ≡ cond b None (waiting_row row placing stored)
    at true by = rw by refl
    at false by = rw by refl

pub ended_waits : (xact row : ℕ) (placing : Placing) (stored : Stored) →
    waiting_row row placing (ended_version xact stored) ≡ cond (is_written_by xact stored.version) None (waiting_row row placing stored)
ended_waits xact row placing stored = at (is_written_by xact stored.version) stored.state refl refl
  where
    at : (b : Bool) (s : State) → is_written_by xact stored.version ≡ b → stored.state ≡ s →
        waiting_row row placing (ended_version xact stored) ≡ cond b None (waiting_row row placing stored)
    at true Placed by is = rw (by, is) refl
    at true Settled by is = rw (by, is) refl
    at true Dead by is = rw (by, is) refl
    at false s by is = rw by refl

pub undone_shown : (state : TableState) (xact : ℕ) → table_shown (state_undone xact state) ≡ table_after_end xact rollback (table_shown state)
undone_shown state xact =
    ap₂ (λ rows placed. view_of rows placed (locks_ended xact state.locks)) (rows_undone state.store xact) (placed_gone (undone_version xact) xact (undone_waits xact) 1 state.placings state.store.versions)

pub ended_shown : (state : TableState) (xact : ℕ) → table_shown (state_ended xact state) ≡ table_after_end xact commit (table_shown state)
ended_shown state xact =
    ap₂ (λ rows placed. view_of rows placed (locks_ended xact state.locks)) (rows_ended state.store xact) (placed_gone (ended_version xact) xact (ended_waits xact) 1 state.placings state.store.versions)
