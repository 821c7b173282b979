-- Who holds a lock runs, and who has to wait has its transaction open.
use Rattle.std.proofs.Common.{◌≡◌, ℕ, zero, suc, Contains, List, [], length, Option, None, Some, slice_get, refl, sym, ap, ◌∙◌, subst, arith}
use Rattle.std.specs.Prelude.{unwrap_or}
use Rattle.pg_lists.specs.Numbered.{nth_item}
use Rattle.pg_multi.specs.declared.row_lock.RowLock.{RowLock}
use Rattle.pg_multi.specs.declared.strength.Strength.{Strength}
use Rattle.pg_multi.specs.Locks.{blocker}
use Rattle.pg_multi.proofs.Blockers.{blocker_blocks}
use Rattle.pg_xacts.specs.Transactions.{Transactions}
use Rattle.pg_heap.specs.declared.row.Row.{Row}
use Rattle.pg_heap.specs.Rows.{row_of}
use Rattle.pg_model.specs.declared.journal.Entry.{Entry}
use Rattle.pg_model.specs.declared.script.Script.{Script}
use Rattle.pg_world.specs.Choosing.{waits}
use Rattle.pg_world.specs.declared.session.SessionView.{SessionView}
use Rattle.pg_world.specs.declared.table.TableView.{TableView}
use Rattle.pg_world.specs.Tables.{empty_table, locks_on}
use Rattle.pg_world.specs.Worlds.{World}
use Rattle.pg_relation.specs.Journals.{IsLegal, world_after}
use Rattle.pg_relation.specs.Lines.{statement_at}
use Rattle.pg_relation.specs.Locking.{IsGuarded, IsGuardedTable, Runs}
use Rattle.pg_relation.specs.Needs.{IsBlocked}
use Rattle.pg_relation.proofs.Blocked.{AreLocksRunning}
use Rattle.pg_relation.proofs.Lists.{contains_none, slice_get_none}
use Rattle.pg_relation.proofs.LockingKept.{steady_after}
use Rattle.pg_relation.proofs.LockingSteps.{IsLocking}
use Rattle.pg_relation.proofs.RowSteps.{past}
use Rattle.pg_relation.proofs.Stable.{going_open, stable_after}
use Rattle.pg_relation.proofs.There.{locks_there}

-- nobody holds a row that is not there
nobody_there : (lists : List (List RowLock)) (number xact holder : ℕ) (strength : Strength) → nth_item lists number ≡ None →
    blocker (unwrap_or (nth_item lists number) []) xact strength ≡ Some holder → ⊥
nobody_there lists number xact holder strength none held =
    let e : None ≡ Some holder = sym (ap (λ o. blocker (unwrap_or o []) xact strength) none) ∙ held in cc e

none_at : (number : ℕ) → nth_item {X = List RowLock} [] number ≡ None
none_at zero = refl
none_at (suc before) = refl

both_none : {X Y : Type 0} (xs : List X) (ys : List Y) (number : ℕ) → nth_item xs number ≡ None → length ys ≡ length xs →
    nth_item ys number ≡ None
both_none xs ys zero none same = refl
both_none xs ys (suc before) none same =
    past ys before (let most = slice_get_none xs before none in omega (arith, most, same))

-- who holds a row runs
holder_runs : (transactions : Transactions) (number : ℕ) (row : Row) (locks : List RowLock) (xact holder : ℕ) (strength : Strength) →
    IsGuarded transactions number row locks → blocker locks xact strength ≡ Some holder → Runs transactions holder
holder_runs transactions number row locks xact holder strength guarded held =
    let blocks = blocker_blocks locks xact strength holder guarded.ascending held in
    guarded.running holder blocks.1 blocks.2

pub locks_running : (script : Script) (world : World) → IsLocking script world → AreLocksRunning world
locks_running script world locking table row xact holder strength held = at (slice_get world.tables table) refl
  where
    in_table : (view : TableView) → IsGuardedTable world.transactions view → blocker (locks_on view row) xact strength ≡ Some holder →
        (o : Option Row) → row_of view.rows row ≡ o → Runs world.transactions holder
    in_table view guarded here None none =
        absurd (nobody_there view.locks row xact holder strength (both_none view.rows view.locks row none guarded.listed) here)
    in_table view guarded here (Some one) one_is =
        holder_runs world.transactions row one (locks_on view row) xact holder strength (guarded.rows row one one_is) here

    at : (o : Option TableView) → slice_get world.tables table ≡ o → Runs world.transactions holder
    at None none =
        absurd (nobody_there [] row xact holder strength (none_at row)
        (sym (ap (λ o. blocker (locks_on (unwrap_or o empty_table) row) xact strength) none) ∙ held))
    at (Some view) view_is =
        in_table view (locking.tables table view view_is)
        (sym (ap (λ ls. blocker ls xact strength) (locks_there world.tables table row view view_is)) ∙ held)
        (row_of view.rows row) refl

pub locks_after : (script : Script) (journal : List Entry) → IsLegal script journal → AreLocksRunning (world_after script journal)
locks_after script journal legal =
    locks_running script (world_after script journal) (steady_after script journal legal).locking

pub blocked_open : (script : Script) (journal : List Entry) (number other : ℕ) (session : SessionView) (cycle : Option (List ℕ)) →
    IsLegal script journal → slice_get (world_after script journal).sessions number ≡ Some session →
    (blocked : IsBlocked (world_after script journal) number (statement_at script number session) session other cycle) →
    session.transaction ≡ Some blocked.chosen.opened.running.me.xact
blocked_open script journal number other session cycle legal is blocked =
    going_open script (world_after script journal) number session blocked.chosen.opened.running blocked.chosen.opened.statement
    (((stable_after script journal legal).each number session is).reading blocked.chosen.opened.running blocked.chosen.opened.inside_is)
    blocked.chosen.opened.statement_is
    (λ none. contains_none (waits other) (subst (λ cs. Contains cs (waits other)) none blocked.chosen.contained))
