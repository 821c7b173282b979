-- What an entry of a session leaves to the open statements of the others: one pass over the kinds of
-- entries.
use Rattle.std.proofs.Common.{◌≡◌, ℕ, List, Option, Some, slice_get, refl, ap}
use Rattle.pg_values.specs.declared.value.Value.{Value}
use Rattle.pg_multi.specs.declared.strength.Strength.{Strength}
use Rattle.pg_model.specs.declared.journal.Entry.{Entry}
use Rattle.pg_model.specs.declared.journal.EntryAct.{EntryAct}
use Rattle.pg_model.specs.declared.journal.EntryAct.TheVariants as entry
use Rattle.pg_model.specs.declared.script.Script.{Script}
use Rattle.pg_world.specs.Candidates.{seen_rows}
use Rattle.pg_world.specs.declared.session.SessionView.{SessionView}
use Rattle.pg_world.specs.declared.session.Stage.TheVariants.{Locked as locked, Placed as placed}
use Rattle.pg_world.specs.Tables.{row_changed, row_inserted, row_locked, row_placed, version_by}
use Rattle.pg_world.specs.Worlds.{World}
use Rattle.pg_relation.specs.Effect.{with_changed_row, with_locked_row, me_in, with_placed_row, with_inserted_row, proposed_in, act_effect, effect}
use Rattle.pg_relation.specs.Lines.{statement_at}
use Rattle.pg_relation.specs.Moves.{IsPermitted}
use Rattle.pg_relation.specs.Needs.{IsAtStage, IsLockedFor, Needs}
use Rattle.pg_relation.proofs.Needs.{move_of}
use Rattle.pg_relation.proofs.Seen.{among_running, numbered_changed, table_changed, table_inserted, table_placed, unseen_by_other}
use Rattle.pg_relation.proofs.Sound.{length_changed}
use Rattle.pg_relation.proofs.Spares.{Holds, IsStable, Spares, not_owner, spares_commit, spares_rollback_of, spares_same, spares_tables}
use Rattle.pg_relation.proofs.Stable.{open_at, spares_opened}

module _ (script : Script) (world : World) (number : ℕ) (session : SessionView) (is : slice_get world.sessions number ≡ Some session) (stable : IsStable script world) where
  own_holds : Holds script world number session
  own_holds = stable.each number session is

  -- what each kind of entry leaves to the others
  spares_placed : (table row : ℕ) → Spares world (with_placed_row world number session table row) number
  spares_placed table row =
      spares_tables world number _ _ (length_changed _ world.tables table)
      (λ commits me owner few by apart t.
      numbered_changed (seen_rows world.transactions commits me) (λ view. row_placed view (me_in session.progress) (proposed_in session.progress))
      (λ view. table_placed commits me world.transactions view (me_in session.progress) (proposed_in session.progress)) world.tables table t)

  spares_inserted : (table row : ℕ) → IsAtStage world (statement_at script number session) session (placed row) (entry.Inserted table row) →
      Spares world (with_inserted_row world number session table row) number
  spares_inserted table row s =
      let runs = own_holds.owner s.opened.running.me.xact (open_at script world number session is stable (placed row) (entry.Inserted table row) s) in
      let mine = ap me_in s.opened.inside_is in
      spares_tables world number _ _ (length_changed _ world.tables table)
      (λ commits me owner few by apart t.
      numbered_changed (seen_rows world.transactions commits me) (λ view. row_inserted view (me_in session.progress) row)
      (λ view. table_inserted commits me world.transactions view (me_in session.progress) row
      (λ values. rw mine (unseen_by_other commits me world.transactions s.opened.running.me.xact
      (among_running commits world.transactions s.opened.running.me.xact runs.0)
      (λ e. not_owner world s.opened.running.me.xact me.xact owner number runs.1 by apart e)
      (version_by s.opened.running.me values) refl))) world.tables table t)

  spares_locked : (table row : ℕ) (strength : Strength) → Spares world (with_locked_row world number session table row strength) number
  spares_locked table row strength =
      spares_tables world number _ _ (length_changed _ world.tables table)
      (λ commits me owner few by apart t.
      numbered_changed (seen_rows world.transactions commits me) (λ view. row_locked view (me_in session.progress).xact row strength)
      (λ view. refl) world.tables table t)

  spares_changed : (act : EntryAct) (table row : ℕ) (values : Option (List Value)) →
      IsLockedFor world (statement_at script number session) session act →
      Spares world (with_changed_row world number session table row values) number
  spares_changed act table row values s =
      let runs = own_holds.owner s.1.opened.running.me.xact (open_at script world number session is stable (locked s.0) act s.1) in
      let mine = ap me_in s.1.opened.inside_is in
      spares_tables world number _ _ (length_changed _ world.tables table)
      (λ commits me owner few by apart t.
      numbered_changed (seen_rows world.transactions commits me) (λ view. row_changed view (me_in session.progress) row values)
      (λ view. table_changed commits me world.transactions view (me_in session.progress) row values
      (rw mine (unseen_by_other commits me world.transactions s.1.opened.running.me.xact
      (among_running commits world.transactions s.1.opened.running.me.xact runs.0)
      (λ e. not_owner world s.1.opened.running.me.xact me.xact owner number runs.1 by apart e)
      (record { values = values; writer = s.1.opened.running.me.xact; command = s.1.opened.running.me.command }) refl))) world.tables table t)

  spares_act : (act : EntryAct) → Needs script world number (statement_at script number session) session act →
      Spares world (act_effect world number (statement_at script number session) session act) number
  spares_act (entry.Snapped commits) needs = spares_opened script world number session is stable session.transaction _
  spares_act (entry.Found candidate) needs = spares_same world number _ _
  spares_act (entry.Placed table row) needs = spares_placed table row
  spares_act (entry.Inserted table row) needs = spares_inserted table row needs
  spares_act (entry.Locked table row strength) needs = spares_locked table row strength
  spares_act (entry.Updated table row) needs = spares_changed (entry.Updated table row) table row _ needs
  spares_act (entry.Deleted table row) needs = spares_changed (entry.Deleted table row) table row _ needs
  spares_act entry.Passed needs = spares_same world number _ _
  spares_act (entry.Waits other) needs = spares_same world number _ _
  spares_act entry.Committed needs =
      let own = own_holds.owner needs.0.0 needs.0.1 in
      rw needs.0.1 (spares_commit world number needs.0.0 own.0 own.1 _)
  spares_act entry.RolledBack needs = spares_rollback_of world number session.transaction _ own_holds.owner
  spares_act (entry.Replied reply) needs = spares_same world number _ _
  spares_act (entry.Failed error) needs = spares_rollback_of world number session.transaction _ own_holds.owner
  spares_act entry.Closed needs = spares_rollback_of world number session.transaction _ own_holds.owner

-- what an entry leaves to the others, in a world that a legal journal leaves
pub spares_entry : (script : Script) (world : World) (entry : Entry) → IsStable script world →
    IsPermitted script world entry → Spares world (effect script world entry) entry.session
spares_entry script world entry stable move =
    let m = move_of script world entry move in
    rw m.is (spares_act script world entry.session m.session m.is stable entry.act m.needs)
