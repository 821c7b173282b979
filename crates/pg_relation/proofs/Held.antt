-- No two sessions hold one row for an UPDATE or DELETE.
use Rattle.std.proofs.Common.{◌≡◌, ◌⊎◌, ℕ, true, false, List, [], Some, None, slice_get, sym, ap, ◌∙◌, subst, inl, inr}
use Rattle.std.specs.List.{last_or}
use Rattle.std.proofs.lemmas.Bool.{cases_eq}
use Rattle.pg_multi.specs.declared.row_lock.RowLock.{RowLock}
use Rattle.pg_multi.specs.declared.strength.Strength.TheVariants.{NoKeyUpdate}
use Rattle.pg_multi.specs.Locks.{AreCompatible}
use Rattle.pg_xacts.specs.Transactions.{beginner_of}
use Rattle.pg_heap.specs.declared.row.Row.{Row}
use Rattle.pg_heap.specs.Rows.{row_of}
use Rattle.pg_model.specs.declared.script.Script.{Script}
use Rattle.pg_world.specs.Changes.{partners_in, target_row}
use Rattle.pg_world.specs.declared.table.TableView.{TableView}
use Rattle.pg_world.specs.Tables.{locks_on}
use Rattle.pg_world.specs.Worlds.{World}
use Rattle.pg_relation.specs.Holds.{HoldsRow}
use Rattle.pg_relation.specs.Locking.{HoldsAtLeast, IsGuarded, IsHolding, Runs}
use Rattle.pg_relation.proofs.Holders.{change_conflicts}
use Rattle.pg_relation.proofs.Holding.{holds_change}
use Rattle.pg_relation.proofs.Locking.{runs_open}
use Rattle.pg_relation.proofs.LockingKept.{IsSteady}

-- two who hold a row for a change are one
pub one_holder : (locks : List RowLock) (one other : ℕ) → AreCompatible locks → HoldsAtLeast locks one NoKeyUpdate →
    HoldsAtLeast locks other NoKeyUpdate → one ≡ other
one_holder locks one other compatible holds also = at (cases_eq one other)
  where
    at : (one ≡ other) ⊎ (one ≡ other → ⊥) → one ≡ other
    at (inl same) = same
    at (inr apart) =
        let none = compatible one other holds.0 also.0 apart holds.1 also.1 in
        let e : false ≡ true = sym none ∙ change_conflicts holds.0 also.0 holds.2 also.2 in absurd (cc e)

-- what is known of a row that a transaction of a session holds for a change: it is one of its table, and
-- has a version
pub record IsHeldAt (world : World) (number table row xact : ℕ) : Type 0 where
  pub view : TableView
  pub view_is : slice_get world.tables table ≡ Some view
  pub one : Row
  pub one_is : row_of view.rows row ≡ Some one
  pub some : one.versions ≡ [] → ⊥
  pub guard : IsGuarded world.transactions row one (locks_on view row)
  pub holds : HoldsAtLeast (locks_on view row) xact NoKeyUpdate
  pub runs : Runs world.transactions xact
  pub owned : beginner_of world.transactions xact ≡ Some number

module _ (script : Script) (world : World) (steady : IsSteady script world) where
  pub holding_of : (number table row : ℕ) (held : HoldsRow script world number table row) →
      IsHolding world held.change held.running held.name
  holding_of number table row held =
      (steady.locking.sessions number held.session held.is).holding held.running held.change held.name held.inside_is
      held.statement_is held.stage_is

  pub held_at : (number table row : ℕ) (held : HoldsRow script world number table row) →
      IsHeldAt world number table row held.running.me.xact
  held_at number table row held =
      subst (λ t. IsHeldAt world number t row held.running.me.xact) held.table_is
      (subst (λ r. IsHeldAt world number held.change.target.table r held.running.me.xact) held.row_is here)
    where
      h : IsHolding world held.change held.running held.name
      h = holding_of number table row held

      here : IsHeldAt world number held.change.target.table (target_row (partners_in held.running)) held.running.me.xact
      here = record {
        view = h.table;
        view_is = h.table_is;
        one = h.row;
        one_is = h.row_is;
        some = λ empty.
            let e : None ≡ Some h.held.version = sym (ap (λ vs. last_or None vs) empty) ∙ h.held.newest_is in cc e;
        guard = (steady.locking.tables held.change.target.table h.table h.table_is).rows (target_row (partners_in held.running)) h.row h.row_is;
        holds = holds_change (locks_on h.table (target_row (partners_in held.running))) held.running.me.xact held.change.action h.held.holds;
        runs = runs_open script world number held.session held.is steady.stable steady.tidy steady.locking number held.session held.is
            held.running held.change held.name held.inside_is held.statement_is held.stage_is;
        owned = ((steady.stable.each number held.session held.is).reading held.running held.inside_is).owned;
      }

  pub held_differ : (one other table row : ℕ) → HoldsRow script world one table row → HoldsRow script world other table row →
      one ≡ other
  held_differ one other table row held also = at (held_at one table row held) (held_at other table row also)
    where
      at : IsHeldAt world one table row held.running.me.xact → IsHeldAt world other table row also.running.me.xact → one ≡ other
      at a b =
          let e : Some b.view ≡ Some a.view = sym b.view_is ∙ a.view_is in
          let f : b.view ≡ a.view = cc e in
          let same = one_holder (locks_on a.view row) held.running.me.xact also.running.me.xact a.guard.compatible a.holds
          (subst (λ v. HoldsAtLeast (locks_on v row) also.running.me.xact NoKeyUpdate) f b.holds) in
          let both : Some one ≡ Some other = sym a.owned ∙ (ap (λ x. beginner_of world.transactions x) same ∙ b.owned) in
          cc both
