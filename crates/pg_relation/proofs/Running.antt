-- What becomes of an open statement by one of its acts.
use Rattle.std.proofs.Common.{◌≡◌, ℕ, List, Option, Some, None, refl}
use Rattle.pg_multi.specs.declared.strength.Strength.{Strength}
use Rattle.pg_values.specs.declared.value.Value.{Value}
use Rattle.pg_xacts.specs.Transactions.{Transactions}
use Rattle.pg_model.specs.declared.journal.EntryAct.TheVariants as entry
use Rattle.pg_world.specs.Changes.{act_on}
use Rattle.pg_world.specs.declared.session.Progress.TheVariants.{Inside as inside}
use Rattle.pg_world.specs.declared.session.Running.{Running}
use Rattle.pg_world.specs.declared.session.SessionView.{SessionView}
use Rattle.pg_world.specs.declared.table.TableView.{TableView}
use Rattle.pg_world.specs.Worlds.{World}
use Rattle.pg_relation.specs.Effect.{me_in, session_after_act, with_running}
use Rattle.pg_relation.specs.Running.{current_in, running_acted, running_after_act, running_locked}

-- a candidate has had its act where its row is changed, with values or without
pub running_changed : (tables : List TableView) (transactions : Transactions) (table row : ℕ) (values : Option (List Value))
    (running : Running) → running_after_act tables transactions (act_on table row values) running ≡ running_acted running
running_changed tables transactions table row (Some values) running = refl
running_changed tables transactions table row None running = refl

-- a session inside a statement keeps the version that is current for its transaction, where it locks a row
pub session_locked : (world : World) (session : SessionView) (running : Running) (table row : ℕ) (strength : Strength) →
    session.progress ≡ inside running →
    session_after_act world session (entry.Locked table row strength)
    ≡ with_running (running_locked (current_in world.tables world.transactions table row (me_in session.progress).xact))
    session session.progress
session_locked world session running table row strength inside_is = rw inside_is refl
