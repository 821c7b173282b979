-- What an entry of a session leaves to the open statements of the others.
use Rattle.std.proofs.Common.{◌≡◌, ◌≤◌, ◌+◌, ◌⊎◌, ℕ, zero, suc, Bool, true, false, List, [], ◌∷◌, length, Option, Some, None, slice_get, slice_set, refl, sym, ap, ◌∙◌, subst, inl, inr, arith, nat_le, leb-true}
use Rattle.std.specs.Prelude.{Ok}
use Rattle.std.proofs.Math.Nat.{suc_inj}
use Rattle.std.proofs.lemmas.List.{length-map}
use Rattle.pg_xacts.specs.declared.me.Me.{Me}
use Rattle.pg_xacts.specs.declared.on.On.{On}
use Rattle.pg_xacts.specs.declared.transaction.XStatus.TheVariants.{Running as IsRunning, Committed, RolledBack}
use Rattle.pg_xacts.specs.Transactions.{beginner_of, is_among_commits, is_status_among, status_of, transaction_begun}
use Rattle.pg_model.specs.declared.script.Script.{Script}
use Rattle.pg_model.specs.declared.statement.Statement.{Statement}
use Rattle.pg_world.specs.Candidates.{candidates_of, seen_of_table, seen_rows}
use Rattle.pg_world.specs.Choices.{choices}
use Rattle.pg_world.specs.declared.session.Running.{Running}
use Rattle.pg_world.specs.declared.session.SessionView.{SessionView}
use Rattle.pg_world.specs.declared.session.Progress.TheVariants.{Inside as inside}
use Rattle.pg_world.specs.declared.table.TableView.{TableView}
use Rattle.pg_world.specs.Tables.{commit, rollback, table_after_end}
use Rattle.pg_world.specs.Worlds.{World, transactions_after_end, with_end, with_end_of}
use Rattle.pg_relation.specs.Lines.{statement_at}
use Rattle.pg_relation.proofs.Seen.{among_begun, among_ended, among_running, numbered_mapped, numbered_same, rows_left, rows_same}
use Rattle.pg_relation.proofs.Owners.{beginner_begun, beginner_ended, candidates_same, choices_stay, running_begun, status_ended}

-- the session's open transaction runs, and is its own
abbrev pub IsOwner : World → ℕ → SessionView → Type 0
IsOwner world number session = (xact : ℕ) → session.transaction ≡ Some xact →
    (status_of world.transactions xact ≡ Some IsRunning) × (beginner_of world.transactions xact ≡ Some number)

-- an open statement: its transaction is its own, none of the commits that it sees, and open while
-- it is not done; and its candidates are those that reading again gives
pub record IsReading (script : Script) (world : World) (number : ℕ) (session : SessionView) (running : Running) : Type 0 where
  pub owned : beginner_of world.transactions running.me.xact ≡ Some number
  pub unseen : is_among_commits world.transactions running.snapshot running.me.xact ≡ false
  pub snapshot : running.snapshot ≤ world.transactions.commits
  pub opened : (session.transaction ≡ Some running.me.xact)
      ⊎ ((own : Statement) → statement_at script number session ≡ Some (Ok own) →
      choices own world.tables world.transactions running ≡ [])
  pub kept : (own : Statement) → statement_at script number session ≡ Some (Ok own) →
      candidates_of own world.tables world.transactions running.snapshot running.me ≡ running.candidates

pub record Holds (script : Script) (world : World) (number : ℕ) (session : SessionView) : Type 0 where
  pub owner : IsOwner world number session
  pub reading : (running : Running) → session.progress ≡ inside running → IsReading script world number session running

pub record IsStable (script : Script) (world : World) : Type 0 where
  pub each : (number : ℕ) (session : SessionView) → slice_get world.sessions number ≡ Some session → Holds script world number session

-- what an entry of a session leaves to the others
pub record Spares (world new : World) (number : ℕ) : Type 0 where
  pub tables : length new.tables ≡ length world.tables
  pub commits : world.transactions.commits ≤ new.transactions.commits
  pub begun : (xact owner : ℕ) → beginner_of world.transactions xact ≡ Some owner →
      beginner_of new.transactions xact ≡ Some owner
  pub running : (xact owner : ℕ) → beginner_of world.transactions xact ≡ Some owner → (owner ≡ number → ⊥) →
      status_of world.transactions xact ≡ Some IsRunning → status_of new.transactions xact ≡ Some IsRunning
  pub among : (commits xact : ℕ) → commits ≤ world.transactions.commits →
      is_among_commits new.transactions commits xact ≡ is_among_commits world.transactions commits xact
  pub seen : (commits : ℕ) (me : Me) (owner : ℕ) → commits ≤ world.transactions.commits →
      beginner_of world.transactions me.xact ≡ Some owner → (owner ≡ number → ⊥) → (table : ℕ) →
      seen_of_table new.tables new.transactions commits me table
      ≡ seen_of_table world.tables world.transactions commits me table

pub reading_spared : (script : Script) (world new : World) (number other : ℕ) (session : SessionView) (running : Running) →
    Spares world new number → (other ≡ number → ⊥) → IsReading script world other session running →
    IsReading script new other session running
reading_spared script world new number other session running spares apart reading = record {
  owned = spares.begun running.me.xact other reading.owned;
  unseen = spares.among running.snapshot running.me.xact reading.snapshot ∙ reading.unseen;
  snapshot = omega (arith, reading.snapshot, spares.commits);
  opened = at reading.opened;
  kept = λ own is.
      candidates_same own world.tables new.tables world.transactions new.transactions running.snapshot running.me
      (spares.seen running.snapshot running.me other reading.snapshot reading.owned apart) ∙ reading.kept own is;
}
  where
    at : ((session.transaction ≡ Some running.me.xact)
        ⊎ ((own : Statement) → statement_at script other session ≡ Some (Ok own) →
        choices own world.tables world.transactions running ≡ [])) →
        (session.transaction ≡ Some running.me.xact)
        ⊎ ((own : Statement) → statement_at script other session ≡ Some (Ok own) →
        choices own new.tables new.transactions running ≡ [])
    at (inl is) = inl is
    at (inr done) = inr (λ own is.
        choices_stay own world.tables new.tables world.transactions new.transactions running spares.tables (done own is))

pub holds_spared : (script : Script) (world new : World) (number other : ℕ) (session : SessionView) →
    Spares world new number → (other ≡ number → ⊥) → Holds script world other session → Holds script new other session
holds_spared script world new number other session spares apart holds = record {
  owner = λ xact is.
      let own = holds.owner xact is in (spares.running xact other own.1 apart own.0, spares.begun xact other own.1);
  reading = λ running is. reading_spared script world new number other session running spares apart (holds.reading running is);
}

-- what holds of each item but one, and of what is written there, holds of each behind it
pub each_set_other : {X : Type 0} (P : ℕ → X → Type 0) (xs : List X) (i : ℕ) (y : X) →
    ((j : ℕ) (z : X) → (j ≡ i → ⊥) → slice_get xs j ≡ Some z → P j z) → P i y →
    (j : ℕ) (z : X) → slice_get (slice_set xs i y) j ≡ Some z → P j z
each_set_other P [] i y each here j z is = absurd (cc is)
each_set_other P (x ∷ xs) zero y each here zero z is = let e : y ≡ z = cc is in subst (λ w. P zero w) e here
each_set_other P (x ∷ xs) zero y each here (suc j) z is = each (suc j) z (λ e. cc e) is
each_set_other P (x ∷ xs) (suc i) y each here zero z is = each zero z (λ e. cc e) is
each_set_other P (x ∷ xs) (suc i) y each here (suc j) z is =
    each_set_other (λ k w. P (suc k) w) xs i y (λ k w apart e. each (suc k) w (λ s. apart (suc_inj s)) e) here j z is

pub stable_step : (script : Script) (world new : World) (number : ℕ) (behind : SessionView) → IsStable script world →
    new.sessions ≡ slice_set world.sessions number behind → Spares world new number → Holds script new number behind →
    IsStable script new
stable_step script world new number behind stable sessions spares own = record {
  each = λ j z is.
      each_set_other (λ j z. Holds script new j z) world.sessions number behind
      (λ j z apart is. holds_spared script world new number j z spares apart (stable.each j z is)) own j z
      (subst (λ ss. slice_get ss j ≡ Some z) sessions is);
}

-- sessions are of different numbers where their transactions are
pub not_owner : (world : World) (xact other owner number : ℕ) → beginner_of world.transactions xact ≡ Some number →
    beginner_of world.transactions other ≡ Some owner → (owner ≡ number → ⊥) → xact ≡ other → ⊥
not_owner world xact other owner number mine theirs apart same =
    let both : Some owner ≡ Some number = sym theirs ∙ (ap (λ x. beginner_of world.transactions x) (sym same) ∙ mine) in
    apart (cc both)

-- an entry that leaves tables and transactions
pub spares_same : (world : World) (number : ℕ) (sessions : List SessionView) (waits : List (Option On)) →
    Spares world (record world { sessions = sessions; waits = waits }) number
spares_same world number sessions waits = record {
  tables = refl;
  commits = omega arith;
  begun = λ xact owner is. is;
  running = λ xact owner is apart runs. runs;
  among = λ commits xact few. refl;
  seen = λ commits me owner few is apart table. refl;
}

-- one that begins a transaction
pub spares_begun : (world : World) (number : ℕ) (sessions : List SessionView) →
    Spares world (record world { transactions = transaction_begun world.transactions number; sessions = sessions }) number
spares_begun world number sessions = record {
  tables = refl;
  commits = omega arith;
  begun = λ xact owner is. beginner_begun world.transactions number xact owner is;
  running = λ xact owner is apart runs. running_begun world.transactions number xact IsRunning runs;
  among = λ commits xact few. among_begun commits world.transactions number xact;
  seen = λ commits me owner few is apart table.
      numbered_same (seen_rows (transaction_begun world.transactions number) commits me) (seen_rows world.transactions commits me)
      (λ view. rows_same commits me world.transactions (transaction_begun world.transactions number)
      (λ xact. among_begun commits world.transactions number xact) view.rows) world.tables table;
}

-- one that changes tables without being seen
pub spares_tables : (world : World) (number : ℕ) (after : List TableView) (sessions : List SessionView) →
    length after ≡ length world.tables →
    ((commits : ℕ) (me : Me) (owner : ℕ) → commits ≤ world.transactions.commits →
    beginner_of world.transactions me.xact ≡ Some owner → (owner ≡ number → ⊥) → (table : ℕ) →
    seen_of_table after world.transactions commits me table ≡ seen_of_table world.tables world.transactions commits me table) →
    Spares world (record world { tables = after; sessions = sessions }) number
spares_tables world number after sessions same seen = record {
  tables = same;
  commits = omega arith;
  begun = λ xact owner is. is;
  running = λ xact owner is apart runs. runs;
  among = λ commits xact few. refl;
  seen = seen;
}

-- one that ends a transaction
pub after_commits : (commits place : ℕ) → commits ≤ place → is_status_among commits (Committed (place + 1)) ≡ false
after_commits commits place few = at (nat_le (place + 1) commits) refl
  where
    at : (b : Bool) → nat_le (place + 1) commits ≡ b → b ≡ false
    at true is = absurd (omega (arith, leb-true (place + 1) commits is, few))
    at false is = refl

module _ (world : World) (number xact : ℕ) (runs : status_of world.transactions xact ≡ Some IsRunning)
    (mine : beginner_of world.transactions xact ≡ Some number) where
  pub among_committed : (commits other : ℕ) → commits ≤ world.transactions.commits →
      is_among_commits (transactions_after_end world.transactions xact commit) commits other
      ≡ is_among_commits world.transactions commits other
  among_committed commits other few =
      among_ended commits world.transactions xact other (Committed (world.transactions.commits + 1)) runs
      (after_commits commits world.transactions.commits few)

  pub among_rolled_back : (commits other : ℕ) →
      is_among_commits (transactions_after_end world.transactions xact rollback) commits other
      ≡ is_among_commits world.transactions commits other
  among_rolled_back commits other = among_ended commits world.transactions xact other RolledBack runs refl

  -- a commit is seen by no snapshot that was taken before
  pub seen_committed : (commits : ℕ) (me : Me) → commits ≤ world.transactions.commits → (table : ℕ) →
      seen_of_table (with_end world number xact commit).tables (with_end world number xact commit).transactions commits me table
      ≡ seen_of_table world.tables world.transactions commits me table
  seen_committed commits me few table =
      numbered_mapped (seen_rows (with_end world number xact commit).transactions commits me) (seen_rows world.transactions commits me)
      (table_after_end xact commit)
      (λ view. rows_same commits me world.transactions (with_end world number xact commit).transactions
      (λ other. among_committed commits other few) view.rows) world.tables table

  pub spares_commit : (sessions : List SessionView) → Spares world (record (with_end world number xact commit) { sessions = sessions }) number
  spares_commit sessions = record {
    tables = length-map world.tables (table_after_end xact commit);
    commits = omega arith;
    begun = λ other owner is. beginner_ended world.transactions xact other (Committed (world.transactions.commits + 1)) ∙ is;
    running = λ other owner is apart so.
        status_ended world.transactions xact other (Committed (world.transactions.commits + 1))
        (λ e. not_owner world xact other owner number mine is apart (sym e)) ∙ so;
    among = λ commits other few. among_committed commits other few;
    seen = λ commits me owner few is apart table. seen_committed commits me few table;
  }

  pub spares_rollback : (sessions : List SessionView) → Spares world (record (with_end world number xact rollback) { sessions = sessions }) number
  spares_rollback sessions = record {
    tables = length-map world.tables (table_after_end xact rollback);
    commits = omega arith;
    begun = λ other owner is. beginner_ended world.transactions xact other RolledBack ∙ is;
    running = λ other owner is apart so.
        status_ended world.transactions xact other RolledBack
        (λ e. not_owner world xact other owner number mine is apart (sym e)) ∙ so;
    among = λ commits other few. among_rolled_back commits other;
    seen = λ commits me owner few is apart table.
        numbered_mapped (seen_rows (with_end world number xact rollback).transactions commits me) (seen_rows world.transactions commits me)
        (table_after_end xact rollback)
        (λ view. rows_left commits me world.transactions (with_end world number xact rollback).transactions xact
        (λ other. among_rolled_back commits other) (among_running commits world.transactions xact runs)
        (λ e. not_owner world xact me.xact owner number mine is apart e) view.rows) world.tables table;
  }

-- the open transaction of a session, where it has one, is rolled back
pub spares_rollback_of : (world : World) (number : ℕ) (transaction : Option ℕ) (sessions : List SessionView) →
    ((xact : ℕ) → transaction ≡ Some xact →
    (status_of world.transactions xact ≡ Some IsRunning) × (beginner_of world.transactions xact ≡ Some number)) →
    Spares world (record (with_end_of world number transaction rollback) { sessions = sessions }) number
spares_rollback_of world number None sessions owner = spares_same world number sessions world.waits
spares_rollback_of world number (Some xact) sessions owner =
    let own = owner xact refl in spares_rollback world number xact own.0 own.1 sessions
