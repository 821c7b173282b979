-- The same transactions stay among the commits that a snapshot sees.
use Rattle.std.proofs.Common.{◌≡◌, ◌≢◌, ◌+◌, ◌⊎◌, inl, inr, ℕ, true, false, None, length, refl, ap, sym, ◌∙◌, arith, ne_eqb, add-one}
use Rattle.std.specs.Option.{option_map_or}
use Rattle.std.specs.Prelude.{option_map}
use Rattle.std.proofs.lemmas.Bool.{cases_eq, lt-leb}
use Rattle.std.proofs.lemmas.Option.{slice_get_past}
use Rattle.pg_xacts.proofs.Snapshots.{running_status}
use Rattle.pg_xacts.proofs.Transactions.{status_begun, status_given, status_next, status_other}
use Rattle.pg_xacts.specs.declared.me.Me.{Me}
use Rattle.pg_xacts.specs.declared.transaction.XStatus.{XStatus}
use Rattle.pg_xacts.specs.declared.transaction.XStatus.TheVariants.{Committed, RolledBack}
use Rattle.pg_xacts.specs.Snapshots.{SnapshotView, WasTakenOf}
use Rattle.pg_xacts.specs.Transactions.{Transactions, is_among_commits, is_running, is_status_among, next_number, status_of, transaction_begun, transaction_committed, transaction_rolled_back, with_status}
use Rattle.pg_table.specs.Scanned.{IsUnseen, KeepCommits}

pub begun_kept : (transactions : Transactions) (commits session : ℕ) → KeepCommits commits transactions (transaction_begun transactions session)
begun_kept transactions commits session number = at (cases_eq number (next_number transactions))
  where
    unbegun : status_of transactions (next_number transactions) ≡ None
    unbegun =
        rw (add-one (length transactions.list))
        (ap (λ o. option_map (λ transaction. transaction.status) o) (slice_get_past transactions.list (length transactions.list) (omega arith)))

    at : (number ≡ next_number transactions) ⊎ (number ≡ next_number transactions → ⊥) →
        is_among_commits (transaction_begun transactions session) commits number ≡ is_among_commits transactions commits number
    at (inl e) =
        rw e
        (ap (λ o. option_map_or (is_status_among commits) o false) (status_next transactions session)
        ∙ sym (ap (λ o. option_map_or (is_status_among commits) o false) unbegun))
    at (inr apart) = ap (λ o. option_map_or (is_status_among commits) o false) (status_begun transactions session number apart)

-- one that runs is not among them
pub running_late : (transactions : Transactions) (commits number : ℕ) → is_running transactions number ≡ true → is_among_commits transactions commits number ≡ false
running_late transactions commits number runs = ap (λ o. option_map_or (is_status_among commits) o false) (running_status transactions number runs)

-- nor once it has a status that is not among them
pub ended_kept : (transactions : Transactions) (commits xact : ℕ) (status : XStatus) → is_running transactions xact ≡ true → is_status_among commits status ≡ false →
    KeepCommits commits transactions (with_status transactions xact status)
ended_kept transactions commits xact status runs none number = at (cases_eq number xact)
  where
    at : (number ≡ xact) ⊎ (number ≡ xact → ⊥) → is_among_commits (with_status transactions xact status) commits number ≡ is_among_commits transactions commits number
    at (inl e) =
        rw e
        (ap (λ o. option_map_or (is_status_among commits) o false) (status_given transactions xact status runs)
        ∙ (none ∙ sym (running_late transactions commits xact runs)))
    at (inr apart) = ap (λ o. option_map_or (is_status_among commits) o false) (status_other transactions xact number status apart)

pub committed_kept : (transactions : Transactions) (snapshot : SnapshotView) (xact : ℕ) → is_running transactions xact ≡ true →
    WasTakenOf transactions snapshot → KeepCommits snapshot.commits transactions (transaction_committed transactions xact)
committed_kept transactions snapshot xact runs taken number =
    let h = taken.commits in
    ended_kept transactions snapshot.commits xact (Committed (transactions.commits + 1)) runs
    (lt-leb (transactions.commits + 1) snapshot.commits (omega (arith, h))) number

pub rolled_back_kept : (transactions : Transactions) (commits xact : ℕ) → is_running transactions xact ≡ true →
    KeepCommits commits transactions (transaction_rolled_back transactions xact)
rolled_back_kept transactions commits xact runs = ended_kept transactions commits xact RolledBack runs refl

pub running_unseen : (transactions : Transactions) (commits : ℕ) (me : Me) (xact : ℕ) → is_running transactions xact ≡ true → xact ≢ me.xact →
    IsUnseen transactions commits me xact
running_unseen transactions commits me xact runs apart = record { other = ne_eqb xact me.xact apart; late = running_late transactions commits xact runs }
