-- A snapshot of the transactions as they stand, and one that was taken before they went on.
use Rattle.std.proofs.Common.{◌≡◌, ◌<◌, ◌≤◌, ◌+◌, ◌⊎◌, inl, inr, ℕ, zero, suc, true, false, [], ◌∷◌, Option, Some, None, nat_eq, nat_le, refl, sym, ◌∙◌, arith, le-leb, lt-ltb, le-ltb, length-append}
use Rattle.std.specs.Option.{option_map_or}
use Rattle.std.specs.List.{list_any}
use Rattle.std.proofs.lemmas.Bool.{cases_eq, lt-leb}
use Rattle.pg_xacts.specs.declared.transaction.XStatus.{XStatus}
use Rattle.pg_xacts.specs.declared.transaction.XStatus.TheVariants.{Running, Committed, RolledBack}
use Rattle.pg_xacts.specs.Transactions.{Transactions, ArePlaced, is_running, is_running_status, next_number, status_of, transaction_begun, transaction_committed, transaction_rolled_back, with_status}
use Rattle.pg_xacts.specs.Snapshots.{SnapshotView, WasTakenOf, had_ended, running_numbers, snapshot_of}
use Rattle.pg_xacts.proofs.Lists.{length_changed_from_one}
use Rattle.pg_xacts.proofs.Rising.{any_none}
use Rattle.pg_xacts.proofs.Transactions.{any_running, begun_within, none_below, status_begun, status_next, status_given, status_other}

-- the status of a running transaction
pub running_status : (transactions : Transactions) (number : ℕ) → is_running transactions number ≡ true →
    status_of transactions number ≡ Some Running
running_status transactions number runs = at (status_of transactions number) runs
  where
    at : (o : Option XStatus) → option_map_or is_running_status o false ≡ true → o ≡ Some Running
    at None is = absurd (cc is)
    at (Some Running) is = refl
    at (Some (Committed place)) is = absurd (cc is)
    at (Some RolledBack) is = absurd (cc is)

-- what a snapshot tells of a number that was not begun when it was taken
ended_late : (snapshot : SnapshotView) (number : ℕ) → snapshot.next ≤ number → had_ended snapshot number ≡ false
ended_late snapshot number late = rw (le-ltb number snapshot.next late) refl

-- a transaction is among those that run exactly where it runs
pub among_running : (transactions : Transactions) (number : ℕ) (status : XStatus) →
    status_of transactions number ≡ Some status →
    list_any (nat_eq number) (running_numbers transactions) ≡ is_running transactions number
among_running transactions zero status is = any_none (running_numbers transactions) 0 (none_below 1 0 transactions.list (omega arith))
among_running transactions (suc before) status is =
    any_running 1 (suc before) before transactions.list (omega arith)

-- a snapshot that is taken now
pub taken_now : (transactions : Transactions) → ArePlaced transactions → WasTakenOf transactions (snapshot_of transactions)
taken_now transactions placed = record {
  begun = omega arith;
  commits = omega arith;
  committed = λ number place is.
      let within = begun_within transactions number (Committed place) is in
      let among = among_running transactions number (Committed place) is in
      rw (lt-ltb number (next_number transactions) (omega (arith, within)), among, is, le-leb place transactions.commits (placed number place is)) refl;
  running = λ number is.
      let within = begun_within transactions number Running is in
      let among = among_running transactions number Running is in
      rw (lt-ltb number (next_number transactions) (omega (arith, within)), among, is) refl;
}

-- one more transaction is begun
pub taken_begun : (transactions : Transactions) (snapshot : SnapshotView) (session : ℕ) →
    WasTakenOf transactions snapshot → WasTakenOf (transaction_begun transactions session) snapshot
taken_begun transactions snapshot session taken = record {
  begun = let h = taken.begun in let l = length-append transactions.list (record { session = session; status = Running } ∷ []) in omega (arith, h, l);
  commits = taken.commits;
  committed = λ number place is. committed number place is (cases_eq number (next_number transactions));
  running = λ number is. running number is (cases_eq number (next_number transactions));
}
  where
    new : Transactions
    new = transaction_begun transactions session

    at_next : (number : ℕ) → number ≡ next_number transactions → had_ended snapshot number ≡ false
    at_next number e = ended_late snapshot number (let h = taken.begun in omega (arith, h, e))

    no_commit : (number place : ℕ) → status_of new number ≡ Some (Committed place) → number ≡ next_number transactions → ⊥
    no_commit number place is e = absurd (cc (is, e, status_next transactions session))

    committed : (number place : ℕ) → status_of new number ≡ Some (Committed place) →
        (number ≡ next_number transactions) ⊎ (number ≡ next_number transactions → ⊥) →
        had_ended snapshot number ≡ nat_le place snapshot.commits
    committed number place is (inl e) = absurd (no_commit number place is e)
    committed number place is (inr other) =
        taken.committed number place (sym (status_begun transactions session number other) ∙ is)

    running : (number : ℕ) → status_of new number ≡ Some Running →
        (number ≡ next_number transactions) ⊎ (number ≡ next_number transactions → ⊥) →
        had_ended snapshot number ≡ false
    running number is (inl e) = at_next number e
    running number is (inr other) = taken.running number (sym (status_begun transactions session number other) ∙ is)

-- a running transaction ends, and has a place behind those that the snapshot sees if it commits
module _ (transactions : Transactions) (snapshot : SnapshotView) (number : ℕ) (status : XStatus) (runs : is_running transactions number ≡ true) (taken : WasTakenOf transactions snapshot) where
  ended_after : (commits : ℕ) → transactions.commits ≤ commits → is_running_status status ≡ false →
      ((place : ℕ) → status ≡ Committed place → snapshot.commits < place) →
      WasTakenOf (record (with_status transactions number status) { commits = commits }) snapshot
  ended_after commits more stopped behind = record {
    begun =
        let h = taken.begun in
        let l = length_changed_from_one (λ transaction. record transaction { status = status }) transactions.list number in
        omega (arith, h, l);
    commits = let h = taken.commits in omega (arith, h, more);
    committed = λ other place is. committed other place is (cases_eq other number);
    running = λ other is. running other is (cases_eq other number);
  }
    where
      had_run : had_ended snapshot number ≡ false
      had_run = taken.running number (running_status transactions number runs)

      committed : (other place : ℕ) → status_of (with_status transactions number status) other ≡ Some (Committed place) →
          (other ≡ number) ⊎ (other ≡ number → ⊥) → had_ended snapshot other ≡ nat_le place snapshot.commits
      committed other place is (inl e) =
          let here = status_given transactions number status runs in
          let given : status ≡ Committed place = cc (is, e, here) in
          rw (e, lt-leb place snapshot.commits (behind place given)) had_run
      committed other place is (inr apart) =
          taken.committed other place (sym (status_other transactions number other status apart) ∙ is)

      running : (other : ℕ) → status_of (with_status transactions number status) other ≡ Some Running →
          (other ≡ number) ⊎ (other ≡ number → ⊥) → had_ended snapshot other ≡ false
      running other is (inl e) = rw e had_run
      running other is (inr apart) = taken.running other (sym (status_other transactions number other status apart) ∙ is)

-- it commits
pub taken_committed : (transactions : Transactions) (snapshot : SnapshotView) (number : ℕ) →
    is_running transactions number ≡ true → WasTakenOf transactions snapshot →
    WasTakenOf (transaction_committed transactions number) snapshot
taken_committed transactions snapshot number runs taken =
    ended_after transactions snapshot number (Committed (transactions.commits + 1)) runs taken
    (transactions.commits + 1) (omega arith) refl
    (λ place is. let e : transactions.commits + 1 ≡ place = cc is in let h = taken.commits in omega (arith, e, h))

-- it is rolled back
pub taken_rolled_back : (transactions : Transactions) (snapshot : SnapshotView) (number : ℕ) →
    is_running transactions number ≡ true → WasTakenOf transactions snapshot →
    WasTakenOf (transaction_rolled_back transactions number) snapshot
taken_rolled_back transactions snapshot number runs taken =
    ended_after transactions snapshot number RolledBack runs taken transactions.commits (omega arith) refl
    (λ place is. absurd (cc is))
