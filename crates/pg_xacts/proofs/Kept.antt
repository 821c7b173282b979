-- What is kept of the transactions and of the numbers of those that run.
use Rattle.std.proofs.Common.{◌≡◌, ◌<◌, ◌≤◌, ◌+◌, ◌-◌, ◌^◌, ◌++◌, ◌⊎◌, inl, inr, ℕ, zero, suc, true, false, not, List, [], ◌∷◌, Some, length, filter, nat_eq, refl, ap, sym, ◌∙◌, arith, length-append}
use Rattle.std.specs.List.{list_any}
use Rattle.std.proofs.lemmas.Bool.{cases_eq}
use Rattle.pg_xacts.specs.declared.transaction.XStatus.{XStatus}
use Rattle.pg_xacts.specs.declared.transaction.XStatus.TheVariants.{Running, Committed, RolledBack}
use Rattle.pg_xacts.specs.Transactions.{Transactions, is_running, is_running_status, next_number, status_of, transaction_begun, transaction_committed, transaction_rolled_back, with_status}
use Rattle.pg_xacts.specs.Snapshots.{running_numbers}
use Rattle.pg_xacts.specs.Kept.{AreKept}
use Rattle.pg_xacts.specs.Rising.{IsRising}
use Rattle.pg_xacts.proofs.Rising.{fewer, rising_lower}
use Rattle.pg_xacts.proofs.Lists.{length_changed_from_one}
use Rattle.pg_xacts.proofs.Transactions.{running_at, running_less, running_more, running_rises, status_begun, status_given, status_next, status_other}
use Rattle.pg_xacts.proofs.Snapshots.{among_running, running_status}

-- the numbers of those that run rise
pub kept_rises : (transactions : Transactions) (numbers : List ℕ) → AreKept transactions numbers → IsRising 0 numbers
kept_rises transactions numbers kept =
    rw kept.running (rising_lower 1 0 (running_numbers transactions) (omega arith) (running_rises 1 transactions.list))

-- one more transaction is begun
pub kept_begun : (transactions : Transactions) (numbers : List ℕ) (session number : ℕ) →
    AreKept transactions numbers → length transactions.list < 2 ^ 32 - 1 → number ≡ next_number transactions →
    AreKept (transaction_begun transactions session) (numbers ++ number ∷ [])
kept_begun transactions numbers session number kept room is = record {
  running =
      rw (kept.running, is)
      (ap (λ n. running_numbers transactions ++ n ∷ []) (omega arith)
      ∙ sym (running_more 1 transactions.list (record { session = session; status = Running }) refl));
  placed = λ other place there. placed other place there (cases_eq other (next_number transactions));
  counted =
      let h = kept.counted in
      let l = length-append transactions.list (record { session = session; status = Running } ∷ []) in
      let n = length-append numbers (number ∷ []) in omega (arith, h, l, n);
  bounded = let l = length-append transactions.list (record { session = session; status = Running } ∷ []) in omega (arith, l, room);
}
  where
    placed : (other place : ℕ) → status_of (transaction_begun transactions session) other ≡ Some (Committed place) →
        (other ≡ next_number transactions) ⊎ (other ≡ next_number transactions → ⊥) → place ≤ transactions.commits
    placed other place there (inl e) = absurd (cc (there, e, status_next transactions session))
    placed other place there (inr apart) =
        kept.placed other place (sym (status_begun transactions session other apart) ∙ there)

-- a running transaction is among those that run
pub kept_among : (transactions : Transactions) (numbers : List ℕ) (number : ℕ) → AreKept transactions numbers →
    is_running transactions number ≡ true → list_any (nat_eq number) numbers ≡ true
kept_among transactions numbers number kept runs =
    rw kept.running (among_running transactions number Running (running_status transactions number runs) ∙ runs)

-- so there is room for one commit more
pub kept_room : (transactions : Transactions) (numbers : List ℕ) (number : ℕ) → AreKept transactions numbers →
    is_running transactions number ≡ true → transactions.commits + 1 < 2 ^ 32
kept_room transactions numbers number kept runs =
    let some = fewer numbers number (kept_among transactions numbers number kept runs) in
    let counted = kept.counted in
    let bounded = kept.bounded in omega (arith, some, counted, bounded)

-- the numbers of those that still run once one has ended
still_running : (transactions : Transactions) (number : ℕ) (status : XStatus) → is_running transactions number ≡ true →
    is_running_status status ≡ false →
    filter (λ other. not (nat_eq other number)) (running_numbers transactions)
    ≡ running_numbers (with_status transactions number status)
still_running transactions zero status runs stopped = absurd (cc runs)
still_running transactions (suc before) status runs stopped =
    let r = running_at transactions before runs in
    rw r.stands
    (sym (running_less 1 (suc before) before transactions.list (record r.transaction { status = status }) (omega arith) stopped))

-- a running transaction ends, and as many have committed as given
kept_ended : (transactions : Transactions) (numbers : List ℕ) (number commits : ℕ) (status : XStatus) →
    AreKept transactions numbers → is_running transactions number ≡ true → is_running_status status ≡ false →
    transactions.commits ≤ commits → commits ≤ transactions.commits + 1 →
    ((place : ℕ) → status ≡ Committed place → place ≤ commits) →
    AreKept (record (with_status transactions number status) { commits = commits })
    (filter (λ other. not (nat_eq other number)) numbers)
kept_ended transactions numbers number commits status kept runs stopped more most within = record {
  running = rw kept.running (still_running transactions number status runs stopped);
  placed = λ other place there. placed other place there (cases_eq other number);
  counted =
      let some = fewer numbers number (kept_among transactions numbers number kept runs) in
      let counted = kept.counted in
      let same = length_changed_from_one (λ transaction. record transaction { status = status }) transactions.list number in
      omega (arith, some, counted, same, most);
  bounded =
      let bounded = kept.bounded in
      let same = length_changed_from_one (λ transaction. record transaction { status = status }) transactions.list number in
      omega (arith, bounded, same);
}
  where
    placed : (other place : ℕ) → status_of (with_status transactions number status) other ≡ Some (Committed place) →
        (other ≡ number) ⊎ (other ≡ number → ⊥) → place ≤ commits
    placed other place there (inl e) =
        within place (cc (there, e, status_given transactions number status runs))
    placed other place there (inr apart) =
        let h = kept.placed other place (sym (status_other transactions number other status apart) ∙ there) in
        omega (arith, h, more)

-- it commits
pub kept_committed : (transactions : Transactions) (numbers : List ℕ) (number : ℕ) → AreKept transactions numbers →
    is_running transactions number ≡ true →
    AreKept (transaction_committed transactions number) (filter (λ other. not (nat_eq other number)) numbers)
kept_committed transactions numbers number kept runs =
    kept_ended transactions numbers number (transactions.commits + 1) (Committed (transactions.commits + 1)) kept runs refl
    (omega arith) (omega arith) (λ place is. let e : transactions.commits + 1 ≡ place = cc is in omega (arith, e))

-- it is rolled back
pub kept_rolled_back : (transactions : Transactions) (numbers : List ℕ) (number : ℕ) → AreKept transactions numbers →
    is_running transactions number ≡ true →
    AreKept (transaction_rolled_back transactions number) (filter (λ other. not (nat_eq other number)) numbers)
kept_rolled_back transactions numbers number kept runs =
    kept_ended transactions numbers number transactions.commits RolledBack kept runs refl
    (omega arith) (omega arith) (λ place is. absurd (cc is))
