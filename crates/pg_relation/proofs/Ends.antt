-- Which transactions run, and which have committed, where one is begun and where one ends.
use Rattle.std.proofs.Common.{◌≡◌, ◌≢◌, ◌⊎◌, ◌+◌, ℕ, zero, suc, true, false, not, nat_eq, Option, Some, None, slice_get, refl, sym, ap, ◌∙◌, subst, inl, inr, eq-eqb, ne_eqb}
use Rattle.std.specs.Prelude.{option_map, ◌&&◌}
use Rattle.std.specs.Option.{option_map_or}
use Rattle.std.proofs.lemmas.Bool.{and_parts}
use Rattle.pg_xacts.specs.declared.transaction.Transaction.{Transaction}
use Rattle.pg_xacts.specs.declared.transaction.XStatus.{XStatus}
use Rattle.pg_xacts.specs.declared.transaction.XStatus.TheVariants.{Running as IsRunning, Committed, RolledBack}
use Rattle.pg_xacts.specs.Transactions.{Transactions, is_running, is_running_beside, is_running_status, status_of, transaction_begun, with_status}
use Rattle.pg_heap.proofs.Lists.{changed_here}
use Rattle.pg_world.specs.Tables.{TransactionEnd, commit, rollback}
use Rattle.pg_world.specs.Worlds.{transactions_after_end}
use Rattle.pg_relation.specs.Locking.{Runs, RunsOrCommitted}
use Rattle.pg_relation.proofs.Owners.{running_begun, status_ended}

-- where one is begun
pub committed_begun : (transactions : Transactions) (by xact : ℕ) → RunsOrCommitted transactions xact →
    RunsOrCommitted (transaction_begun transactions by) xact
committed_begun transactions by xact (inl runs) = inl (running_begun transactions by xact IsRunning runs)
committed_begun transactions by xact (inr is) =
    inr (is.0, running_begun transactions by xact (Committed is.0) is.1)

pub ran_begun : (transactions : Transactions) (by xact : ℕ) → RunsOrCommitted transactions xact →
    Runs (transaction_begun transactions by) xact → Runs transactions xact
ran_begun transactions by xact (inl runs) also = runs
ran_begun transactions by xact (inr is) also =
    let e : Some (Committed is.0) ≡ Some IsRunning =
    sym (running_begun transactions by xact (Committed is.0) is.1) ∙ also in
    absurd (cc e)

-- one that has a status has the same, and one that has none was not begun
pub run_or_none : (transactions : Transactions) (by xact : ℕ) → Runs (transaction_begun transactions by) xact →
    Runs transactions xact ⊎ (status_of transactions xact ≡ None)
run_or_none transactions by xact also = at (status_of transactions xact) refl
  where
    at : (o : Option XStatus) → status_of transactions xact ≡ o → Runs transactions xact ⊎ (status_of transactions xact ≡ None)
    at None is = inr is
    at (Some status) is =
        let e : Some status ≡ Some IsRunning = sym (running_begun transactions by xact status is) ∙ also in
        inl (is ∙ e)

pub never_begun : (transactions : Transactions) (xact : ℕ) → status_of transactions xact ≡ None →
    RunsOrCommitted transactions xact → ⊥
never_begun transactions xact none (inl runs) = let e : None ≡ Some IsRunning = sym none ∙ runs in cc e
never_begun transactions xact none (inr is) = let e : None ≡ Some (Committed is.0) = sym none ∙ is.1 in cc e

-- where one ends
status_own : (transactions : Transactions) (xact : ℕ) (status : XStatus) → Runs transactions xact →
    status_of (with_status transactions xact status) xact ≡ Some status
status_own transactions zero status runs = absurd (cc runs)
status_own transactions (suc place) status runs = at (slice_get transactions.list place) refl runs
  where
    at : (o : Option Transaction) → slice_get transactions.list place ≡ o → option_map (λ t. t.status) o ≡ Some IsRunning →
        status_of (with_status transactions (suc place) status) (suc place) ≡ Some status
    at None is h = absurd (cc h)
    at (Some t) is h =
        ap (λ o. option_map (λ t. t.status) o)
        (changed_here {X = Transaction} (λ t. record t { status = status }) transactions.list (suc place)
        ∙ ap (λ o. option_map {T = Transaction} {U = Transaction} (λ t. record t { status = status }) o) is)

module _ (transactions : Transactions) (xact : ℕ) (runs : Runs transactions xact) where
  pub not_running_ended : (end : TransactionEnd) → Runs (transactions_after_end transactions xact end) xact → ⊥
  not_running_ended commit also =
      let e : Some (Committed (transactions.commits + 1)) ≡ Some IsRunning =
      sym (status_own transactions xact (Committed (transactions.commits + 1)) runs) ∙ also in
      cc e
  not_running_ended rollback also =
      let e : Some RolledBack ≡ Some IsRunning = sym (status_own transactions xact RolledBack runs) ∙ also in
      cc e

  pub status_other : (end : TransactionEnd) (other : ℕ) → other ≢ xact →
      status_of (transactions_after_end transactions xact end) other ≡ status_of transactions other
  status_other commit other apart = status_ended transactions xact other (Committed (transactions.commits + 1)) apart
  status_other rollback other apart = status_ended transactions xact other RolledBack apart

  -- who runs behind it is another, and ran before
  pub another_ended : (end : TransactionEnd) (other : ℕ) → Runs (transactions_after_end transactions xact end) other →
      other ≢ xact
  another_ended end other also same =
      not_running_ended end (subst (λ x. Runs (transactions_after_end transactions xact end) x) same also)

  pub ran_ended : (end : TransactionEnd) (other : ℕ) → Runs (transactions_after_end transactions xact end) other →
      Runs transactions other
  ran_ended end other also = sym (status_other end other (another_ended end other also)) ∙ also

  -- who runs before, and another, runs on
  pub run_ended : (end : TransactionEnd) (other : ℕ) → other ≢ xact → Runs transactions other →
      Runs (transactions_after_end transactions xact end) other
  run_ended end other apart also = status_other end other apart ∙ also

  pub committed_ended : (end : TransactionEnd) (other : ℕ) → other ≢ xact → RunsOrCommitted transactions other →
      RunsOrCommitted (transactions_after_end transactions xact end) other
  committed_ended end other apart (inl also) = inl (run_ended end other apart also)
  committed_ended end other apart (inr is) = inr (is.0, status_other end other apart ∙ is.1)

  pub committed_own : RunsOrCommitted (transactions_after_end transactions xact commit) xact
  committed_own =
      inr (transactions.commits + 1, status_own transactions xact (Committed (transactions.commits + 1)) runs)

-- whether another runs beside a transaction
pub beside_runs : (transactions : Transactions) (me other : ℕ) → Runs transactions other → other ≢ me →
    is_running_beside transactions me other ≡ true
beside_runs transactions me other runs apart = rw (ne_eqb other me apart, runs) refl

pub beside_is : (transactions : Transactions) (me other : ℕ) → is_running_beside transactions me other ≡ true →
    Runs transactions other × (other ≢ me)
beside_is transactions me other beside =
    let parts = and_parts (not (nat_eq other me)) (is_running transactions other) beside in
    (runs (status_of transactions other) refl parts.1, λ same. own same parts.0)
  where
    own : other ≡ me → not (nat_eq other me) ≡ true → ⊥
    own same is = let e : not true ≡ true = rw (eq-eqb other me same) at is in cc e

    of_status : (status : XStatus) → is_running_status status ≡ true → status ≡ IsRunning
    of_status IsRunning is = refl
    of_status (Committed place) is = absurd (cc is)
    of_status RolledBack is = absurd (cc is)

    runs : (o : Option XStatus) → status_of transactions other ≡ o →
        option_map_or is_running_status (status_of transactions other) false ≡ true → Runs transactions other
    runs None o_is is = absurd (let e : false ≡ true = rw o_is at is in cc e)
    runs (Some status) o_is is =
        let e : is_running_status status ≡ true = rw o_is at is in
        o_is ∙ ap (λ s. Some s) (of_status status e)

-- who runs is not a writer that stands beside
pub not_beside : (transactions : Transactions) (me other xact : ℕ) → Runs transactions xact → xact ≢ me →
    is_running_beside transactions me other ≡ false → other ≢ xact
not_beside transactions me other xact runs apart none same =
    let e : false ≡ true =
    sym none ∙ (ap (λ x. is_running_beside transactions me x) same ∙ beside_runs transactions me xact runs apart) in
    cc e

pub beside_same : (transactions after : Transactions) (me other : ℕ) → status_of after other ≡ status_of transactions other →
    is_running_beside after me other ≡ is_running_beside transactions me other
beside_same transactions after me other same =
    ap (λ o. not (nat_eq other me) && option_map_or is_running_status o false) same
