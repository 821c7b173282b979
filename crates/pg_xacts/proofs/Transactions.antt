-- How the transactions stand after one was begun or has ended, and which of them run.
use Rattle.std.proofs.Common.{◌≡◌, ◌≢◌, ◌<◌, ◌≤◌, ◌+◌, ◌++◌, ℕ, zero, suc, Bool, true, false, not, cond, List, [], ◌∷◌, Option, Some, None, length, filter, slice_get, slice_set, get_or, nat_eq, option_map, refl, ap, sym, ◌∙◌, arith, eq-eqb, ne_eqb, add-one}
use Rattle.std.specs.Option.{option_map_or}
use Rattle.std.specs.List.{list_any}
use Rattle.std.proofs.lemmas.Option.{slice_get_within}
use Rattle.pg_xacts.specs.declared.transaction.Transaction.{Transaction}
use Rattle.pg_xacts.specs.declared.transaction.XStatus.{XStatus}
use Rattle.pg_xacts.specs.declared.transaction.XStatus.TheVariants.{Running}
use Rattle.pg_xacts.specs.Transactions.{Transactions, is_running, is_running_status, next_number, status_of, transaction_begun, with_status}
use Rattle.pg_xacts.specs.Snapshots.{running_from}
use Rattle.pg_xacts.specs.Rising.{IsRising}
use Rattle.pg_xacts.proofs.Rising.{any_none, above, kept_all, rising_lower}
use Rattle.pg_xacts.proofs.Lists.{get_append_other, get_set, get_set_other}

-- a transaction that was begun has a number up to their count
pub begun_within : (transactions : Transactions) (number : ℕ) (status : XStatus) →
    status_of transactions number ≡ Some status → number ≤ length transactions.list
begun_within transactions zero status is = omega arith
begun_within transactions (suc before) status is =
    at (slice_get transactions.list before) refl is
  where
    at : (o : Option Transaction) → slice_get transactions.list before ≡ o →
        option_map (λ transaction. transaction.status) o ≡ Some status → suc before ≤ length transactions.list
    at None is some = absurd (cc some)
    at (Some transaction) is some =
        let h = slice_get_within transactions.list before transaction is in omega (arith, h)

-- one more transaction changes nothing of the others
pub status_begun : (transactions : Transactions) (session number : ℕ) → number ≢ next_number transactions →
    status_of (transaction_begun transactions session) number ≡ status_of transactions number
status_begun transactions session zero other = refl
status_begun transactions session (suc before) other =
    ap (λ o. option_map (λ transaction. transaction.status) o)
    (get_append_other transactions.list (record { session = session; status = Running }) before
    (λ e. other (omega (arith, e))))

-- and runs itself
pub status_next : (transactions : Transactions) (session : ℕ) →
    status_of (transaction_begun transactions session) (next_number transactions) ≡ Some Running
status_next transactions session = rw (add-one (length transactions.list)) (at transactions.list)
  where
    at : (list : List Transaction) →
        option_map (λ transaction. transaction.status) (slice_get (list ++ record { session = session; status = Running } ∷ []) (length list)) ≡ Some Running
    at [] = refl
    at (transaction ∷ list) = at list

-- nor does another status of one
pub status_other : (transactions : Transactions) (number other : ℕ) (status : XStatus) → other ≢ number →
    status_of (with_status transactions number status) other ≡ status_of transactions other
status_other transactions number zero status apart = refl
status_other transactions zero (suc j) status apart = refl
status_other transactions (suc i) (suc j) status apart = at (slice_get transactions.list i)
  where
    at : (o : Option Transaction) →
        option_map (λ transaction. transaction.status) (slice_get (option_map_or (λ item. slice_set transactions.list i (record item { status = status })) o transactions.list) j)
        ≡ option_map (λ transaction. transaction.status) (slice_get transactions.list j)
    at None = refl
    at (Some item) =
        ap (λ o. option_map (λ transaction. transaction.status) o)
        (get_set_other transactions.list i j (record item { status = status }) (λ e. apart (ap suc e)))

-- a transaction that runs is one of the list
pub record IsRunningAt (transactions : Transactions) (before : ℕ) : Type 0 where
  pub transaction : Transaction
  pub stands : slice_get transactions.list before ≡ Some transaction
  pub runs : is_running_status transaction.status ≡ true

pub running_at : (transactions : Transactions) (before : ℕ) → is_running transactions (suc before) ≡ true →
    IsRunningAt transactions before
running_at transactions before runs = at (slice_get transactions.list before) refl runs
  where
    at : (o : Option Transaction) → slice_get transactions.list before ≡ o →
        option_map_or is_running_status (option_map (λ transaction. transaction.status) o) false ≡ true →
        IsRunningAt transactions before
    at None is some = absurd (cc some)
    at (Some transaction) is some = record { transaction = transaction; stands = is; runs = some }

-- the status that a running transaction is given
pub status_given : (transactions : Transactions) (number : ℕ) (status : XStatus) →
    is_running transactions number ≡ true → status_of (with_status transactions number status) number ≡ Some status
status_given transactions zero status runs = absurd (cc runs)
status_given transactions (suc before) status runs =
    let r = running_at transactions before runs in
    rw r.stands
    (ap (λ o. option_map (λ transaction. transaction.status) o)
    (get_set transactions.list before r.transaction (record r.transaction { status = status }) r.stands))

-- the numbers of those that run rise
pub running_rises : (first : ℕ) (list : List Transaction) → IsRising first (running_from first list)
running_rises first [] = tt
running_rises first (transaction ∷ list) = at (running_rises (first + 1) list) (is_running_status transaction.status)
  where
    at : IsRising (first + 1) (running_from (first + 1) list) → (b : Bool) →
        IsRising first (cond b (first ∷ running_from (first + 1) list) (running_from (first + 1) list))
    at behind true = (omega arith, behind)
    at behind false = rising_lower (first + 1) first (running_from (first + 1) list) (omega arith) behind

-- a number below the first is not among them
pub none_below : (first number : ℕ) (list : List Transaction) → number < first → (k : ℕ) →
    k < length (running_from first list) → get_or (running_from first list) k 0 ≢ number
none_below first number list below k within e =
    let h = above first (running_from first list) k (running_rises first list) within in omega (arith, h, e, below)

-- a number is among them where its transaction runs
pub any_running : (first number before : ℕ) (list : List Transaction) → number ≡ first + before →
    list_any (nat_eq number) (running_from first list)
    ≡ option_map_or is_running_status (option_map (λ transaction. transaction.status) (slice_get list before)) false
any_running first number before [] is = refl
any_running first number zero (transaction ∷ list) is = at (is_running_status transaction.status)
  where
    behind : list_any (nat_eq number) (running_from (first + 1) list) ≡ false
    behind = any_none (running_from (first + 1) list) number (none_below (first + 1) number list (omega (arith, is)))

    at : (b : Bool) →
        list_any (nat_eq number) (cond b (first ∷ running_from (first + 1) list) (running_from (first + 1) list)) ≡ b
    at true = rw (eq-eqb number first (omega (arith, is))) refl
    at false = behind
any_running first number (suc before) (transaction ∷ list) is =
    at (any_running (first + 1) number before list (omega (arith, is))) (is_running_status transaction.status)
  where
    at : list_any (nat_eq number) (running_from (first + 1) list)
        ≡ option_map_or is_running_status (option_map (λ transaction. transaction.status) (slice_get list before)) false →
        (b : Bool) →
        list_any (nat_eq number) (cond b (first ∷ running_from (first + 1) list) (running_from (first + 1) list))
        ≡ option_map_or is_running_status (option_map (λ transaction. transaction.status) (slice_get list before)) false
    at behind true = rw (ne_eqb number first (λ e. omega (arith, is, e))) behind
    at behind false = behind

-- the transaction that is begun runs, behind all others
pub running_more : (first : ℕ) (list : List Transaction) (transaction : Transaction) → transaction.status ≡ Running →
    running_from first (list ++ transaction ∷ []) ≡ running_from first list ++ (first + length list) ∷ []
running_more first [] transaction runs = rw runs (ap (λ n. n ∷ []) (omega arith))
running_more first (other ∷ list) transaction runs =
    at (running_more (first + 1) list transaction runs ∙ ap (λ n. running_from (first + 1) list ++ n ∷ []) (omega arith))
    (is_running_status other.status)
  where
    at : running_from (first + 1) (list ++ transaction ∷ []) ≡ running_from (first + 1) list ++ (first + suc (length list)) ∷ [] →
        (b : Bool) →
        cond b (first ∷ running_from (first + 1) (list ++ transaction ∷ [])) (running_from (first + 1) (list ++ transaction ∷ []))
        ≡ cond b (first ∷ running_from (first + 1) list) (running_from (first + 1) list) ++ (first + suc (length list)) ∷ []
    at behind true = ap (λ ns. first ∷ ns) behind
    at behind false = behind

-- one that has ended is no longer among those that run
pub running_less : (first number before : ℕ) (list : List Transaction) (ended : Transaction) →
    number ≡ first + before → is_running_status ended.status ≡ false →
    running_from first (slice_set list before ended)
    ≡ filter (λ other. not (nat_eq other number)) (running_from first list)
running_less first number before [] ended is stopped = refl
running_less first number zero (transaction ∷ list) ended is stopped =
    rw stopped (sym (at (is_running_status transaction.status)))
  where
    behind : filter (λ other. not (nat_eq other number)) (running_from (first + 1) list) ≡ running_from (first + 1) list
    behind = kept_all (running_from (first + 1) list) number (none_below (first + 1) number list (omega (arith, is)))

    at : (b : Bool) →
        filter (λ other. not (nat_eq other number)) (cond b (first ∷ running_from (first + 1) list) (running_from (first + 1) list))
        ≡ running_from (first + 1) list
    at true = rw (eq-eqb first number (omega (arith, is))) behind
    at false = behind
running_less first number (suc before) (transaction ∷ list) ended is stopped =
    at (running_less (first + 1) number before list ended (omega (arith, is)) stopped)
    (is_running_status transaction.status)
  where
    at : running_from (first + 1) (slice_set list before ended)
        ≡ filter (λ other. not (nat_eq other number)) (running_from (first + 1) list) → (b : Bool) →
        cond b (first ∷ running_from (first + 1) (slice_set list before ended)) (running_from (first + 1) (slice_set list before ended))
        ≡ filter (λ other. not (nat_eq other number)) (cond b (first ∷ running_from (first + 1) list) (running_from (first + 1) list))
    at behind true = rw (ne_eqb first number (λ e. omega (arith, is, e))) (ap (λ ns. first ∷ ns) behind)
    at behind false = behind
