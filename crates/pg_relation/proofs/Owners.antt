-- Who has begun a transaction, and what a statement that is done or sees the same keeps.
use Rattle.std.proofs.Common.{◌≡◌, ℕ, zero, suc, List, [], ◌∷◌, ◌++◌, length, map, Option, Some, None, slice_get, slice_set, refl, ap, arith, add-one}
use Rattle.std.specs.Prelude.{option_map, Result, Ok, Err}
use Rattle.std.specs.Option.{option_map_or}
use Rattle.std.proofs.lemmas.Option.{slice_get_within}
use Rattle.pg_lists.specs.Numbered.{with_changed_item, item_at}
use Rattle.pg_xacts.specs.declared.me.Me.{Me}
use Rattle.pg_xacts.specs.declared.transaction.Transaction.{Transaction}
use Rattle.pg_xacts.specs.declared.transaction.XStatus.{XStatus}
use Rattle.pg_xacts.specs.declared.transaction.XStatus.TheVariants.{Running as IsRunning}
use Rattle.pg_xacts.specs.Transactions.{Transactions, beginner_of, next_number, status_of, transaction_begun, with_status}
use Rattle.pg_model.specs.declared.error.SqlError.{SqlError}
use Rattle.pg_model.specs.declared.statement.Change.{Change}
use Rattle.pg_model.specs.declared.statement.Statement.{Statement}
use Rattle.pg_model.specs.declared.statement.Statement.TheVariants as statement
use Rattle.pg_world.specs.declared.candidate.Candidate.{Candidate}
use Rattle.pg_world.specs.Candidates.{candidates_of, candidates_over, seen_of_table, tables_read}
use Rattle.pg_world.specs.Changes.{change_choices_at, partners_in, row_at, table_at, target_row}
use Rattle.pg_world.specs.Choices.{choices, choices_by, choices_with, insert_choices, placing_choices}
use Rattle.pg_world.specs.declared.session.Running.{Running}
use Rattle.pg_world.specs.declared.session.Stage.{Stage}
use Rattle.pg_world.specs.declared.session.Stage.TheVariants.{Between as between, Found as found, Locked as locked, Placed as placed}
use Rattle.pg_world.specs.declared.table.TableView.{TableView}
use Rattle.pg_relation.proofs.Deciding.{found_some, locked_some}
use Rattle.pg_relation.proofs.Lists.{get_set_other, slice_get_none}

-- who has begun a transaction, and whether it runs, where another is begun
pub slice_get-more : {X : Type 0} (xs : List X) (place : ℕ) (x y : X) → slice_get xs place ≡ Some x →
    slice_get (xs ++ y ∷ []) place ≡ Some x
slice_get-more [] place x y is = absurd (cc is)
slice_get-more (z ∷ xs) zero x y is = is
slice_get-more (z ∷ xs) (suc place) x y is = slice_get-more xs place x y is

pub slice_get-last : {X : Type 0} (xs : List X) (y : X) → slice_get (xs ++ y ∷ []) (length xs) ≡ Some y
slice_get-last [] y = refl
slice_get-last (x ∷ xs) y = slice_get-last xs y

pub begun_keeps : {Y : Type 0} (f : Transaction → Y) (list : List Transaction) (place : ℕ) (t : Transaction) (y : Y) →
    option_map f (slice_get list place) ≡ Some y → option_map f (slice_get (list ++ t ∷ []) place) ≡ Some y
begun_keeps f list place t y is = at (slice_get list place) refl is
  where
    at : (o : Option Transaction) → slice_get list place ≡ o → option_map f o ≡ Some y →
        option_map f (slice_get (list ++ t ∷ []) place) ≡ Some y
    at None e h = absurd (cc h)
    at (Some one) e h = rw (slice_get-more list place one t e) h

pub beginner_begun : (transactions : Transactions) (by xact owner : ℕ) → beginner_of transactions xact ≡ Some owner →
    beginner_of (transaction_begun transactions by) xact ≡ Some owner
beginner_begun transactions by zero owner is = is
beginner_begun transactions by (suc place) owner is = begun_keeps (λ t. t.session) transactions.list place _ owner is

pub running_begun : (transactions : Transactions) (by xact : ℕ) (status : XStatus) → status_of transactions xact ≡ Some status →
    status_of (transaction_begun transactions by) xact ≡ Some status
running_begun transactions by zero status is = is
running_begun transactions by (suc place) status is = begun_keeps (λ t. t.status) transactions.list place _ status is

-- the one that is begun
pub own_begun : (transactions : Transactions) (by : ℕ) →
    (status_of (transaction_begun transactions by) (next_number transactions) ≡ Some IsRunning)
    × (beginner_of (transaction_begun transactions by) (next_number transactions) ≡ Some by)
own_begun transactions by =
    let last = slice_get-last transactions.list (record { session = by; status = IsRunning }) in
    rw add-one (ap (λ o. option_map (λ t. t.status) o) last, ap (λ o. option_map (λ t. t.session) o) last)

-- and where one gets another status
pub beginner_set : (list : List Transaction) (place other : ℕ) (status : XStatus) →
    option_map (λ t. t.session) (slice_get (with_changed_item (λ t. record t { status = status }) list place) other)
    ≡ option_map (λ t. t.session) (slice_get list other)
beginner_set list place other status = at (slice_get list place) refl
  where
    set_same : (xs : List Transaction) (i j : ℕ) (t : Transaction) → slice_get xs i ≡ Some t →
        option_map (λ t. t.session) (slice_get (slice_set xs i (record t { status = status })) j)
        ≡ option_map (λ t. t.session) (slice_get xs j)
    set_same [] i j t is = refl
    set_same (x ∷ xs) zero zero t is = let e : x ≡ t = cc is in rw e refl
    set_same (x ∷ xs) zero (suc j) t is = refl
    set_same (x ∷ xs) (suc i) zero t is = refl
    set_same (x ∷ xs) (suc i) (suc j) t is = set_same xs i j t is

    at : (o : Option Transaction) → slice_get list place ≡ o →
        option_map (λ t. t.session) (slice_get (option_map_or (λ t. slice_set list place (record t { status = status })) o list) other)
        ≡ option_map (λ t. t.session) (slice_get list other)
    at None is = refl
    at (Some t) is = set_same list place other t is

pub beginner_ended : (transactions : Transactions) (xact other : ℕ) (status : XStatus) →
    beginner_of (with_status transactions xact status) other ≡ beginner_of transactions other
beginner_ended transactions zero other status = refl
beginner_ended transactions (suc place) zero status = refl
beginner_ended transactions (suc place) (suc other) status = beginner_set transactions.list place other status

pub status_set : (list : List Transaction) (place other : ℕ) (status : XStatus) → (other ≡ place → ⊥) →
    option_map (λ t. t.status) (slice_get (with_changed_item (λ t. record t { status = status }) list place) other)
    ≡ option_map (λ t. t.status) (slice_get list other)
status_set list place other status apart = at (slice_get list place) refl
  where
    at : (o : Option Transaction) → slice_get list place ≡ o →
        option_map (λ t. t.status) (slice_get (option_map_or (λ t. slice_set list place (record t { status = status })) o list) other)
        ≡ option_map (λ t. t.status) (slice_get list other)
    at None is = refl
    at (Some t) is = ap (λ o. option_map (λ t. t.status) o) (get_set_other list place other (record t { status = status }) apart)

pub status_ended : (transactions : Transactions) (xact other : ℕ) (status : XStatus) → (other ≡ xact → ⊥) →
    status_of (with_status transactions xact status) other ≡ status_of transactions other
status_ended transactions zero other status apart = refl
status_ended transactions (suc place) zero status apart = refl
status_ended transactions (suc place) (suc other) status apart =
    status_set transactions.list place other status (λ e. apart (ap suc e))

-- a statement that is done stays done, and has the same candidates where it sees the same
pub choices_stay : (own : Statement) (tables after : List TableView) (transactions behind : Transactions) (running : Running) →
    length after ≡ length tables → choices own tables transactions running ≡ [] → choices own after behind running ≡ []
choices_stay own tables after transactions behind running same done = by running.candidates done
  where
    placing : (number : ℕ) (table : Option TableView) → item_at tables number ≡ table → placing_choices number table ≡ [] →
        placing_choices number (item_at after number) ≡ []
    placing number (Some table) is none = absurd (cc none)
    placing number None is none = at (slice_get after number) refl
      where
        at : (o : Option TableView) → slice_get after number ≡ o → placing_choices number o ≡ []
        at None e = refl
        at (Some table) e =
            absurd (omega (arith, slice_get_within after number table e, slice_get_none tables number is, same))

    insert : (number count : ℕ) (stage : Stage) → insert_choices number tables running count stage ≡ [] →
        insert_choices number after running count stage ≡ []
    insert number count between none = none
    insert number count found none = placing number (item_at tables number) refl none
    insert number count (locked name) none = refl
    insert number count (placed row) none = absurd (cc none)

    change : (target : Change) (count : ℕ) (stage : Stage) → change_choices_at target tables transactions running count stage ≡ [] →
        change_choices_at target after behind running count stage ≡ []
    change target count between none = none
    change target count found none =
        absurd (found_some target tables transactions running.me (partners_in running) none)
    change target count (locked name) none =
        absurd (locked_some target (row_at (table_at tables target.target.table) (target_row (partners_in running))) name
        (partners_in running) none)
    change target count (placed row) none = refl

    of_kind : (kind : Statement) (candidates : List Candidate) → choices_with kind tables transactions running candidates ≡ [] →
        choices_with kind after behind running candidates ≡ []
    of_kind (statement.Insert i) candidates none = insert i.target.table (length candidates) running.stage none
    of_kind (statement.Change target) candidates none = change target (length candidates) running.stage none
    of_kind (statement.Select s) candidates none = refl
    of_kind statement.Begin candidates none = refl
    of_kind statement.Commit candidates none = refl
    of_kind statement.Rollback candidates none = refl

    by : (candidates : Result (List Candidate) SqlError) → choices_by own tables transactions running candidates ≡ [] →
        choices_by own after behind running candidates ≡ []
    by (Err error) none = absurd (cc none)
    by (Ok candidates) none = of_kind own candidates none

pub map_same : {X Y : Type 0} (f g : X → Y) → ((x : X) → f x ≡ g x) → (xs : List X) → map f xs ≡ map g xs
map_same f g same [] = refl
map_same f g same (x ∷ xs) = rw (same x, map_same f g same xs) refl

pub candidates_same : (own : Statement) (tables after : List TableView) (transactions behind : Transactions) (commits : ℕ) (me : Me) →
    ((table : ℕ) → seen_of_table after behind commits me table ≡ seen_of_table tables transactions commits me table) →
    candidates_of own after behind commits me ≡ candidates_of own tables transactions commits me
candidates_same own tables after transactions behind commits me same =
    ap (candidates_over own)
    (map_same (seen_of_table after behind commits me) (seen_of_table tables transactions commits me) same (tables_read own))
