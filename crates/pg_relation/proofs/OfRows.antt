-- What is known of the rows of a legal world, row by row.
use Rattle.std.proofs.Common.{◌≡◌, ◌<◌, ◌⊎◌, ℕ, zero, suc, Contains, List, [], ◌∷◌, length, get_or, Some, None, slice_get, refl, sym, ap, ◌∙◌, subst, inl, inr, arith}
use Rattle.pg_multi.specs.declared.row_lock.RowLock.{RowLock}
use Rattle.pg_multi.specs.Locks.{strongest_of}
use Rattle.pg_xacts.specs.Transactions.{Transactions}
use Rattle.pg_heap.specs.declared.row.Row.{Row}
use Rattle.pg_heap.specs.declared.version.Version.{Version}
use Rattle.pg_heap.specs.Rows.{row_of}
use Rattle.pg_model.specs.declared.journal.Entry.{Entry}
use Rattle.pg_model.specs.declared.script.Script.{Script}
use Rattle.pg_world.specs.Worlds.{World}
use Rattle.pg_relation.specs.Journals.{IsLegal, world_after}
use Rattle.pg_relation.specs.Locking.{AreRising, Each, IsFree, IsGuarded, IsGuardedTable, IsRowOf, Runs, StandBehind}
use Rattle.pg_relation.proofs.LockingKept.{steady_after}
use Rattle.pg_relation.proofs.LockingSteps.{IsLocking}
use Rattle.pg_world.specs.declared.table.TableView.{TableView}

-- the guard of a row
pub guard_of : (script : Script) (world : World) (number row_number : ℕ) (row : Row) (locks : List RowLock) → IsLocking script world →
    IsRowOf world number row_number row locks → IsGuarded world.transactions row_number row locks
guard_of script world number row_number row locks locking of =
    subst (λ ls. IsGuarded world.transactions row_number row ls) of.locks_are
    ((locking.tables number of.table of.table_is).rows row_number row of.row_is)

pub guard_after : (script : Script) (journal : List Entry) (number row_number : ℕ) (row : Row) (locks : List RowLock) → IsLegal script journal →
    IsRowOf (world_after script journal) number row_number row locks →
    IsGuarded (world_after script journal).transactions row_number row locks
guard_after script journal number row_number row locks legal of =
    guard_of script (world_after script journal) number row_number row locks (steady_after script journal legal).locking of

pub table_after : (script : Script) (journal : List Entry) (number : ℕ) (table : TableView) → IsLegal script journal →
    slice_get (world_after script journal).tables number ≡ Some table → IsGuardedTable (world_after script journal).transactions table
table_after script journal number table legal is = (steady_after script journal legal).locking.tables number table is

-- what is in a list is its first or in the rest
pub contained_cases : {X : Type 0} (x : X) (xs : List X) (y : X) → Contains (x ∷ xs) y → (x ≡ y) ⊎ Contains xs y
contained_cases x xs y h = at h.0 h.1 h.2
  where
    at : (k : ℕ) → k < length (x ∷ xs) → get_or (x ∷ xs) k y ≡ y → (x ≡ y) ⊎ Contains xs y
    at zero within is = inl is
    at (suc k) within is = inr (k, omega (arith, within), is)

pub each_contained : {X : Type 0} (P : X → Type 0) (xs : List X) (y : X) → Each P xs → Contains xs y → P y
each_contained P [] y all h = absurd (omega (arith, h.1))
each_contained {X = X} P (x ∷ xs) y all h = at (contained_cases x xs y h) (λ behind. each_contained P xs y all.1 behind)
  where
    at : (x ≡ y) ⊎ Contains xs y → (Contains xs y → P y) → P y
    at (inl same) more = subst P same all.0
    at (inr behind) more = more behind

-- of two that run, and have versions of one row, each is the other
pub same_writer : (transactions : Transactions) (versions : List Version) (one other : Version) →
    ((xact : ℕ) → Runs transactions xact → StandBehind xact versions) → Contains versions one → Contains versions other →
    Runs transactions one.writer → Runs transactions other.writer → one.writer ≡ other.writer
same_writer transactions [] one other behind has also runs run = absurd (omega (arith, has.1))
same_writer transactions (first ∷ later) one other behind has also runs run =
    at (contained_cases first later one has) (contained_cases first later other also)
    (λ has also. same_writer transactions later one other (λ xact by. (behind xact by).1) has also runs run)
  where
    at : (first ≡ one) ⊎ Contains later one → (first ≡ other) ⊎ Contains later other →
        (Contains later one → Contains later other → one.writer ≡ other.writer) → one.writer ≡ other.writer
    at (inl e) (inl f) more = ap (λ v. v.writer) (sym e ∙ f)
    at (inl e) (inr f) more =
        sym (each_contained (λ v. v.writer ≡ one.writer) later other ((behind one.writer runs).0 (ap (λ v. v.writer) e)) f)
    at (inr e) (inl f) more =
        each_contained (λ v. v.writer ≡ other.writer) later one ((behind other.writer run).0 (ap (λ v. v.writer) f)) e
    at (inr e) (inr f) more = more e f

-- a version is at one place alone
each_place : {X : Type 0} (P : X → Type 0) (xs : List X) (place : ℕ) (x : X) → Each P xs → slice_get xs place ≡ Some x → P x
each_place P [] place x all is = absurd (cc is)
each_place P (first ∷ xs) zero x all is = let e : first ≡ x = cc is in subst P e all.0
each_place P (first ∷ xs) (suc place) x all is = each_place P xs place x all.1 is

pub same_place : (versions : List Version) (one other : ℕ) (version same : Version) → AreRising versions →
    slice_get versions one ≡ Some version → slice_get versions other ≡ Some same → version.writer ≡ same.writer →
    version.command ≡ same.command → one ≡ other
same_place [] one other version same rising is also writer command = absurd (cc is)
same_place (first ∷ later) zero zero version same rising is also writer command = refl
same_place (first ∷ later) zero (suc j) version same rising is also writer command =
    let e : first ≡ version = cc is in
    let lower = each_place (λ v. v.writer ≡ first.writer → first.command < v.command) later j same rising.0 also
    (sym writer ∙ ap (λ v. v.writer) (sym e)) in
    let f = ap (λ v. v.command) e in
    absurd (omega (arith, lower, f, command))
same_place (first ∷ later) (suc i) zero version same rising is also writer command =
    let e : first ≡ same = cc also in
    let lower = each_place (λ v. v.writer ≡ first.writer → first.command < v.command) later i version rising.0 is
    (writer ∙ ap (λ v. v.writer) (sym e)) in
    let f = ap (λ v. v.command) e in
    absurd (omega (arith, lower, f, command))
same_place (first ∷ later) (suc i) (suc j) version same rising is also writer command =
    ap suc (same_place later i j version same rising.1 is also writer command)

-- behind a version of the transaction there are none but its own, by their places
behind_places : (xact : ℕ) (versions : List Version) → StandBehind xact versions → (earlier later : ℕ) (one other : Version) →
    earlier < later → slice_get versions earlier ≡ Some one → slice_get versions later ≡ Some other → one.writer ≡ xact → other.writer ≡ xact
behind_places xact [] behind earlier later one other less is also own = absurd (cc is)
behind_places xact (first ∷ versions) behind zero zero one other less is also own = absurd (omega (arith, less))
behind_places xact (first ∷ versions) behind zero (suc later) one other less is also own =
    let e : first ≡ one = cc is in
    each_place (λ v. v.writer ≡ xact) versions later other (behind.0 (ap (λ v. v.writer) e ∙ own)) also
behind_places xact (first ∷ versions) behind (suc earlier) zero one other less is also own = absurd (omega (arith, less))
behind_places xact (first ∷ versions) behind (suc earlier) (suc later) one other less is also own =
    behind_places xact versions behind.1 earlier later one other (omega (arith, less)) is also own

-- in each row of a table the versions of a transaction that runs stand behind all others
pub own_last : (transactions : Transactions) (table : TableView) (xact : ℕ) → IsGuardedTable transactions table → Runs transactions xact →
    (number earlier later : ℕ) (row : Row) (one other : Version) → row_of table.rows number ≡ Some row → earlier < later →
    slice_get row.versions earlier ≡ Some one → slice_get row.versions later ≡ Some other → one.writer ≡ xact → other.writer ≡ xact
own_last transactions table xact guarded runs number earlier later row one other row_is less is also own =
    behind_places xact row.versions ((guarded.rows number row row_is).behind xact runs) earlier later one other less is also own

-- nobody holds a row without versions
pub free_empty : (transactions : Transactions) (locks : List RowLock) (versions : List Version) (other : ℕ) →
    IsFree transactions locks versions → versions ≡ [] → strongest_of locks other ≡ None
free_empty transactions locks [] other free empty = free other
free_empty transactions locks (one ∷ later) other free empty = absurd (cc empty)
