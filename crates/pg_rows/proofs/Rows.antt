-- The rows that a store keeps, as its versions change.
use Rattle.std.proofs.Common.{◌≡◌, ◌≢◌, ◌<◌, ◌≤◌, ◌+◌, ◌++◌, ◌&&◌, ◌⊎◌, inl, inr, ℕ, zero, suc, Bool, true, false, cond, List, [], ◌∷◌, Option, Some, None, length, map, filter, option_map, nat_eq, not, slice_get, slice_set, refl, ap, ap₂, sym, ◌∙◌, arith, append-nil, add-one, eq-eqb, ne_eqb}
use Rattle.std.proofs.Math.Bool.{and-false}
use Rattle.std.proofs.lemmas.Bool.{cases_eq, cases_lt}
use Rattle.std.proofs.lemmas.List.{map-append}
use Rattle.pg_values.specs.declared.value.Value.{Value}
use Rattle.pg_xacts.specs.declared.me.Me.{Me}
use Rattle.pg_lists.specs.Numbered.{with_changed_nth_item, nth_item}
use Rattle.pg_heap.specs.declared.slot.State.{State}
use Rattle.pg_heap.specs.declared.slot.State.TheVariants.{Placed, Settled, Dead}
use Rattle.pg_heap.specs.Rows.{is_written_by, row_drawn, row_stored, rows_without, with_version}
use Rattle.pg_heap.proofs.Lists.{changed_here, changed_other, same_items}
use Rattle.pg_rows.specs.Stores.{Stored, StoreView, draft_of, ended_state, ended_version, is_settled, is_version_of, row_in, row_placed, rows_from, rows_of, store_ended, store_without, stored_of, undone_state, undone_version, version_drafted, versions_of, with_version_state}
use Rattle.pg_rows.proofs.Read.{filter_append}
use Rattle.pg_rows.proofs.Stored.{in_state}

-- the rows end with the last number
pub rows_behind : (first count : ℕ) (versions : List Stored) →
    rows_from first (suc count) versions ≡ rows_from first count versions ++ row_in versions (first + count) ∷ []
rows_behind first zero versions =
    let e : first + zero ≡ first = omega arith in rw e refl
rows_behind first (suc count) versions =
    let e : first + 1 + count ≡ first + suc count = omega arith in
    ap (λ rows. row_in versions first ∷ rows) (rows_behind (first + 1) count versions ∙ ap (λ n. rows_from (first + 1) count versions ++ row_in versions n ∷ []) e)

pub length_rows : (first count : ℕ) (versions : List Stored) → length (rows_from first count versions) ≡ count
length_rows first zero versions = refl
length_rows first (suc count) versions = ap suc (length_rows (first + 1) count versions)

-- rows whose versions are the same
pub rows_same : (first count : ℕ) (versions more : List Stored) → ((row : ℕ) → versions_of row more ≡ versions_of row versions) →
    rows_from first count more ≡ rows_from first count versions
rows_same first zero versions more same = refl
rows_same first (suc count) versions more same =
    ap₂ (λ row rows. row ∷ rows) (ap (λ v. record { number = first; versions = v }) (same first)) (rows_same (first + 1) count versions more same)

-- a draft is no version of a row
versions_drafted : (versions : List Stored) (me : Me) (of : ℕ) (values : Option (List Value)) (row : ℕ) →
    versions_of row (versions ++ draft_of me of values ∷ []) ≡ versions_of row versions
versions_drafted versions me of values row =
    ap (map (λ stored. stored.version))
    (filter_append (is_version_of row) versions (draft_of me of values ∷ []) ∙ append-nil (filter (is_version_of row) versions))

-- no version is one of a row
versions_none : (versions : List Stored) (row : ℕ) → ((i : ℕ) (stored : Stored) → slice_get versions i ≡ Some stored → stored.row ≢ row) →
    versions_of row versions ≡ []
versions_none [] row none = refl
versions_none (stored ∷ versions) row none =
    rw (ne_eqb stored.row row (none 0 stored refl), and-false (is_settled stored.state))
    (versions_none versions row (λ i more is. none (suc i) more is))

-- the next row number is drawn, where no version is for a row behind the last
pub rows_placed : (store : StoreView) (me : Me) (values : List Value) →
    ((number : ℕ) (stored : Stored) → stored_of store.versions number ≡ Some stored → stored.row ≤ store.drawn) →
    rows_of (row_placed store me values) ≡ row_drawn (rows_of store)
rows_placed store me values within =
    ap (λ count. rows_from 1 count new) (add-one store.drawn)
    ∙ (rows_behind 1 store.drawn new
    ∙ ap₂ (λ rows row. rows ++ row ∷ []) (rows_same 1 store.drawn store.versions new (λ row. versions_drafted store.versions me (store.drawn + 1) (Some values) row)) last)
  where
    new : List Stored
    new = store.versions ++ draft_of me (store.drawn + 1) (Some values) ∷ []

    last : row_in new (1 + store.drawn) ≡ record { number = length (rows_of store) + 1; versions = [] }
    last =
        ap₂ (λ n v. record { number = n; versions = v }) (omega (arith, length_rows 1 store.drawn store.versions))
        (versions_drafted store.versions me (store.drawn + 1) (Some values) (1 + store.drawn)
        ∙ versions_none store.versions (1 + store.drawn) (λ i stored is e. let le = within (suc i) stored is in omega (arith, le, e)))

-- a draft for a row changes no row
pub rows_drafted : (store : StoreView) (me : Me) (row : ℕ) (values : Option (List Value)) →
    rows_of (version_drafted store me row values) ≡ rows_of store
rows_drafted store me row values =
    rows_same 1 store.drawn store.versions (store.versions ++ draft_of me row values ∷ []) (λ r. versions_drafted store.versions me row values r)

-- the row of a number
pub rows_at : (first count : ℕ) (versions : List Stored) (i : ℕ) → i < count →
    slice_get (rows_from first count versions) i ≡ Some (row_in versions (first + i))
rows_at first zero versions i within = absurd (omega (arith, within))
rows_at first (suc count) versions zero within = let e : first + zero ≡ first = omega arith in rw e refl
rows_at first (suc count) versions (suc i) within =
    let e : first + 1 + i ≡ first + suc i = omega arith in
    rows_at (first + 1) count versions i (omega (arith, within)) ∙ ap (λ n. Some (row_in versions n)) e

pub rows_past : (first count : ℕ) (versions : List Stored) (i : ℕ) → count ≤ i → slice_get (rows_from first count versions) i ≡ None
rows_past first zero versions i past = refl
rows_past first (suc count) versions zero past = absurd (omega (arith, past))
rows_past first (suc count) versions (suc i) past = rows_past (first + 1) count versions i (omega (arith, past))

-- a version that is settled behind all versions of its row
turned_on : (test : Stored → Bool) (versions : List Stored) (i : ℕ) (old new : Stored) → slice_get versions i ≡ Some old →
    test old ≡ false → test new ≡ true → ((j : ℕ) (more : Stored) → i < j → slice_get versions j ≡ Some more → test more ≡ false) →
    filter test (slice_set versions i new) ≡ filter test versions ++ new ∷ []
turned_on test [] i old new is off on behind = absurd (cc is)
turned_on test (stored ∷ versions) zero old new is off on behind =
    let e : stored ≡ old = cc is in
    rw (on, e, off) (rw (none versions (λ j more there. behind (suc j) more (omega arith) there)) refl)
  where
    none : (xs : List Stored) → ((j : ℕ) (more : Stored) → slice_get xs j ≡ Some more → test more ≡ false) → filter test xs ≡ []
    none [] each = refl
    none (x ∷ xs) each = rw (each 0 x refl) (none xs (λ j more there. each (suc j) more there))
turned_on test (stored ∷ versions) (suc i) old new is off on behind =
    at (turned_on test versions i old new is off on (λ j more lt there. behind (suc j) more (omega (arith, lt)) there)) (test stored)
  where
    at : filter test (slice_set versions i new) ≡ filter test versions ++ new ∷ [] → (b : Bool) →
        cond b (stored ∷ filter test (slice_set versions i new)) (filter test (slice_set versions i new))
        ≡ cond b (stored ∷ filter test versions) (filter test versions) ++ new ∷ []
    at rest true = ap (λ zs. stored ∷ zs) rest
    at rest false = rest

kept_off : (test : Stored → Bool) (versions : List Stored) (i : ℕ) (old new : Stored) → slice_get versions i ≡ Some old →
    test old ≡ test new → test new ≡ false → filter test (slice_set versions i new) ≡ filter test versions
kept_off test [] i old new is same off = refl
kept_off test (stored ∷ versions) zero old new is same off =
    let e : stored ≡ old = cc is in rw (off, e, same, off) refl
kept_off test (stored ∷ versions) (suc i) old new is same off =
    at (kept_off test versions i old new is same off) (test stored)
  where
    at : filter test (slice_set versions i new) ≡ filter test versions → (b : Bool) →
        cond b (stored ∷ filter test (slice_set versions i new)) (filter test (slice_set versions i new))
        ≡ cond b (stored ∷ filter test versions) (filter test versions)
    at rest true = ap (λ zs. stored ∷ zs) rest
    at rest false = rest

-- a draft becomes the newest version of its row
pub rows_attached : (store : StoreView) (before : ℕ) (stored : Stored) → slice_get store.versions before ≡ Some stored →
    stored.state ≡ Placed → (0 < stored.row) × (stored.row ≤ store.drawn) →
    ((j : ℕ) (more : Stored) → before < j → slice_get store.versions j ≡ Some more → is_version_of stored.row more ≡ false) →
    rows_of (with_version_state store (suc before) Settled) ≡ row_stored (rows_of store) stored.row stored.version
rows_attached store before stored is placed drawn behind = same_items _ _ (λ i. at i (cases_lt i store.drawn) (cases_eq (suc i) stored.row))
  where
    settled : Stored
    settled = in_state Settled stored

    new : List Stored
    new = slice_set store.versions before settled

    changed : with_changed_nth_item (in_state Settled) store.versions (suc before) ≡ new
    changed = rw is refl

    off : (row : ℕ) → is_version_of row stored ≡ false
    off row = rw placed refl

    mine : versions_of stored.row new ≡ versions_of stored.row store.versions ++ stored.version ∷ []
    mine =
        ap (map (λ s. s.version))
        (turned_on (is_version_of stored.row) store.versions before stored settled is (off stored.row) (eq-eqb stored.row stored.row refl) behind)
        ∙ map-append (λ s. s.version) (filter (is_version_of stored.row) store.versions) (settled ∷ [])

    others : (row : ℕ) → stored.row ≢ row → versions_of row new ≡ versions_of row store.versions
    others row apart =
        let none : is_version_of row settled ≡ false = ne_eqb stored.row row apart in
        ap (map (λ s. s.version))
        (kept_off (is_version_of row) store.versions before stored settled is (off row ∙ sym none) none)

    left : (i : ℕ) → i < store.drawn → slice_get (rows_of (with_version_state store (suc before) Settled)) i ≡ Some (row_in new (suc i))
    left i lt = rw changed (rows_at 1 store.drawn new i lt ∙ ap (λ n. Some (row_in new n)) (omega arith))

    right : (i : ℕ) → i < store.drawn → slice_get (rows_of store) i ≡ Some (row_in store.versions (suc i))
    right i lt = rows_at 1 store.drawn store.versions i lt ∙ ap (λ n. Some (row_in store.versions n)) (omega arith)

    at : (i : ℕ) → (i < store.drawn) ⊎ (store.drawn ≤ i) → (suc i ≡ stored.row) ⊎ (suc i ≡ stored.row → ⊥) →
        slice_get (rows_of (with_version_state store (suc before) Settled)) i
        ≡ nth_item (row_stored (rows_of store) stored.row stored.version) (suc i)
    at i (inl lt) (inl e) =
        rw (← e)
        (left i lt
        ∙ (ap (λ v. Some (record { number = suc i; versions = v })) (ap (λ n. versions_of n new) e ∙ (mine ∙ ap (λ n. versions_of n store.versions ++ stored.version ∷ []) (sym e)))
        ∙ (sym (ap (λ o. option_map (with_version stored.version) o) (right i lt))
        ∙ sym (changed_here (with_version stored.version) (rows_of store) (suc i)))))
    at i (inl lt) (inr apart) =
        left i lt
        ∙ (ap (λ v. Some (record { number = suc i; versions = v })) (others (suc i) (λ e. apart (sym e)))
        ∙ (sym (right i lt) ∙ sym (changed_other (with_version stored.version) (rows_of store) stored.row (suc i) apart)))
    at i (inr past) (inl e) = let le = drawn.1 in absurd (omega (arith, past, e, le))
    at i (inr past) (inr apart) =
        rw changed (rows_past 1 store.drawn new i past)
        ∙ (sym (rows_past 1 store.drawn store.versions i past)
        ∙ sym (changed_other (with_version stored.version) (rows_of store) stored.row (suc i) apart))

-- the same by number
pub rows_attached_at : (store : StoreView) (number : ℕ) (stored : Stored) →
    ((other : ℕ) (more : Stored) → stored_of store.versions other ≡ Some more → (0 < more.row) × (more.row ≤ store.drawn)) →
    stored_of store.versions number ≡ Some stored → stored.state ≡ Placed →
    ((other : ℕ) (more : Stored) → number < other → stored_of store.versions other ≡ Some more → is_version_of stored.row more ≡ false) →
    rows_of (with_version_state store number Settled) ≡ row_stored (rows_of store) stored.row stored.version
rows_attached_at store zero stored within is placed last = absurd (cc is)
rows_attached_at store (suc before) stored within is placed last =
    rows_attached store before stored is placed (within (suc before) stored is)
    (λ j more lt there. last (suc j) more (omega (arith, lt)) there)

-- a version of a row, where a transaction was rolled back
undone_first : (xact row : ℕ) (stored : Stored) (versions more : List Stored) →
    versions_of row more ≡ filter (λ version. not (is_written_by xact version)) (versions_of row versions) →
    versions_of row (undone_version xact stored ∷ more)
    ≡ filter (λ version. not (is_written_by xact version)) (versions_of row (stored ∷ versions))
undone_first xact row stored versions more behind =
    at (is_written_by xact stored.version) (is_settled stored.state && nat_eq stored.row row) refl refl
  where
    at : (b c : Bool) → is_written_by xact stored.version ≡ b → (is_settled stored.state && nat_eq stored.row row) ≡ c →
        map (λ s. s.version) (cond (is_settled (undone_state (is_written_by xact stored.version) stored.state) && nat_eq stored.row row) (undone_version xact stored ∷ filter (is_version_of row) more) (filter (is_version_of row) more))
        ≡ filter (λ version. not (is_written_by xact version)) (map (λ s. s.version) (cond (is_settled stored.state && nat_eq stored.row row) (stored ∷ filter (is_version_of row) versions) (filter (is_version_of row) versions)))
    at true true by mine = rw (by, mine, by) behind
    at true false by mine = rw (by, mine) behind
    at false true by mine = rw (by, mine, by) (ap (λ xs. stored.version ∷ xs) behind)
    at false false by mine = rw (by, mine) behind

versions_undone : (xact row : ℕ) (versions : List Stored) →
    versions_of row (map (undone_version xact) versions) ≡ filter (λ version. not (is_written_by xact version)) (versions_of row versions)
versions_undone xact row [] = refl
versions_undone xact row (stored ∷ versions) =
    undone_first xact row stored versions (map (undone_version xact) versions) (versions_undone xact row versions)

rows_undone_from : (xact first count : ℕ) (versions : List Stored) →
    rows_from first count (map (undone_version xact) versions) ≡ rows_without xact (rows_from first count versions)
rows_undone_from xact first zero versions = refl
rows_undone_from xact first (suc count) versions =
    ap₂ (λ row rows. row ∷ rows)
    (ap (λ v. record { number = first; versions = v }) (versions_undone xact first versions))
    (rows_undone_from xact (first + 1) count versions)

-- the rows of a store, where a transaction was rolled back
pub rows_undone : (store : StoreView) (xact : ℕ) → rows_of (store_without store xact) ≡ rows_without xact (rows_of store)
rows_undone store xact = rows_undone_from xact 1 store.drawn store.versions

-- a draft that is given up is no version of a row
ended_first : (xact row : ℕ) (stored : Stored) (versions more : List Stored) → versions_of row more ≡ versions_of row versions →
    versions_of row (ended_version xact stored ∷ more) ≡ versions_of row (stored ∷ versions)
ended_first xact row stored versions more behind =
    ap (λ b. map (λ s. s.version) (cond (b && nat_eq stored.row row) (ended_version xact stored ∷ filter (is_version_of row) more) (filter (is_version_of row) more)))
    (settled (is_written_by xact stored.version) stored.state)
    ∙ at (is_settled stored.state && nat_eq stored.row row)
  where
    settled : (b : Bool) (state : State) → is_settled (ended_state b state) ≡ is_settled state
    settled true Placed = refl
    settled true Settled = refl
    settled true Dead = refl
    settled false state = refl

    at : (c : Bool) →
        map (λ s. s.version) (cond c (ended_version xact stored ∷ filter (is_version_of row) more) (filter (is_version_of row) more))
        ≡ map (λ s. s.version) (cond c (stored ∷ filter (is_version_of row) versions) (filter (is_version_of row) versions))
    at true = ap (λ xs. stored.version ∷ xs) behind
    at false = behind

versions_ended : (xact row : ℕ) (versions : List Stored) → versions_of row (map (ended_version xact) versions) ≡ versions_of row versions
versions_ended xact row [] = refl
versions_ended xact row (stored ∷ versions) =
    ended_first xact row stored versions (map (ended_version xact) versions) (versions_ended xact row versions)

-- the rows of a store, where a transaction has committed
pub rows_ended : (store : StoreView) (xact : ℕ) → rows_of (store_ended store xact) ≡ rows_of store
rows_ended store xact =
    rows_same 1 store.drawn store.versions (map (ended_version xact) store.versions) (λ row. versions_ended xact row store.versions)
