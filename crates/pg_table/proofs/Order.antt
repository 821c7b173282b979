-- In each row the versions of a transaction stand behind all others: also by number.
use Rattle.std.proofs.Common.{◌≡◌, ◌<◌, ◌≤◌, ◌+◌, ◌⊎◌, inl, inr, ℕ, zero, suc, Bool, true, false, cond, List, [], ◌∷◌, Some, map, filter, slice_get, ap, sym, ◌∙◌, arith, eq-eqb, eqb-true}
use Rattle.std.proofs.lemmas.Bool.{cases_order}
use Rattle.pg_heap.specs.declared.version.Version.{Version}
use Rattle.pg_heap.specs.Rows.{row_of}
use Rattle.pg_rows.specs.Stores.{StandBehind, Stored, StoreView, is_version_of, row_in, rows_of, stored_of}
use Rattle.pg_rows.proofs.Rows.{rows_at}
use Rattle.pg_table.specs.States.{IsTable, OwnStandBehind, TableState, table_shown}

-- the versions that pass a test
abbrev passing : (Stored → Bool) → List Stored → List Version
passing test versions = map (λ stored. stored.version) (filter test versions)

-- one version stands behind another
record InOrder (versions : List Version) (one other : Version) : Type 0 where
  pub earlier : ℕ
  pub later : ℕ
  pub lt : earlier < later
  pub first : slice_get versions earlier ≡ Some one
  pub second : slice_get versions later ≡ Some other

-- what passes a test stands among what passes
passing_at : (test : Stored → Bool) (versions : List Stored) (i : ℕ) (stored : Stored) → slice_get versions i ≡ Some stored → test stored ≡ true →
    (place : ℕ) × (slice_get (passing test versions) place ≡ Some stored.version)
passing_at test [] i stored is passes = absurd (cc is)
passing_at test (x ∷ xs) zero stored is passes =
    let same : x ≡ stored = cc is in
    let on : test x ≡ true = ap test same ∙ passes in
    (0, rw on (ap (λ s. Some s.version) same))
passing_at test (x ∷ xs) (suc i) stored is passes = at (test x) (passing_at test xs i stored is passes)
  where
    at : (b : Bool) → (place : ℕ) × (slice_get (passing test xs) place ≡ Some stored.version) →
        (place : ℕ) × (slice_get (map (λ s. s.version) (cond b (x ∷ filter test xs) (filter test xs))) place ≡ Some stored.version)
    at true found = (suc found.0, found.1)
    at false found = found

-- and in the same order
passing_order : (test : Stored → Bool) (versions : List Stored) (i j : ℕ) (one other : Stored) → i < j → slice_get versions i ≡ Some one →
    slice_get versions j ≡ Some other → test one ≡ true → test other ≡ true → InOrder (passing test versions) one.version other.version
passing_order test [] i j one other lt is there passes also = absurd (cc is)
passing_order test (x ∷ xs) i zero one other lt is there passes also = absurd (omega (arith, lt))
passing_order test (x ∷ xs) zero (suc j) one other lt is there passes also =
    let same : x ≡ one = cc is in
    let on : test x ≡ true = ap test same ∙ passes in
    let found = passing_at test xs j other there also in
    record {
      earlier = 0;
      later = suc found.0;
      lt = omega arith;
      first = rw on (ap (λ s. Some s.version) same);
      second = rw on found.1;
    }
passing_order test (x ∷ xs) (suc i) (suc j) one other lt is there passes also =
    at (test x) (passing_order test xs i j one other (omega (arith, lt)) is there passes also)
  where
    at : (b : Bool) → InOrder (passing test xs) one.version other.version →
        InOrder (map (λ s. s.version) (cond b (x ∷ filter test xs) (filter test xs))) one.version other.version
    at true found = let l = found.lt in record {
      earlier = suc found.earlier;
      later = suc found.later;
      lt = omega (arith, l);
      first = found.first;
      second = found.second;
    }
    at false found = found

-- the row of a number that was drawn
pub row_there : (store : StoreView) (row : ℕ) → 0 < row → row ≤ store.drawn → row_of (rows_of store) row ≡ Some (row_in store.versions row)
row_there store zero first within = absurd (omega (arith, first))
row_there store (suc i) first within =
    rows_at 1 store.drawn store.versions i (omega (arith, within)) ∙ ap (λ n. Some (row_in store.versions n)) (one_more i)
  where
    one_more : (i : ℕ) → 1 + i ≡ suc i
    one_more i = omega arith

pub stand_behind : (xact : ℕ) (state : TableState) → IsTable state → OwnStandBehind xact (table_shown state) → StandBehind xact state.store.versions
stand_behind xact state table behind own other one more is there mine its wrote not_wrote = at own other (cases_order other own) is there
  where
    after : (i j : ℕ) → i < j → slice_get state.store.versions i ≡ Some one → slice_get state.store.versions j ≡ Some more → ⊥
    after i j lt is there =
        let drawn = table.within (suc i) one is in
        let order = passing_order (is_version_of one.row) state.store.versions i j one more lt is there mine its in
        let writer = behind one.row order.earlier order.later (row_in state.store.versions one.row) one.version more.version
        (row_there state.store one.row drawn.0 drawn.1) order.lt order.first order.second (eqb-true one.version.writer xact wrote) in
        let both : false ≡ true = sym not_wrote ∙ eq-eqb more.version.writer xact writer in
        cc both

    at : (own other : ℕ) → (other ≡ own) ⊎ ((other < own) ⊎ (own < other)) → stored_of state.store.versions own ≡ Some one →
        stored_of state.store.versions other ≡ Some more → other < own
    at own other (inl e) is there =
        let same : one ≡ more = cc (e, is, there) in
        absurd (cc (same, wrote, not_wrote))
    at own other (inr (inl lt)) is there = lt
    at zero other (inr (inr gt)) is there = absurd (cc is)
    at (suc i) zero (inr (inr gt)) is there = absurd (cc there)
    at (suc i) (suc j) (inr (inr gt)) is there = absurd (after i j (omega (arith, gt)) is there)
