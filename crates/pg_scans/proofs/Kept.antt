-- What holds of a reading stays, whatever others do to the tables and the transactions.
use Rattle.std.proofs.Common.{◌≡◌, ◌≢◌, ◌≤◌, ◌+◌, ◌-◌, ◌⊎◌, inl, inr, ◌||◌, ℕ, suc, true, List, [], ◌∷◌, Option, Some, None, length, map, take, option_map, refl, ap, ap₂, sym, ◌∙◌, arith, append-nil, length-append}
use Rattle.std.specs.Option.{option_map_or}
use Rattle.std.specs.Prelude.{filter_map}
use Rattle.std.proofs.lemmas.Bool.{cases_eq}
use Rattle.std.proofs.lemmas.List.{length-map}
use Rattle.std.proofs.lemmas.List.Elements.{filter_map-append}
use Rattle.std.proofs.lemmas.Option.{slice_get-map}
use Rattle.pg_heap.proofs.Lists.{changed_here, changed_other}
use Rattle.pg_heap.specs.Seen.{is_own_earlier}
use Rattle.pg_heap.specs.declared.slot.State.TheVariants.{Settled}
use Rattle.pg_lists.specs.Numbered.{item_at, with_changed_item}
use Rattle.pg_rows.specs.Scans.{seen_among, seen_below}
use Rattle.pg_multi.specs.declared.strength.Strength.{Strength}
use Rattle.pg_rows.proofs.Rows.{rows_drafted}
use Rattle.pg_rows.specs.Stores.{Stored, draft_of}
use Rattle.pg_scans.proofs.Commits.{begun_kept, committed_kept, rolled_back_kept, running_unseen}
use Rattle.pg_scans.specs.Readings.{AreTables, IsReading, ReadingView, seen_in, versions_in}
use Rattle.pg_table.proofs.Scanned.{scanned_is}
use Rattle.pg_table.proofs.Shown.{placed_shown}
use Rattle.pg_table.proofs.Steady.{below_kept, commits_kept, erasing_kept, erasing_longer, erasing_rows, placing_kept, rollbacks_kept, settling_kept, staging_kept, writing_kept}
use Rattle.pg_table.specs.Scanned.{IsPlacedUnseen, IsStagedUnseen, IsUnseen, KeepCommits, in_row_order, seen_row_of}
use Rattle.pg_table.specs.States.{IsTable, TableState, row_erased_in, row_held_in, row_inserted_in, row_placed_in, row_staged_in, row_written_in, staged_number, state_ended, state_undone, table_shown, version_settled_in, waiting_number}
use Rattle.pg_values.specs.declared.value.Value.{Value}
use Rattle.pg_world.specs.Candidates.{seen_row, seen_rows}
use Rattle.pg_world.specs.declared.candidate.SeenRow.{SeenRow}
use Rattle.pg_xacts.proofs.Lists.{length_changed_from_one}
use Rattle.pg_xacts.proofs.Snapshots.{taken_begun, taken_committed, taken_rolled_back}
use Rattle.pg_xacts.specs.declared.me.Me.{Me}
use Rattle.pg_xacts.specs.Snapshots.{WasTakenOf}
use Rattle.pg_xacts.specs.Transactions.{Transactions, is_running, transaction_begun, transaction_committed, transaction_rolled_back}

-- a table shows a reader what it showed
record KeepsTable (before after : Transactions) (commits : ℕ) (me : Me) (old new : TableState) : Type 0 where
  pub longer : length old.store.versions ≤ length new.store.versions
  pub below : (from : ℕ) → from ≤ length old.store.versions + 1 →
      seen_below after commits me new.store.versions from ≡ seen_below before commits me old.store.versions from
  pub rows : seen_rows after commits me (table_shown new) ≡ seen_rows before commits me (table_shown old)

-- and so does each of the tables
abbrev KeepsAt : Transactions → Transactions → ℕ → Me → Option TableState → Option TableState → Type 0
KeepsAt before after commits me None None = Unit {0}
KeepsAt before after commits me (Some old) (Some new) = KeepsTable before after commits me old new
KeepsAt before after commits me _ _ = ⊥

abbrev KeepTables : Transactions → Transactions → ℕ → Me → List TableState → List TableState → Type 0
KeepTables before after commits me tables more = (number : ℕ) → KeepsAt before after commits me (item_at tables number) (item_at more number)

map_same : {X Y : Type 0} (f g : X → Y) → ((x : X) → f x ≡ g x) → (xs : List X) → map f xs ≡ map g xs
map_same f g same [] = refl
map_same f g same (x ∷ xs) = ap₂ (λ y ys. y ∷ ys) (same x) (map_same f g same xs)

-- then what holds of a reading stays
module _ (before after : Transactions) (tables more : List TableState) (reading : ReadingView)
    (keep : KeepTables before after reading.snapshot.commits reading.me tables more) where
  abbrev below_in : Transactions → List Stored → ℕ → List SeenRow
  below_in transactions versions from = map seen_row_of (seen_below transactions reading.snapshot.commits reading.me versions from)

  -- the versions of a table, up to a number
  abbrev KeepsVersions : List Stored → List Stored → Type 0
  KeepsVersions old new = (from : ℕ) → from ≤ length old + 1 → (from ≤ length new + 1) × (below_in before old from ≡ below_in after new from)

  none_kept : KeepsVersions [] []
  none_kept from le =
      let first : from - 1 ≡ 0 = omega (arith, le) in (
        le,
        ap (λ n. map seen_row_of (seen_among before reading.snapshot.commits reading.me [] 1 n)) first
            ∙ sym (ap (λ n. map seen_row_of (seen_among after reading.snapshot.commits reading.me [] 1 n)) first),
      )

  versions_kept : (o p : Option TableState) → KeepsAt before after reading.snapshot.commits reading.me o p →
      KeepsVersions (option_map_or (λ state. state.store.versions) o []) (option_map_or (λ state. state.store.versions) p [])
  versions_kept None None k = none_kept
  versions_kept None (Some new) k = absurd k
  versions_kept (Some old) None k = absurd k
  versions_kept (Some old) (Some new) k = λ from le.
      let longer = k.longer in (omega (arith, le, longer), ap (map seen_row_of) (sym (k.below from le)))

  present_kept : (o : Option ℕ) → KeepsVersions (option_map_or (versions_in tables) o []) (option_map_or (versions_in more) o [])
  present_kept None = none_kept
  present_kept (Some number) = versions_kept (item_at tables number) (item_at more number) (keep number)

  rows_kept : (o p : Option TableState) → KeepsAt before after reading.snapshot.commits reading.me o p →
      option_map_or (seen_rows before reading.snapshot.commits reading.me) (option_map table_shown o) []
      ≡ option_map_or (seen_rows after reading.snapshot.commits reading.me) (option_map table_shown p) []
  rows_kept None None k = refl
  rows_kept None (Some new) k = absurd k
  rows_kept (Some old) None k = absurd k
  rows_kept (Some old) (Some new) k = sym k.rows

  seen_kept : (number : ℕ) → seen_in tables before reading number ≡ seen_in more after reading number
  seen_kept number =
      ap (λ o. option_map_or (seen_rows before reading.snapshot.commits reading.me) o []) (slice_get-map table_shown tables number)
      ∙ (rows_kept (item_at tables number) (item_at more number) (keep number)
      ∙ sym (ap (λ o. option_map_or (seen_rows after reading.snapshot.commits reading.me) o []) (slice_get-map table_shown more number)))

  reading_kept : WasTakenOf after reading.snapshot → IsReading tables before reading → IsReading more after reading
  reading_kept taken is =
      let present = present_kept (item_at reading.tables (length reading.seen)) reading.from is.within in
      record {
        taken = taken;
        count = is.count;
        seen = is.seen ∙ map_same (seen_in tables before reading) (seen_in more after reading) seen_kept (take (length reading.seen) reading.tables);
        part = is.part ∙ present.1;
        first = is.first;
        within = present.0;
      }

-- where the same rows and versions were drawn, the rows seen stay as well
rows_by_below : (before after : Transactions) (commits : ℕ) (me : Me) (old new : TableState) → new.store.drawn ≡ old.store.drawn →
    length new.store.versions ≡ length old.store.versions →
    ((from : ℕ) → from ≤ length old.store.versions + 1 →
    seen_below after commits me new.store.versions from ≡ seen_below before commits me old.store.versions from) →
    KeepsTable before after commits me old new
rows_by_below before after commits me old new drawn count below = record {
  longer = omega (arith, count);
  below = below;
  rows =
      sym (scanned_is after commits me new)
      ∙ (ap₂ (λ n versions. in_row_order n (map seen_row_of versions)) drawn
      (ap (λ n. seen_below after commits me new.store.versions (n + 1)) count ∙ below (length old.store.versions + 1) (omega arith))
      ∙ scanned_is before commits me old);
}

-- the same transactions are seen
same_table : (before after : Transactions) (commits : ℕ) (me : Me) (state : TableState) → KeepCommits commits before after →
    KeepsTable before after commits me state state
same_table before after commits me state keep =
    rows_by_below before after commits me state state refl refl
    (below_kept before after commits me state.store.versions state.store.versions (λ version. ap (λ b. b || is_own_earlier me version) (keep version.writer))
    (omega arith) (λ m le. refl) (λ row m. refl))

same_tables : (before after : Transactions) (commits : ℕ) (me : Me) (tables : List TableState) → KeepCommits commits before after →
    KeepTables before after commits me tables tables
same_tables before after commits me tables keep number = at (item_at tables number)
  where
    at : (o : Option TableState) → KeepsAt before after commits me o o
    at None = tt
    at (Some state) = same_table before after commits me state keep

-- one table changes
module _ (transactions : Transactions) (commits : ℕ) (me : Me) (change : TableState → TableState) (tables : List TableState) (number : ℕ)
    (keeps : (state : TableState) → item_at tables number ≡ Some state → KeepsTable transactions transactions commits me state (change state)) where
  changed_kept : KeepTables transactions transactions commits me tables (with_changed_item change tables number)
  changed_kept other = at (cases_eq (suc other) (suc number))
    where
      here : (o : Option TableState) → item_at tables number ≡ o → KeepsAt transactions transactions commits me o (option_map change o)
      here None is = tt
      here (Some state) is = keeps state is

      at : (suc other ≡ suc number) ⊎ (suc other ≡ suc number → ⊥) →
          KeepsAt transactions transactions commits me (item_at tables other) (item_at (with_changed_item change tables number) other)
      at (inl e) =
          let same : other ≡ number = omega (arith, e) in
          rw (same, changed_here change tables (suc number)) (here (item_at tables number) refl)
      at (inr apart) =
          rw (changed_other change tables (suc number) (suc other) apart)
          (same_tables transactions transactions commits me tables (λ n. refl) other)

-- all tables change
mapped_kept : (before after : Transactions) (commits : ℕ) (me : Me) (change : TableState → TableState) (tables : List TableState) →
    ((state : TableState) → KeepsTable before after commits me state (change state)) → KeepTables before after commits me tables (map change tables)
mapped_kept before after commits me change tables keeps number = rw (slice_get-map change tables number) (at (item_at tables number))
  where
    at : (o : Option TableState) → KeepsAt before after commits me o (option_map change o)
    at None = tt
    at (Some state) = keeps state

-- a row is placed
placed_table : (transactions : Transactions) (commits : ℕ) (me by : Me) (values : List Value) (state : TableState) → IsTable state →
    KeepsTable transactions transactions commits me state (row_placed_in state by values)
placed_table transactions commits me by values state table = record {
  longer = let l = length-append state.store.versions (draft_of by (state.store.drawn + 1) (Some values) ∷ []) in omega (arith, l);
  below = placing_kept transactions commits me state by values;
  rows =
      ap (seen_rows transactions commits me) (placed_shown state by values table)
      ∙ (filter_map-append (seen_row transactions commits me) (table_shown state).rows
      (record { number = length (table_shown state).rows + 1; versions = [] } ∷ [])
      ∙ append-nil (seen_rows transactions commits me (table_shown state)));
}

pub placing_keeps : (tables : List TableState) (transactions : Transactions) (reading : ReadingView) (number : ℕ) (by : Me) (values : List Value) →
    AreTables tables → IsReading tables transactions reading →
    IsReading (with_changed_item (λ state. row_placed_in state by values) tables number) transactions reading
placing_keeps tables transactions reading number by values kept is =
    reading_kept transactions transactions tables (with_changed_item (λ state. row_placed_in state by values) tables number) reading
    (changed_kept transactions reading.snapshot.commits reading.me (λ state. row_placed_in state by values) tables number
    (λ state there. placed_table transactions reading.snapshot.commits reading.me by values state (kept number state there)))
    is.taken is

-- what was placed is stored
settled_size : (state : TableState) (o : Option ℕ) →
    ((version_settled_in state o).store.drawn ≡ state.store.drawn) × (length (version_settled_in state o).store.versions ≡ length state.store.versions)
settled_size state None = (refl, refl)
settled_size state (Some number) = (refl, length_changed_from_one (λ stored. record stored { state = Settled }) state.store.versions number)

pub settling_keeps : (tables : List TableState) (transactions : Transactions) (reading : ReadingView) (number row : ℕ) → AreTables tables →
    ((state : TableState) → item_at tables number ≡ Some state → IsPlacedUnseen transactions reading.snapshot.commits reading.me state row) →
    IsReading tables transactions reading →
    IsReading (with_changed_item (λ state. row_inserted_in state row) tables number) transactions reading
settling_keeps tables transactions reading number row kept unseen is =
    reading_kept transactions transactions tables (with_changed_item (λ state. row_inserted_in state row) tables number) reading
    (changed_kept transactions reading.snapshot.commits reading.me (λ state. row_inserted_in state row) tables number
    (λ state there.
    let size = settled_size state (waiting_number state row) in
    rows_by_below transactions transactions reading.snapshot.commits reading.me state (row_inserted_in state row) size.0 size.1
    (λ from. settling_kept transactions reading.snapshot.commits reading.me state row from (kept number state there) (unseen state there))))
    is.taken is

-- a row is locked
pub locking_keeps : (tables : List TableState) (transactions : Transactions) (reading : ReadingView) (number xact row : ℕ) (strength : Strength) →
    IsReading tables transactions reading →
    IsReading (with_changed_item (λ state. row_held_in state xact row strength) tables number) transactions reading
locking_keeps tables transactions reading number xact row strength is =
    reading_kept transactions transactions tables (with_changed_item (λ state. row_held_in state xact row strength) tables number) reading
    (changed_kept transactions reading.snapshot.commits reading.me (λ state. row_held_in state xact row strength) tables number
    (λ state there. record { longer = omega arith; below = λ from le. refl; rows = refl }))
    is.taken is

-- new values of a row are staged
staged_table : (transactions : Transactions) (commits : ℕ) (me by : Me) (row : ℕ) (values : List Value) (state : TableState) →
    KeepsTable transactions transactions commits me state (row_staged_in state by row values)
staged_table transactions commits me by row values state = record {
  longer = let l = length-append state.store.versions (draft_of by row (Some values) ∷ []) in omega (arith, l);
  below = staging_kept transactions commits me state by row values;
  rows = ap (filter_map (seen_row transactions commits me)) (rows_drafted state.store by row (Some values));
}

pub staging_keeps : (tables : List TableState) (transactions : Transactions) (reading : ReadingView) (number : ℕ) (by : Me) (row : ℕ) (values : List Value) →
    IsReading tables transactions reading →
    IsReading (with_changed_item (λ state. row_staged_in state by row values) tables number) transactions reading
staging_keeps tables transactions reading number by row values is =
    reading_kept transactions transactions tables (with_changed_item (λ state. row_staged_in state by row values) tables number) reading
    (changed_kept transactions reading.snapshot.commits reading.me (λ state. row_staged_in state by row values) tables number
    (λ state there. staged_table transactions reading.snapshot.commits reading.me by row values state))
    is.taken is

-- what was staged is written
pub writing_keeps : (tables : List TableState) (transactions : Transactions) (reading : ReadingView) (number row : ℕ) → AreTables tables →
    ((state : TableState) → item_at tables number ≡ Some state → IsStagedUnseen transactions reading.snapshot.commits reading.me state row) →
    IsReading tables transactions reading →
    IsReading (with_changed_item (λ state. row_written_in state row) tables number) transactions reading
writing_keeps tables transactions reading number row kept unseen is =
    reading_kept transactions transactions tables (with_changed_item (λ state. row_written_in state row) tables number) reading
    (changed_kept transactions reading.snapshot.commits reading.me (λ state. row_written_in state row) tables number
    (λ state there.
    let size = settled_size state (staged_number state row) in
    rows_by_below transactions transactions reading.snapshot.commits reading.me state (row_written_in state row) size.0 size.1
    (λ from. writing_kept transactions reading.snapshot.commits reading.me state row from (kept number state there) (unseen state there))))
    is.taken is

-- a row is erased
pub erasing_keeps : (tables : List TableState) (transactions : Transactions) (reading : ReadingView) (number : ℕ) (by : Me) (row : ℕ) →
    IsUnseen transactions reading.snapshot.commits reading.me by.xact → IsReading tables transactions reading →
    IsReading (with_changed_item (λ state. row_erased_in state by row) tables number) transactions reading
erasing_keeps tables transactions reading number by row unseen is =
    reading_kept transactions transactions tables (with_changed_item (λ state. row_erased_in state by row) tables number) reading
    (changed_kept transactions reading.snapshot.commits reading.me (λ state. row_erased_in state by row) tables number
    (λ state there. record {
      longer = erasing_longer transactions reading.snapshot.commits reading.me state by row unseen;
      below = erasing_kept transactions reading.snapshot.commits reading.me state by row unseen;
      rows = erasing_rows transactions reading.snapshot.commits reading.me state by row unseen;
    }))
    is.taken is

pub beginning_keeps : (tables : List TableState) (transactions : Transactions) (reading : ReadingView) (session : ℕ) →
    IsReading tables transactions reading → IsReading tables (transaction_begun transactions session) reading
beginning_keeps tables transactions reading session is =
    reading_kept transactions (transaction_begun transactions session) tables tables reading
    (same_tables transactions (transaction_begun transactions session) reading.snapshot.commits reading.me tables
    (begun_kept transactions reading.snapshot.commits session))
    (taken_begun transactions reading.snapshot session is.taken) is

pub commits_keep : (tables : List TableState) (transactions : Transactions) (reading : ReadingView) (xact : ℕ) →
    is_running transactions xact ≡ true → IsReading tables transactions reading →
    IsReading (map (state_ended xact) tables) (transaction_committed transactions xact) reading
commits_keep tables transactions reading xact runs is =
    reading_kept transactions (transaction_committed transactions xact) tables (map (state_ended xact) tables) reading
    (mapped_kept transactions (transaction_committed transactions xact) reading.snapshot.commits reading.me (state_ended xact) tables
    (λ state.
    rows_by_below transactions (transaction_committed transactions xact) reading.snapshot.commits reading.me state (state_ended xact state) refl
    (length-map _ _)
    (λ from. commits_kept transactions (transaction_committed transactions xact) reading.snapshot.commits reading.me state xact from
    (committed_kept transactions reading.snapshot xact runs is.taken))))
    (taken_committed transactions reading.snapshot xact runs is.taken) is

pub rollbacks_keep : (tables : List TableState) (transactions : Transactions) (reading : ReadingView) (xact : ℕ) →
    is_running transactions xact ≡ true → xact ≢ reading.me.xact → IsReading tables transactions reading →
    IsReading (map (state_undone xact) tables) (transaction_rolled_back transactions xact) reading
rollbacks_keep tables transactions reading xact runs apart is =
    reading_kept transactions (transaction_rolled_back transactions xact) tables (map (state_undone xact) tables) reading
    (mapped_kept transactions (transaction_rolled_back transactions xact) reading.snapshot.commits reading.me (state_undone xact) tables
    (λ state.
    rows_by_below transactions (transaction_rolled_back transactions xact) reading.snapshot.commits reading.me state (state_undone xact state) refl
    (length-map _ _)
    (λ from. rollbacks_kept transactions (transaction_rolled_back transactions xact) reading.snapshot.commits reading.me state xact from
    (rolled_back_kept transactions reading.snapshot.commits xact runs)
    (running_unseen transactions reading.snapshot.commits reading.me xact runs apart))))
    (taken_rolled_back transactions reading.snapshot xact runs is.taken) is
