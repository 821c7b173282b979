-- What a statement saw of a table stays, whatever other transactions do to it.
use Rattle.std.proofs.Common.{◌≡◌, ◌<◌, ◌≤◌, ◌+◌, ◌-◌, ◌++◌, ◌⊎◌, inl, inr, ◌&&◌, ◌||◌, ℕ, zero, suc, Bool, true, false, cond, List, [], ◌∷◌, Option, Some, None, length, map, nat_eq, nat_lt, option_map, option_and_then, is_some, refl, ap, ap₂, sym, ◌∙◌, arith, append-nil, length-append, eqb-true, ne_eqb}
use Rattle.std.specs.Prelude.{filter_map}
use Rattle.std.specs.List.{cons_option}
use Rattle.std.specs.Option.{option_map_or}
use Rattle.std.proofs.Math.Bool.{and-false}
use Rattle.std.proofs.lemmas.Bool.{cases_eq}
use Rattle.std.proofs.lemmas.List.{length-map}
use Rattle.std.proofs.lemmas.Option.{slice_get_past}
use Rattle.pg_values.specs.declared.value.Value.{Value}
use Rattle.pg_xacts.specs.declared.me.Me.{Me}
use Rattle.pg_xacts.specs.Transactions.{Transactions, is_among_commits}
use Rattle.pg_xacts.proofs.Lists.{get_append_other, length_changed_from_one}
use Rattle.pg_lists.specs.Numbered.{with_changed_nth_item}
use Rattle.pg_heap.specs.declared.version.Version.{Version}
use Rattle.pg_heap.specs.declared.slot.State.{State}
use Rattle.pg_heap.specs.declared.slot.State.TheVariants.{Dead, Placed, Settled}
use Rattle.pg_heap.specs.Rows.{is_written_by, values_of}
use Rattle.pg_heap.specs.Seen.{is_own_earlier, is_seen}
use Rattle.pg_heap.proofs.Lists.{changed_here, changed_other}
use Rattle.pg_rows.specs.Stores.{Stored, draft_of, ended_state, ended_version, is_settled, is_version_of, last_accepted, passes, seen_number, stored_of, undone_version, version_of, with_values}
use Rattle.pg_rows.specs.Scans.{is_number, numbers_from, seen_among, seen_at, seen_below, seen_stored}
use Rattle.pg_rows.proofs.Numbers.{last_more, last_passes, last_same}
use Rattle.pg_rows.proofs.Shown.{among_more}
use Rattle.pg_world.specs.Candidates.{seen_rows}
use Rattle.pg_table.specs.declared.placing.DraftKind.{DraftKind}
use Rattle.pg_table.specs.declared.placing.DraftKind.TheVariants.{First, Next}
use Rattle.pg_table.specs.States.{IsTable, TableState, draft_under, of_kind, row_erased_in, row_inserted_in, row_placed_in, row_staged_in, row_written_in, staged_number, state_ended, state_undone, table_shown, version_settled_in, waiting_number}
use Rattle.pg_table.specs.Scanned.{IsPlacedUnseen, IsStagedUnseen, IsUnseen, KeepCommits, in_row_order, seen_row_of}
use Rattle.pg_table.proofs.Drafted.{last_changed}
use Rattle.pg_table.proofs.Kept.{differ_changed, differ_map, nth_behind, nth_map, unstated}
use Rattle.pg_table.proofs.Scanned.{scanned_is}
use Rattle.pg_table.proofs.Shown.{waiting_shown, waiting_values}
use Rattle.pg_table.proofs.Waiting.{IsWaiting, waiting_at}

-- whether a version of a row is seen
abbrev pub is_shown : Transactions → ℕ → Me → ℕ → Stored → Bool
is_shown transactions commits me row stored = is_version_of row stored && is_seen transactions commits me stored.version

-- where the same versions of each row are seen, and none is less, the same is seen below a number
module _ (before after : Transactions) (commits : ℕ) (me : Me) (versions more : List Stored)
    (writers : (version : Version) → is_seen after commits me version ≡ is_seen before commits me version)
    (longer : length versions ≤ length more)
    (same : (m : ℕ) → m ≤ length versions → option_map unstated (stored_of more m) ≡ option_map unstated (stored_of versions m))
    (shown : (row m : ℕ) → passes (is_shown before commits me row) more m ≡ passes (is_shown before commits me row) versions m) where
  past : (row m : ℕ) → length versions < m → passes (is_shown before commits me row) versions m ≡ false
  past row zero lt = absurd (omega (arith, lt))
  past row (suc i) lt = ap (λ o. option_map_or (is_shown before commits me row) o false) (slice_get_past versions i (omega (arith, lt)))

  tests : (row m : ℕ) (o : Option Stored) → option_map_or (is_shown after commits me row) o false ≡ option_map_or (is_shown before commits me row) o false
  tests row m None = refl
  tests row m (Some stored) = ap (λ b. is_version_of row stored && b) (writers stored.version)

  last_kept : (row : ℕ) → last_accepted (is_seen after commits me) more row ≡ last_accepted (is_seen before commits me) versions row
  last_kept row =
      last_same (passes (is_shown after commits me row) more) (passes (is_shown before commits me row) versions) (length more)
      (λ m first le. tests row m (stored_of more m) ∙ shown row m)
      ∙ last_more (passes (is_shown before commits me row) versions) (length versions) (length more) longer (λ m lt le. past row m lt)

  version_kept : (m : ℕ) → m ≤ length versions → version_of more m ≡ version_of versions m
  version_kept m le = sym (at (stored_of more m)) ∙ (ap (λ o. option_map (λ s. s.version) o) (same m le) ∙ at (stored_of versions m))
    where
      at : (o : Option Stored) → option_map (λ s. s.version) (option_map unstated o) ≡ option_map (λ s. s.version) o
      at None = refl
      at (Some stored) = refl

  number_kept : (row : ℕ) → seen_number after commits me more row ≡ seen_number before commits me versions row
  number_kept row = ap (with_values more) (last_kept row) ∙ at (last_accepted (is_seen before commits me) versions row) refl
    where
      at : (o : Option ℕ) → last_accepted (is_seen before commits me) versions row ≡ o → with_values more o ≡ with_values versions o
      at None is = refl
      at (Some k) is =
          let passed = last_passes (passes (is_shown before commits me row) versions) (length versions) k is in
          ap (λ v. cond (is_some (values_of v)) (Some k) None) (version_kept k passed.1.1)

  at_kept : (m : ℕ) → m ≤ length versions → seen_at after commits me more m ≡ seen_at before commits me versions m
  at_kept m le = at (stored_of more m) (stored_of versions m) (same m le)
    where
      at : (o p : Option Stored) → option_map unstated o ≡ option_map unstated p →
          option_and_then (seen_stored after commits me more m) o ≡ option_and_then (seen_stored before commits me versions m) p
      at None None e = refl
      at None (Some stored) e = absurd (cc e)
      at (Some stored) None e = absurd (cc e)
      at (Some one) (Some other) e =
          let s : unstated one ≡ unstated other = cc e in
          ap₂ (λ r v. cond (is_number (seen_number after commits me more r) m) (Some (record { row = r; number = m; version = v })) None) (ap (λ x. x.row) s) (ap (λ x. x.version) s)
          ∙ ap (λ n. cond (is_number n m) (Some (record { row = other.row; number = m; version = other.version })) None) (number_kept other.row)

  among_kept : (first count : ℕ) → first + count ≤ length versions + 1 →
      filter_map (seen_at after commits me more) (numbers_from first count) ≡ filter_map (seen_at before commits me versions) (numbers_from first count)
  among_kept first zero le = refl
  among_kept first (suc count) le =
      ap₂ (λ o xs. cons_option o xs) (at_kept first (omega (arith, le))) (among_kept (first + 1) count (omega (arith, le)))

  pub below_kept : (from : ℕ) → from ≤ length versions + 1 → seen_below after commits me more from ≡ seen_below before commits me versions from
  below_kept from le = among_kept 1 (from - 1) (omega (arith, le))

  -- a later number is not that of a version seen
  no_number_past : (row m : ℕ) → length versions < m → is_number (seen_number after commits me more row) m ≡ false
  no_number_past row m lt = ap (λ o. is_number o m) (number_kept row) ∙ at (last_accepted (is_seen before commits me) versions row) refl
    where
      apart : (b : Bool) (k : ℕ) → k ≤ length versions → is_number (cond b (Some k) None) m ≡ false
      apart true k within = ne_eqb k m (λ e. omega (arith, e, lt, within))
      apart false k within = refl

      at : (o : Option ℕ) → last_accepted (is_seen before commits me) versions row ≡ o → is_number (with_values versions o) m ≡ false
      at None is = refl
      at (Some k) is =
          apart (is_some (values_of (version_of versions k))) k (last_passes (passes (is_shown before commits me row) versions) (length versions) k is).1.1

  none_past : (m : ℕ) → length versions < m → seen_at after commits me more m ≡ None
  none_past m lt = at (stored_of more m)
    where
      at : (o : Option Stored) → option_and_then (seen_stored after commits me more m) o ≡ None
      at None = refl
      at (Some stored) = ap (λ b. cond b (Some (record { row = stored.row; number = m; version = stored.version })) None) (no_number_past stored.row m lt)

  -- so one version more shows no more
  pub whole_kept : length more ≡ suc (length versions) →
      seen_below after commits me more (length more + 1) ≡ seen_below before commits me versions (length versions + 1)
  whole_kept one_more =
      ap (seen_among after commits me more 1) (count_more (length more) one_more)
      ∙ (among_more after commits me more 1 (length versions)
      ∙ (ap₂ (λ xs o. xs ++ cons_option o []) (among_kept 1 (length versions) (omega arith)) (none_past (1 + length versions) (omega arith))
      ∙ (append-nil (seen_among before commits me versions 1 (length versions))
      ∙ ap (seen_among before commits me versions 1) (sym (less (length versions))))))
    where
      less : (n : ℕ) → n + 1 - 1 ≡ n
      less n = omega arith

      count_more : (n : ℕ) → n ≡ suc (length versions) → n + 1 - 1 ≡ suc (length versions)
      count_more n e = omega (arith, e)

-- the same transactions are seen where the same are among the commits
same_writers : (before after : Transactions) (commits : ℕ) (me : Me) → KeepCommits commits before after → (version : Version) →
    is_seen after commits me version ≡ is_seen before commits me version
same_writers before after commits me keep version = ap (λ b. b || is_own_earlier me version) (keep version.writer)

-- one version more that is not seen
module _ (transactions : Transactions) (commits : ℕ) (me : Me) (versions : List Stored) (new : Stored)
    (unseen : (row : ℕ) → is_shown transactions commits me row new ≡ false) where
  more_longer : length versions ≤ length (versions ++ new ∷ [])
  more_longer = let l = length-append versions (new ∷ []) in omega (arith, l)

  more_front : (m : ℕ) → m ≤ length versions → stored_of (versions ++ new ∷ []) m ≡ stored_of versions m
  more_front zero le = refl
  more_front (suc i) le = get_append_other versions new i (λ e. omega (arith, e, le))

  more_same : (m : ℕ) → m ≤ length versions → option_map unstated (stored_of (versions ++ new ∷ []) m) ≡ option_map unstated (stored_of versions m)
  more_same m le = ap (λ o. option_map unstated o) (more_front m le)

  more_shown : (row m : ℕ) → passes (is_shown transactions commits me row) (versions ++ new ∷ []) m ≡ passes (is_shown transactions commits me row) versions m
  more_shown row zero = refl
  more_shown row (suc i) = at (cases_eq i (length versions))
    where
      at : (i ≡ length versions) ⊎ (i ≡ length versions → ⊥) →
          passes (is_shown transactions commits me row) (versions ++ new ∷ []) (suc i) ≡ passes (is_shown transactions commits me row) versions (suc i)
      at (inl e) =
          rw e
          (ap (λ o. option_map_or (is_shown transactions commits me row) o false) (nth_behind versions new)
          ∙ (unseen row ∙ sym (ap (λ o. option_map_or (is_shown transactions commits me row) o false) (slice_get_past versions (length versions) (omega arith)))))
      at (inr apart) = ap (λ o. option_map_or (is_shown transactions commits me row) o false) (get_append_other versions new i apart)

  pub unseen_more : (from : ℕ) → from ≤ length versions + 1 →
      seen_below transactions commits me (versions ++ new ∷ []) from ≡ seen_below transactions commits me versions from
  unseen_more =
      below_kept transactions transactions commits me versions (versions ++ new ∷ []) (λ version. refl) more_longer more_same more_shown

  -- and all that is seen
  pub unseen_whole : seen_below transactions commits me (versions ++ new ∷ []) (length (versions ++ new ∷ []) + 1)
      ≡ seen_below transactions commits me versions (length versions + 1)
  unseen_whole =
      whole_kept transactions transactions commits me versions (versions ++ new ∷ []) (λ version. refl) more_longer more_same more_shown
      (let l = length-append versions (new ∷ []) in omega (arith, l))

-- rows are placed
pub placing_kept : (transactions : Transactions) (commits : ℕ) (me : Me) (state : TableState) (by : Me) (values : List Value) (from : ℕ) →
    from ≤ length state.store.versions + 1 →
    seen_below transactions commits me (row_placed_in state by values).store.versions from ≡ seen_below transactions commits me state.store.versions from
placing_kept transactions commits me state by values from le =
    unseen_more transactions commits me state.store.versions (draft_of by (state.store.drawn + 1) (Some values)) (λ row. refl) from le

-- new values are staged
pub staging_kept : (transactions : Transactions) (commits : ℕ) (me : Me) (state : TableState) (by : Me) (row : ℕ) (values : List Value) (from : ℕ) →
    from ≤ length state.store.versions + 1 →
    seen_below transactions commits me (row_staged_in state by row values).store.versions from ≡ seen_below transactions commits me state.store.versions from
staging_kept transactions commits me state by row values from le =
    unseen_more transactions commits me state.store.versions (draft_of by row (Some values)) (λ row. refl) from le

-- a transaction that is not seen writes what is not seen
unseen_version : (transactions : Transactions) (commits : ℕ) (me : Me) (xact : ℕ) (version : Version) → IsUnseen transactions commits me xact →
    version.writer ≡ xact → is_seen transactions commits me version ≡ false
unseen_version transactions commits me xact version unseen is =
    ap₂ (λ b c. b || (c && nat_lt version.command me.command)) (ap (is_among_commits transactions commits) is ∙ unseen.late) (ap (λ n. nat_eq n me.xact) is ∙ unseen.other)

-- others erase a row
module _ (transactions : Transactions) (commits : ℕ) (me : Me) (state : TableState) (by : Me) (row : ℕ) (unseen : IsUnseen transactions commits me by.xact) where
  abbrev gone : Stored
  gone = record (draft_of by row None) { state = Settled }

  hidden : (r : ℕ) → is_shown transactions commits me r gone ≡ false
  hidden r =
      ap (λ b. is_version_of r gone && b) (unseen_version transactions commits me by.xact gone.version unseen refl)
      ∙ and-false (is_version_of r gone)

  erased_versions : (row_erased_in state by row).store.versions ≡ state.store.versions ++ gone ∷ []
  erased_versions = last_changed (λ stored. record stored { state = Settled }) state.store.versions (draft_of by row None)

  pub erasing_kept : (from : ℕ) → from ≤ length state.store.versions + 1 →
      seen_below transactions commits me (row_erased_in state by row).store.versions from ≡ seen_below transactions commits me state.store.versions from
  erasing_kept from le =
      ap (λ versions. seen_below transactions commits me versions from) erased_versions
      ∙ unseen_more transactions commits me state.store.versions gone hidden from le

  -- the rows that are seen stay as well
  pub erasing_rows : seen_rows transactions commits me (table_shown (row_erased_in state by row)) ≡ seen_rows transactions commits me (table_shown state)
  erasing_rows =
      sym (scanned_is transactions commits me (row_erased_in state by row))
      ∙ (ap (λ versions. in_row_order state.store.drawn (map seen_row_of (seen_below transactions commits me versions (length versions + 1)))) erased_versions
      ∙ (ap (λ seen. in_row_order state.store.drawn (map seen_row_of seen)) (unseen_whole transactions commits me state.store.versions gone hidden)
      ∙ scanned_is transactions commits me state))

  pub erasing_longer : length state.store.versions ≤ length (row_erased_in state by row).store.versions
  erasing_longer =
      let l = length-append state.store.versions (gone ∷ []) in
      let e = ap (λ versions. length versions) erased_versions in
      omega (arith, l, e)

-- a draft that is not seen is settled
settled_kept : (kind : DraftKind) (transactions : Transactions) (commits : ℕ) (me : Me) (state : TableState) (i number from : ℕ) →
    (w : IsWaiting kind state i number) → is_seen transactions commits me w.stored.version ≡ false → from ≤ length state.store.versions + 1 →
    seen_below transactions commits me (version_settled_in state (Some number)).store.versions from ≡ seen_below transactions commits me state.store.versions from
settled_kept kind transactions commits me state i number from w hidden le =
    below_kept transactions transactions commits me state.store.versions more (λ version. refl)
    (longer (length more) (length_changed_from_one settled state.store.versions number))
    (λ m le. differ_changed settled (λ stored. refl) state.store.versions number m) (λ row m. shown row m (cases_eq m number)) from le
  where
    settled : Stored → Stored
    settled stored = record stored { state = Settled }

    more : List Stored
    more = with_changed_nth_item settled state.store.versions number

    longer : (n : ℕ) → n ≡ length state.store.versions → length state.store.versions ≤ n
    longer n e = omega (arith, e)

    shown : (row m : ℕ) → (m ≡ number) ⊎ (m ≡ number → ⊥) → passes (is_shown transactions commits me row) more m ≡ passes (is_shown transactions commits me row) state.store.versions m
    shown row m (inl e) =
        rw e
        (ap (λ o. option_map_or (is_shown transactions commits me row) o false) (changed_here settled state.store.versions number ∙ ap (λ o. option_map settled o) w.is)
        ∙ (ap (λ b. is_version_of row (settled w.stored) && b) hidden
        ∙ (and-false (is_version_of row (settled w.stored))
        ∙ (sym (and-false (is_version_of row w.stored))
        ∙ (ap (λ b. is_version_of row w.stored && b) (sym hidden)
        ∙ sym (ap (λ o. option_map_or (is_shown transactions commits me row) o false) w.is))))))
    shown row m (inr apart) =
        ap (λ o. option_map_or (is_shown transactions commits me row) o false) (changed_other settled state.store.versions number m apart)

-- others settle
pub settling_kept : (transactions : Transactions) (commits : ℕ) (me : Me) (state : TableState) (row from : ℕ) → IsTable state →
    IsPlacedUnseen transactions commits me state row → from ≤ length state.store.versions + 1 →
    seen_below transactions commits me (row_inserted_in state row).store.versions from ≡ seen_below transactions commits me state.store.versions from
settling_kept transactions commits me state row from table unseen le = at row (waiting_number state row) refl unseen
  where
    at : (row : ℕ) (o : Option ℕ) → waiting_number state row ≡ o → IsPlacedUnseen transactions commits me state row →
        seen_below transactions commits me (version_settled_in state o).store.versions from ≡ seen_below transactions commits me state.store.versions from
    at row None none unseen = refl
    at zero (Some number) is unseen = absurd (cc is)
    at (suc i) (Some number) is unseen =
        let w = waiting_at First state i number is in
        let v = waiting_shown state i number table w in
        settled_kept First transactions commits me state i number from w
        (unseen_version transactions commits me w.stored.version.writer w.stored.version
        (unseen (record { row = suc i; me = record { session = w.placing.session; xact = w.stored.version.writer; command = w.stored.version.command }; values = v.0 }) v.1.1) refl)
        le

-- others write what they staged
pub writing_kept : (transactions : Transactions) (commits : ℕ) (me : Me) (state : TableState) (row from : ℕ) → IsTable state →
    IsStagedUnseen transactions commits me state row → from ≤ length state.store.versions + 1 →
    seen_below transactions commits me (row_written_in state row).store.versions from ≡ seen_below transactions commits me state.store.versions from
writing_kept transactions commits me state row from table unseen le = at row (staged_number state row) refl unseen
  where
    at : (row : ℕ) (o : Option ℕ) → staged_number state row ≡ o → IsStagedUnseen transactions commits me state row →
        seen_below transactions commits me (version_settled_in state o).store.versions from ≡ seen_below transactions commits me state.store.versions from
    at row None none unseen = refl
    at zero (Some number) is unseen = absurd (cc is)
    at (suc i) (Some number) is unseen =
        let w = waiting_at Next state i number is in
        let v = waiting_values Next state i number table w in
        let there = ap (λ o. option_and_then (λ p. of_kind Next p.kind (draft_under state.store.versions (suc i) p)) o) w.at_row
        ∙ (ap (λ kind. of_kind Next kind (draft_under state.store.versions (suc i) w.placing)) w.kind_is ∙ v.1.1) in
        settled_kept Next transactions commits me state i number from w
        (unseen_version transactions commits me w.stored.version.writer w.stored.version
        (unseen (record { row = suc i; me = record { session = w.placing.session; xact = w.stored.version.writer; command = w.stored.version.command }; values = v.0 }) there) refl)
        le

-- where all versions are changed in state alone, and the same are seen
mapped_kept : (change : Stored → Stored) → ((stored : Stored) → unstated (change stored) ≡ unstated stored) →
    (before after : Transactions) (commits : ℕ) (me : Me) (versions : List Stored) (from : ℕ) → KeepCommits commits before after →
    ((row : ℕ) (stored : Stored) → is_shown before commits me row (change stored) ≡ is_shown before commits me row stored) →
    from ≤ length versions + 1 → seen_below after commits me (map change versions) from ≡ seen_below before commits me versions from
mapped_kept change kept before after commits me versions from keep shown le =
    below_kept before after commits me versions (map change versions) (same_writers before after commits me keep)
    (longer (length (map change versions)) (length-map versions change)) (λ m le. differ_map change kept versions m) passed from le
  where
    longer : (n : ℕ) → n ≡ length versions → length versions ≤ n
    longer n e = omega (arith, e)

    at : (row : ℕ) (o : Option Stored) → option_map_or (is_shown before commits me row) (option_map change o) false ≡ option_map_or (is_shown before commits me row) o false
    at row None = refl
    at row (Some stored) = shown row stored

    passed : (row m : ℕ) → passes (is_shown before commits me row) (map change versions) m ≡ passes (is_shown before commits me row) versions m
    passed row m = ap (λ o. option_map_or (is_shown before commits me row) o false) (nth_map change versions m) ∙ at row (stored_of versions m)

-- others commit
pub commits_kept : (before after : Transactions) (commits : ℕ) (me : Me) (state : TableState) (xact from : ℕ) → KeepCommits commits before after →
    from ≤ length state.store.versions + 1 →
    seen_below after commits me (state_ended xact state).store.versions from ≡ seen_below before commits me state.store.versions from
commits_kept before after commits me state xact from keep le =
    mapped_kept (ended_version xact) (λ stored. refl) before after commits me state.store.versions from keep shown le
  where
    settled : (b : Bool) (s : State) → is_settled (ended_state b s) ≡ is_settled s
    settled true Placed = refl
    settled true Settled = refl
    settled true Dead = refl
    settled false s = refl

    shown : (row : ℕ) (stored : Stored) → is_shown before commits me row (ended_version xact stored) ≡ is_shown before commits me row stored
    shown row stored = ap (λ b. (b && nat_eq stored.row row) && is_seen before commits me stored.version) (settled (is_written_by xact stored.version) stored.state)

-- others are rolled back
pub rollbacks_kept : (before after : Transactions) (commits : ℕ) (me : Me) (state : TableState) (xact from : ℕ) → KeepCommits commits before after →
    IsUnseen before commits me xact → from ≤ length state.store.versions + 1 →
    seen_below after commits me (state_undone xact state).store.versions from ≡ seen_below before commits me state.store.versions from
rollbacks_kept before after commits me state xact from keep unseen le =
    mapped_kept (undone_version xact) (λ stored. refl) before after commits me state.store.versions from keep shown le
  where
    shown : (row : ℕ) (stored : Stored) → is_shown before commits me row (undone_version xact stored) ≡ is_shown before commits me row stored
    shown row stored = at (is_written_by xact stored.version) refl
      where
        at : (b : Bool) → is_written_by xact stored.version ≡ b → is_shown before commits me row (undone_version xact stored) ≡ is_shown before commits me row stored
        at false by = rw by refl
        at true by =
            let hidden = unseen_version before commits me xact stored.version unseen (eqb-true stored.version.writer xact by) in
            rw hidden (and-false (is_version_of row (undone_version xact stored)) ∙ sym (and-false (is_version_of row stored)))
