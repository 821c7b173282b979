-- A row that is staged, written, erased or locked, in the part of the world that a table shows.
use Rattle.std.proofs.Common.{◌≡◌, ◌≢◌, ◌<◌, ◌≤◌, ◌+◌, ◌++◌, ◌⊎◌, inl, inr, ℕ, zero, suc, cond, false, List, [], ◌∷◌, Option, Some, None, length, option_map, option_and_then, slice_get, slice_set, refl, ap, ap₂, sym, ◌∙◌, arith, length-append}
use Rattle.std.specs.List.{cons_option}
use Rattle.std.specs.Option.{option_map_or}
use Rattle.std.proofs.lemmas.Bool.{cases_eq}
use Rattle.pg_values.specs.declared.value.Value.{Value}
use Rattle.pg_xacts.specs.declared.me.Me.{Me}
use Rattle.pg_lists.specs.Numbered.{with_changed_nth_item}
use Rattle.pg_heap.specs.Rows.{row_stored}
use Rattle.pg_heap.proofs.Lists.{changed_here}
use Rattle.pg_heap.specs.declared.version.Version.{Version}
use Rattle.pg_heap.specs.declared.slot.State.{State}
use Rattle.pg_heap.specs.declared.slot.State.TheVariants.{Dead, Placed, Settled}
use Rattle.pg_multi.specs.declared.strength.Strength.{Strength}
use Rattle.pg_rows.specs.Stores.{HasNoDraft, Stored, StoreView, draft_of, is_placed, is_version_of, rows_of, stored_of, version_drafted, with_version_state}
use Rattle.pg_rows.proofs.Rows.{rows_attached_at, rows_drafted}
use Rattle.pg_world.specs.declared.placed.PlacedRow.{PlacedRow}
use Rattle.pg_world.specs.Tables.{row_changed, row_locked}
use Rattle.pg_table.specs.declared.placing.DraftKind.TheVariants.{First, Next}
use Rattle.pg_table.specs.declared.placing.Placing.{Placing}
use Rattle.pg_table.specs.States.{IsTable, TableState, draft_under, of_kind, placed_from, placed_under, row_erased_in, row_held_in, row_staged_in, row_written_in, staged_at, staged_number, table_shown, version_settled_in, waiting_row, waiting_version}
use Rattle.pg_table.proofs.Drafted.{last_changed, nth_there}
use Rattle.pg_table.proofs.Kept.{nth_before, nth_behind, nth_case, nth_within}
use Rattle.pg_table.proofs.Shown.{draft_is, placed_same, settled_others, settled_rows, view_of}
use Rattle.pg_table.proofs.Waiting.{IsWaiting, kind_none, kind_some}

-- a transaction locks a row
pub held_shown : (state : TableState) (xact row : ℕ) (strength : Strength) →
    table_shown (row_held_in state xact row strength) ≡ row_locked (table_shown state) xact row strength
held_shown state xact row strength = refl

-- a draft of another kind, under a number under which nothing is placed, places nothing
placed_replaced : (first : ℕ) (placings : List Placing) (versions : List Stored) (i : ℕ) (old new : Placing) → slice_get placings i ≡ Some old →
    ((row : ℕ) → placed_under versions row old ≡ None) → new.kind ≡ Next →
    placed_from first (slice_set placings i new) versions ≡ placed_from first placings versions
placed_replaced first [] versions i old new is none next = refl
placed_replaced first (p ∷ ps) versions zero old new is none next =
    let same : p ≡ old = cc is in
    let nothing : placed_under versions first p ≡ None = ap (placed_under versions first) same ∙ none first in
    let here : placed_under versions first new ≡ None = ap (λ kind. of_kind First kind (draft_under versions first new)) next in
    ap (λ o. cons_option o (placed_from (first + 1) ps versions)) (here ∙ sym nothing)
placed_replaced first (p ∷ ps) versions (suc i) old new is none next =
    ap (λ xs. cons_option (placed_under versions first p) xs) (placed_replaced (first + 1) ps versions i old new is none next)

-- no draft of a row waits
no_draft_under : (versions : List Stored) (placing : Placing) (stored : Stored) → stored_of versions placing.version ≡ Some stored → stored.state ≢ Placed →
    (row : ℕ) → placed_under versions row placing ≡ None
no_draft_under versions placing stored is apart row =
    kind_none First placing.kind (draft_under versions row placing)
    (ap (λ o. option_and_then (waiting_row row placing) o) is ∙ at stored.state refl)
  where
    at : (s : State) → stored.state ≡ s → waiting_row row placing stored ≡ None
    at Placed is = absurd (apart is)
    at Settled is = rw is refl
    at Dead is = rw is refl

-- what is placed with one version more
placed_grown : (state : TableState) (new : Stored) → IsTable state →
    placed_from 1 state.placings (state.store.versions ++ new ∷ []) ≡ placed_from 1 state.placings state.store.versions
placed_grown state new table =
    placed_same 1 state.placings state.store.versions (state.store.versions ++ new ∷ [])
    (λ i p is.
    let f = table.named (suc i) p is in
    inr (nth_before state.store.versions new f.stored p.version f.is ∙ sym f.is))

-- what is staged is not shown
pub staged_shown : (state : TableState) (me : Me) (row : ℕ) (values : List Value) → IsTable state → HasNoDraft state.store.versions row →
    table_shown (row_staged_in state me row values) ≡ table_shown state
staged_shown state me row values table free =
    ap₂ (λ rows placed. view_of rows placed state.locks) (rows_drafted state.store me row (Some values)) (placed row free)
  where
    draft : Stored
    draft = draft_of me row (Some values)

    more : List Stored
    more = state.store.versions ++ draft ∷ []

    mine : Placing
    mine = record { session = me.session; version = length state.store.versions + 1; kind = Next }

    placed : (r : ℕ) → HasNoDraft state.store.versions r →
        placed_from 1 (with_changed_nth_item (λ placing. mine) state.placings r) more ≡ placed_from 1 state.placings state.store.versions
    placed zero none = placed_grown state draft table
    placed (suc i) none = at (slice_get state.placings i) refl
      where
        at : (o : Option Placing) → slice_get state.placings i ≡ o →
            placed_from 1 (option_map_or (λ p. slice_set state.placings i mine) o state.placings) more ≡ placed_from 1 state.placings state.store.versions
        at None is = placed_grown state draft table
        at (Some old) is =
            let f = table.named (suc i) old is in
            placed_replaced 1 state.placings more i old mine is
            (no_draft_under more old f.stored (nth_before state.store.versions draft f.stored old.version f.is) (none old.version f.stored f.is f.row_is)) refl
            ∙ placed_grown state draft table

-- the row's newest version says that it is gone
pub erased_shown : (state : TableState) (me : Me) (row : ℕ) → IsTable state → (0 < row) × (row ≤ state.store.drawn) →
    table_shown (row_erased_in state me row) ≡ row_changed (table_shown state) me row None
erased_shown state me row table drawn =
    ap₂ (λ rows placed. view_of rows placed state.locks)
    (rows_attached_at drafted (length state.store.versions + 1) draft within there refl last
    ∙ ap (λ rows. row_stored rows row draft.version) (rows_drafted state.store me row None))
    (ap (placed_from 1 state.placings) (last_changed (λ stored. record stored { state = Settled }) state.store.versions draft)
    ∙ placed_grown state (record draft { state = Settled }) table)
  where
    draft : Stored
    draft = draft_of me row None

    drafted : StoreView
    drafted = version_drafted state.store me row None

    next : length state.store.versions + 1 ≡ suc (length state.store.versions)
    next = omega arith

    there : stored_of drafted.versions (length state.store.versions + 1) ≡ Some draft
    there = ap (stored_of drafted.versions) next ∙ nth_behind state.store.versions draft

    within : (number : ℕ) (stored : Stored) → stored_of drafted.versions number ≡ Some stored → (0 < stored.row) × (stored.row ≤ drafted.drawn)
    within number stored is = at (nth_case state.store.versions draft stored number is)
      where
        at : (stored_of state.store.versions number ≡ Some stored) ⊎ ((number ≡ suc (length state.store.versions)) × (stored ≡ draft)) →
            (0 < stored.row) × (stored.row ≤ state.store.drawn)
        at (inl old) = table.within number stored old
        at (inr it) = rw it.1 drawn

    last : (other : ℕ) (more : Stored) → length state.store.versions + 1 < other → stored_of drafted.versions other ≡ Some more → is_version_of row more ≡ false
    last other more lt is =
        let h = nth_within drafted.versions more other is in
        let l = length-append state.store.versions (draft ∷ []) in
        absurd (omega (arith, h, l, lt))

-- what is staged for a row waits
module _ (state : TableState) (staged : PlacedRow) where
  pub record IsStaged (i : ℕ) : Type 0 where
    pub number : ℕ
    pub waits : IsWaiting Next state i number
    pub number_is : staged_number state (suc i) ≡ Some number
    pub version_is : waits.stored.version ≡ record { values = Some staged.values; writer = staged.me.xact; command = staged.me.command }

  pub staged_waits : (i : ℕ) → staged_at state (suc i) ≡ Some staged → IsStaged i
  staged_waits i is = at (slice_get state.placings i) refl is
    where
      at : (o : Option Placing) → slice_get state.placings i ≡ o →
          option_and_then (λ placing. of_kind Next placing.kind (draft_under state.store.versions (suc i) placing)) o ≡ Some staged → IsStaged i
      at None there e = absurd (cc e)
      at (Some p) there e =
          let k = kind_some Next p.kind (draft_under state.store.versions (suc i) p) staged e in
          let u = draft_is state.store.versions (suc i) p staged k.1 in
          record {
            number = p.version;
            waits = record {
              placing = p;
              at_row = there;
              kind_is = k.0;
              version = refl;
              stored = u.stored;
              is = u.is;
              state_is = u.state;
            };
            number_is = ap (λ o. option_and_then (λ placing. of_kind Next placing.kind (waiting_version state.store.versions placing)) o) there
                ∙ (ap (λ kind. of_kind Next kind (waiting_version state.store.versions p)) k.0
                ∙ (ap (λ o. option_and_then (λ stored. cond (is_placed stored.state) (Some p.version) None) o) u.is
                ∙ ap (λ s. cond (is_placed s) (Some p.version) None) u.state));
            version_is = version_of_parts u.stored.version u.values u.writer u.command;
          }
        where
          version_of_parts : (version : Version) → version.values ≡ Some staged.values → staged.me.xact ≡ version.writer → staged.me.command ≡ version.command →
              version ≡ record { values = Some staged.values; writer = staged.me.xact; command = staged.me.command }
          version_of_parts version values writer command = rw (← values, writer, command) refl

-- what is staged becomes the row's newest version
pub written_shown : (state : TableState) (row : ℕ) (staged : PlacedRow) → IsTable state → staged_at state row ≡ Some staged →
    table_shown (row_written_in state row) ≡ row_changed (table_shown state) staged.me row (Some staged.values)
written_shown state zero staged table is = absurd (cc is)
written_shown state (suc i) staged table is =
    let s = staged_waits state staged i is in
    ap (λ o. table_shown (version_settled_in state o)) s.number_is
    ∙ ap₂ (λ rows placed. view_of rows placed state.locks)
    (settled_rows Next state i s.number table s.waits ∙ ap (λ v. row_stored (rows_of state.store) (suc i) v) s.version_is)
    (placed_same 1 state.placings state.store.versions (with_version_state state.store s.number Settled).versions
    (λ j q there. others s j q there (cases_eq j i)))
  where
    others : (s : IsStaged state staged i) (j : ℕ) (q : Placing) → slice_get state.placings j ≡ Some q → (j ≡ i) ⊎ (j ≡ i → ⊥) →
        (q.kind ≡ Next) ⊎ (stored_of (with_version_state state.store s.number Settled).versions q.version ≡ stored_of state.store.versions q.version)
    others s j q there (inl e) =
        let mine = s.waits.at_row in
        let same : q ≡ s.waits.placing = cc (e, there, mine) in
        inl (ap (λ p. p.kind) same ∙ s.waits.kind_is)
    others s j q there (inr apart) = inr (settled_others Next state i s.number table s.waits j q apart there)

-- what was staged is staged
pub staged_there : (state : TableState) (me : Me) (row : ℕ) (values : List Value) → IsTable state → (0 < row) × (row ≤ state.store.drawn) →
    staged_at (row_staged_in state me row values) row ≡ Some (record { row = row; me = me; values = values })
staged_there state me row values table drawn =
    let old = nth_there state.placings row drawn.0 (let c = table.count in let le = drawn.1 in omega (arith, c, le)) in
    ap (λ o. option_and_then (λ placing. of_kind Next placing.kind (draft_under more row placing)) o)
    (changed_here (λ placing. mine) state.placings row ∙ ap (λ o. option_map (λ placing. mine) o) old.1)
    ∙ ap (λ o. option_and_then (waiting_row row mine) o) there
  where
    draft : Stored
    draft = draft_of me row (Some values)

    more : List Stored
    more = state.store.versions ++ draft ∷ []

    mine : Placing
    mine = record { session = me.session; version = length state.store.versions + 1; kind = Next }

    next : length state.store.versions + 1 ≡ suc (length state.store.versions)
    next = omega arith

    there : stored_of more (length state.store.versions + 1) ≡ Some draft
    there = ap (stored_of more) next ∙ nth_behind state.store.versions draft
