-- What holds of a table is kept by all that is done to it.
use Rattle.std.proofs.Common.{◌≡◌, ◌<◌, ◌≤◌, ◌+◌, ◌++◌, ◌⊎◌, inl, inr, ℕ, zero, suc, Bool, true, false, List, [], ◌∷◌, Option, Some, None, length, map, nat_eq, option_map, slice_get, refl, ap, subst, sym, ◌∙◌, arith, length-append, eqb-true}
use Rattle.std.proofs.lemmas.Bool.{and_parts, cases_eq}
use Rattle.std.proofs.lemmas.List.{length-map}
use Rattle.std.proofs.lemmas.Option.{slice_get-map, slice_get_within}
use Rattle.pg_multi.specs.declared.row_lock.RowLock.{RowLock}
use Rattle.pg_values.specs.declared.value.Value.{Value}
use Rattle.pg_xacts.specs.declared.me.Me.{Me}
use Rattle.pg_xacts.proofs.Lists.{get_append_other}
use Rattle.pg_lists.specs.Numbered.{nth_item, with_changed_nth_item}
use Rattle.pg_heap.specs.declared.slot.State.{State}
use Rattle.pg_heap.specs.declared.slot.State.TheVariants.{Dead, Placed, Settled}
use Rattle.pg_heap.specs.Rows.{is_written_by}
use Rattle.pg_heap.proofs.Lists.{changed_here, changed_other, get_before, get_behind, read_kept}
use Rattle.pg_locks.specs.Locks.{locks_ended}
use Rattle.pg_rows.specs.Stores.{HasNoDraft, StandsLast, Stored, draft_of, ended_state, ended_version, is_settled, is_version_of, stored_of, undone_state, undone_version}
use Rattle.pg_rows.proofs.Stored.{in_state}
use Rattle.pg_table.specs.declared.placing.DraftKind.{DraftKind}
use Rattle.pg_table.specs.declared.placing.DraftKind.TheVariants.{First}
use Rattle.pg_table.specs.declared.placing.Placing.{Placing}
use Rattle.pg_table.specs.States.{DraftsStandLast, IsDrawnFor, IsTable, TableState, draft_number, row_placed_in, state_ended, state_undone, version_settled_in}
use Rattle.pg_table.proofs.Waiting.{waiting_at}

-- a version without its state
abbrev pub unstated : Stored → Stored
unstated stored = record stored { state = Dead }

-- versions that differ in their states alone
abbrev pub DifferInState : List Stored → List Stored → Type 0
DifferInState versions more = (m : ℕ) → option_map unstated (stored_of more m) ≡ option_map unstated (stored_of versions m)

-- a version of the ones among the others
across : (versions more : List Stored) (m : ℕ) (stored : Stored) → option_map unstated (stored_of more m) ≡ option_map unstated (stored_of versions m) →
    stored_of versions m ≡ Some stored → (found : Stored) × ((stored_of more m ≡ Some found) × (unstated found ≡ unstated stored))
across versions more m stored same is = at (stored_of more m) refl (same ∙ ap (λ o. option_map unstated o) is)
  where
    at : (o : Option Stored) → stored_of more m ≡ o → option_map unstated o ≡ Some (unstated stored) →
        (found : Stored) × ((stored_of more m ≡ Some found) × (unstated found ≡ unstated stored))
    at None there e = absurd (cc e)
    at (Some found) there e = (found, (there, cc e))

-- of versions that differ in their states alone, some are no longer drafts, and what was dead is dead
pub record LoseDrafts (versions more : List Stored) : Type 0 where
  pub same : DifferInState versions more
  pub placed : (m : ℕ) (stored : Stored) → stored_of more m ≡ Some stored → stored.state ≡ Placed → stored_of versions m ≡ Some stored
  pub dead : (m : ℕ) (stored : Stored) → stored_of versions m ≡ Some stored → stored.state ≡ Dead → stored_of more m ≡ Some stored

-- such states, and as many locks, keep what holds of a table
abbrev pub with_parts : TableState → List Stored → List (List RowLock) → TableState
with_parts state versions locks = record state { store = record state.store { versions = versions }; locks = locks }

table_states : (state : TableState) (versions : List Stored) (locks : List (List RowLock)) → LoseDrafts state.store.versions versions →
    length locks ≡ length state.locks → IsTable state → IsTable (with_parts state versions locks)
table_states state versions locks lose count table = record {
  count = table.count;
  locked = count ∙ table.locked;
  within = λ number stored is.
      let old = across versions state.store.versions number stored (sym (lose.same number)) is in
      rw (ap (λ s. s.row) (sym old.1.1)) (table.within number old.0 old.1.0);
  named = λ row placing is.
      let f = table.named row placing is in
      let new = across state.store.versions versions placing.version f.stored (lose.same placing.version) f.is in
      record {
        stored = new.0;
        values = f.values;
        is = new.1.0;
        row_is = ap (λ s. s.row) new.1.1 ∙ f.row_is;
        values_are = ap (λ s. s.version.values) new.1.1 ∙ f.values_are;
      };
  waits = λ number stored is placed. table.waits number stored (lose.placed number stored is placed) placed;
  last = λ draft other stored more is placed there row lt.
      let old = across versions state.store.versions other more (sym (lose.same other)) there in
      let dead = table.last draft other stored old.0 (lose.placed draft stored is placed) placed old.1.0 (ap (λ s. s.row) old.1.1 ∙ row) lt in
      let still = lose.dead other old.0 old.1.0 dead in
      let same : more ≡ old.0 = cc (there, still) in
      ap (λ s. s.state) same ∙ dead;
}

-- the version of a number, where all are changed
pub nth_map : (change : Stored → Stored) (versions : List Stored) (m : ℕ) → stored_of (map change versions) m ≡ option_map change (stored_of versions m)
nth_map change versions zero = refl
nth_map change versions (suc before) = slice_get-map change versions before

pub differ_map : (change : Stored → Stored) → ((stored : Stored) → unstated (change stored) ≡ unstated stored) → (versions : List Stored) →
    DifferInState versions (map change versions)
differ_map change same versions m = ap (λ o. option_map unstated o) (nth_map change versions m) ∙ at (stored_of versions m)
  where
    at : (o : Option Stored) → option_map unstated (option_map change o) ≡ option_map unstated o
    at None = refl
    at (Some stored) = ap Some (same stored)

pub differ_changed : (change : Stored → Stored) → ((stored : Stored) → unstated (change stored) ≡ unstated stored) → (versions : List Stored) (number : ℕ) →
    DifferInState versions (with_changed_nth_item change versions number)
differ_changed change same versions number m = read_kept (λ o. option_map unstated o) change versions number m at
  where
    at : (o : Option Stored) → option_map unstated (option_map change o) ≡ option_map unstated o
    at None = refl
    at (Some stored) = ap Some (same stored)

-- all versions are changed
lose_map : (change : Stored → Stored) → ((stored : Stored) → unstated (change stored) ≡ unstated stored) →
    ((stored : Stored) → (change stored).state ≡ Placed → change stored ≡ stored) →
    ((stored : Stored) → stored.state ≡ Dead → change stored ≡ stored) → (versions : List Stored) → LoseDrafts versions (map change versions)
lose_map change same placed dead versions = record {
  same = differ_map change same versions;
  placed = λ m stored is state. at m (stored_of versions m) refl stored (sym (nth_map change versions m) ∙ is) state;
  dead = λ m stored is state. nth_map change versions m ∙ (ap (λ o. option_map change o) is ∙ ap Some (dead stored state));
}
  where
    at : (m : ℕ) (o : Option Stored) → stored_of versions m ≡ o → (stored : Stored) → option_map change o ≡ Some stored → stored.state ≡ Placed →
        stored_of versions m ≡ Some stored
    at m None there stored is state = absurd (cc is)
    at m (Some old) there stored is state =
        let changed : change old ≡ stored = cc is in
        there ∙ ap Some (sym (placed old (ap (λ s. s.state) changed ∙ state)) ∙ changed)

undone_placed : (xact : ℕ) (stored : Stored) → (undone_version xact stored).state ≡ Placed → undone_version xact stored ≡ stored
undone_placed xact stored is = at (is_written_by xact stored.version) refl is
  where
    at : (b : Bool) → is_written_by xact stored.version ≡ b → undone_state b stored.state ≡ Placed → undone_version xact stored ≡ stored
    at true by is = absurd (cc is)
    at false by is = rw by refl

undone_dead : (xact : ℕ) (stored : Stored) → stored.state ≡ Dead → undone_version xact stored ≡ stored
undone_dead xact stored is = at (is_written_by xact stored.version) refl
  where
    at : (b : Bool) → is_written_by xact stored.version ≡ b → undone_version xact stored ≡ stored
    at true by = rw by (ap (λ s. record stored { state = s }) (sym is))
    at false by = rw by refl

ended_placed : (xact : ℕ) (stored : Stored) → (ended_version xact stored).state ≡ Placed → ended_version xact stored ≡ stored
ended_placed xact stored is = at (is_written_by xact stored.version) stored.state refl refl is
  where
    at : (b : Bool) (s : State) → is_written_by xact stored.version ≡ b → stored.state ≡ s → ended_state b s ≡ Placed → ended_version xact stored ≡ stored
    at true Placed by state is = absurd (cc is)
    at true Settled by state is = absurd (cc is)
    at true Dead by state is = absurd (cc is)
    at false s by state is = rw by refl

ended_dead : (xact : ℕ) (stored : Stored) → stored.state ≡ Dead → ended_version xact stored ≡ stored
ended_dead xact stored is = at (is_written_by xact stored.version) refl
  where
    at : (b : Bool) → is_written_by xact stored.version ≡ b → ended_version xact stored ≡ stored
    at true by = rw by (ap (λ s. record stored { state = ended_state true s }) is ∙ ap (λ s. record stored { state = s }) (sym is))
    at false by = rw by refl

pub table_undone : (xact : ℕ) (state : TableState) → IsTable state → IsTable (state_undone xact state)
table_undone xact state table =
    table_states state (map (undone_version xact) state.store.versions) (locks_ended xact state.locks)
    (lose_map (undone_version xact) (λ stored. refl) (undone_placed xact) (undone_dead xact) state.store.versions)
    (length-map _ _) table

pub table_ended : (xact : ℕ) (state : TableState) → IsTable state → IsTable (state_ended xact state)
table_ended xact state table =
    table_states state (map (ended_version xact) state.store.versions) (locks_ended xact state.locks)
    (lose_map (ended_version xact) (λ stored. refl) (ended_placed xact) (ended_dead xact) state.store.versions)
    (length-map _ _) table

-- a draft becomes one of its row's versions
lose_settled : (versions : List Stored) (number : ℕ) (draft : Stored) → stored_of versions number ≡ Some draft → draft.state ≡ Placed →
    LoseDrafts versions (with_changed_nth_item (λ stored. record stored { state = Settled }) versions number)
lose_settled versions number draft is waits = record {
  same = differ_changed (λ stored. record stored { state = Settled }) (λ stored. refl) versions number;
  placed = λ m stored there state. placed m stored (cases_eq m number) there state;
  dead = λ m stored there state. dead m stored (cases_eq m number) there state;
}
  where
    settled : Stored
    settled = record draft { state = Settled }

    more : List Stored
    more = with_changed_nth_item (λ stored. record stored { state = Settled }) versions number

    here : stored_of more number ≡ Some settled
    here = changed_here (in_state Settled) versions number ∙ ap (λ o. option_map (in_state Settled) o) is

    placed : (m : ℕ) (stored : Stored) → (m ≡ number) ⊎ (m ≡ number → ⊥) → stored_of more m ≡ Some stored → stored.state ≡ Placed → stored_of versions m ≡ Some stored
    placed m stored (inl e) there state =
        let same : settled ≡ stored = cc (e, here, there) in
        let both : Settled ≡ Placed = ap (λ s. s.state) same ∙ state in
        absurd (cc both)
    placed m stored (inr apart) there state = sym (changed_other (λ stored. record stored { state = Settled }) versions number m apart) ∙ there

    dead : (m : ℕ) (stored : Stored) → (m ≡ number) ⊎ (m ≡ number → ⊥) → stored_of versions m ≡ Some stored → stored.state ≡ Dead → stored_of more m ≡ Some stored
    dead m stored (inl e) there state =
        let same : draft ≡ stored = cc (e, is, there) in
        let both : Placed ≡ Dead = sym waits ∙ (ap (λ s. s.state) same ∙ state) in
        absurd (cc both)
    dead m stored (inr apart) there state = changed_other (λ stored. record stored { state = Settled }) versions number m apart ∙ there

pub table_settled : (kind : DraftKind) (state : TableState) (row : ℕ) → IsTable state → IsTable (version_settled_in state (draft_number kind state row))
table_settled kind state row table = at row (draft_number kind state row) refl
  where
    at : (row : ℕ) (o : Option ℕ) → draft_number kind state row ≡ o → IsTable (version_settled_in state o)
    at row None is = table
    at zero (Some number) is = absurd (cc is)
    at (suc i) (Some number) is =
        let w = waiting_at kind state i number is in
        table_states state (with_changed_nth_item (λ stored. record stored { state = Settled }) state.store.versions number) state.locks
        (lose_settled state.store.versions number w.stored w.is w.state_is) refl table

pub table_settled_at : (kind : DraftKind) (state : TableState) (row number : ℕ) → Some number ≡ draft_number kind state row → IsTable state →
    IsTable (version_settled_in state (Some number))
table_settled_at kind state row number is table = subst (λ o. IsTable (version_settled_in state o)) (sym is) (table_settled kind state row table)

-- an item of a list with one more behind it
pub nth_behind : {X : Type 0} (xs : List X) (x : X) → nth_item (xs ++ x ∷ []) (suc (length xs)) ≡ Some x
nth_behind xs x = get_behind xs x

pub nth_before : {X : Type 0} (xs : List X) (x y : X) (m : ℕ) → nth_item xs m ≡ Some y → nth_item (xs ++ x ∷ []) m ≡ Some y
nth_before xs x y zero is = absurd (cc is)
nth_before xs x y (suc before) is = get_before xs (x ∷ []) before y is

pub nth_case : {X : Type 0} (xs : List X) (x y : X) (m : ℕ) → nth_item (xs ++ x ∷ []) m ≡ Some y →
    (nth_item xs m ≡ Some y) ⊎ ((m ≡ suc (length xs)) × (y ≡ x))
nth_case xs x y zero is = absurd (cc is)
nth_case xs x y (suc i) is = at (cases_eq i (length xs))
  where
    at : (i ≡ length xs) ⊎ (i ≡ length xs → ⊥) → (slice_get xs i ≡ Some y) ⊎ ((suc i ≡ suc (length xs)) × (y ≡ x))
    at (inl e) =
        let there : slice_get (xs ++ x ∷ []) (length xs) ≡ Some y = ap (slice_get (xs ++ x ∷ [])) (sym e) ∙ is in
        inr (ap suc e, cc (there, get_behind xs x))
    at (inr apart) = inl (sym (get_append_other xs x i apart) ∙ is)

pub nth_within : {X : Type 0} (xs : List X) (x : X) (m : ℕ) → nth_item xs m ≡ Some x → m ≤ length xs
nth_within xs x zero is = absurd (cc is)
nth_within xs x (suc i) is = let h = slice_get_within xs i x is in omega (arith, h)

-- one version more, of a row of which no draft waits
pub last_more : (versions : List Stored) (new : Stored) → DraftsStandLast versions → HasNoDraft versions new.row → DraftsStandLast (versions ++ new ∷ [])
last_more versions new last none draft other stored more is placed there row lt =
    at (nth_case versions new stored draft is) (nth_case versions new more other there)
  where
    at : (stored_of versions draft ≡ Some stored) ⊎ ((draft ≡ suc (length versions)) × (stored ≡ new)) →
        (stored_of versions other ≡ Some more) ⊎ ((other ≡ suc (length versions)) × (more ≡ new)) → more.state ≡ Dead
    at (inl a) (inl b) = last draft other stored more a placed b row lt
    at (inl a) (inr b) = absurd (none draft stored a (sym row ∙ ap (λ s. s.row) b.1) placed)
    at (inr a) (inl b) = let e = a.0 in let h = nth_within versions more other b in absurd (omega (arith, e, h, lt))
    at (inr a) (inr b) = let e = a.0 in let f = b.0 in absurd (omega (arith, e, f, lt))

-- a row number is drawn
pub table_placed : (state : TableState) (me : Me) (values : List Value) → IsTable state → IsTable (row_placed_in state me values)
table_placed state me values table = record {
  count = let c = table.count in let l = length-append state.placings one in omega (arith, c, l);
  locked = let c = table.locked in let l = length-append state.locks free in omega (arith, c, l);
  within = λ number stored is. within number stored (nth_case state.store.versions draft stored number is);
  named = λ row placing is. named row placing (nth_case state.placings mine placing row is);
  waits = λ number stored is placed. waits number stored (nth_case state.store.versions draft stored number is) placed;
  last = last_more state.store.versions draft table.last (λ number stored is row placed. let le = (table.within number stored is).1 in omega (arith, le, row));
}
  where
    draft : Stored
    draft = draft_of me (state.store.drawn + 1) (Some values)

    mine : Placing
    mine = record { session = me.session; version = length state.store.versions + 1; kind = First }

    free : List (List RowLock)
    free = [] ∷ []

    one : List Placing
    one = mine ∷ []

    row_next : state.store.drawn + 1 ≡ suc (length state.placings)
    row_next = let c = table.count in omega (arith, c)

    version_next : length state.store.versions + 1 ≡ suc (length state.store.versions)
    version_next = omega arith

    within : (number : ℕ) (stored : Stored) →
        (stored_of state.store.versions number ≡ Some stored) ⊎ ((number ≡ suc (length state.store.versions)) × (stored ≡ draft)) →
        (0 < stored.row) × (stored.row ≤ state.store.drawn + 1)
    within number stored (inl old) = let w = table.within number stored old in let le = w.1 in (w.0, omega (arith, le))
    within number stored (inr new) = rw new.1 (omega arith, omega arith)

    named : (row : ℕ) (placing : Placing) →
        (nth_item state.placings row ≡ Some placing) ⊎ ((row ≡ suc (length state.placings)) × (placing ≡ mine)) →
        IsDrawnFor (state.store.versions ++ draft ∷ []) row placing.version
    named row placing (inl old) =
        let f = table.named row placing old in
        record {
          stored = f.stored;
          values = f.values;
          is = nth_before state.store.versions draft f.stored placing.version f.is;
          row_is = f.row_is;
          values_are = f.values_are;
        }
    named row placing (inr new) = record {
      stored = draft;
      values = values;
      is = ap (λ p. stored_of (state.store.versions ++ draft ∷ []) p.version) new.1 ∙ (ap (stored_of (state.store.versions ++ draft ∷ [])) version_next ∙ nth_behind state.store.versions draft);
      row_is = row_next ∙ sym new.0;
      values_are = refl;
    }

    waits_old : (number row : ℕ) (o : Option Placing) → nth_item state.placings row ≡ o → option_map (λ p. p.version) o ≡ Some number →
        option_map (λ p. p.version) (nth_item (state.placings ++ one) row) ≡ Some number
    waits_old number row None is there = absurd (cc there)
    waits_old number row (Some placing) is there = ap (λ o. option_map (λ p. p.version) o) (nth_before state.placings mine placing row is) ∙ there

    waits : (number : ℕ) (stored : Stored) →
        (stored_of state.store.versions number ≡ Some stored) ⊎ ((number ≡ suc (length state.store.versions)) × (stored ≡ draft)) →
        stored.state ≡ Placed → option_map (λ p. p.version) (nth_item (state.placings ++ one) stored.row) ≡ Some number
    waits number stored (inl old) placed =
        let s = table.waits number stored old placed in
        waits_old number stored.row (nth_item state.placings stored.row) refl s
    waits number stored (inr new) placed =
        ap (λ s. option_map (λ p. p.version) (nth_item (state.placings ++ one) s.row)) new.1
        ∙ (ap (λ row. option_map (λ p. p.version) (nth_item (state.placings ++ one) row)) row_next
        ∙ (ap (λ o. option_map (λ p. p.version) o) (nth_behind state.placings mine) ∙ ap Some (version_next ∙ sym new.0)))

version_row : (row : ℕ) (stored : Stored) → is_version_of row stored ≡ true → stored.row ≡ row
version_row row stored is = eqb-true stored.row row (and_parts (is_settled stored.state) (nat_eq stored.row row) is).1

-- a draft stands behind all versions of its row
pub stands_last : (state : TableState) (number : ℕ) (stored : Stored) → IsTable state → stored_of state.store.versions number ≡ Some stored →
    stored.state ≡ Placed → StandsLast state.store.versions number stored.row
stands_last state number stored table is placed other more lt there = at (is_version_of stored.row more) refl
  where
    at : (b : Bool) → is_version_of stored.row more ≡ b → b ≡ false
    at false passed = refl
    at true passed =
        let dead = table.last number other stored more is placed there (version_row stored.row more passed) lt in
        let settled = (and_parts (is_settled more.state) (nat_eq more.row stored.row) passed).0 in
        let both : false ≡ true = ap is_settled (sym dead) ∙ settled in
        absurd (cc both)
