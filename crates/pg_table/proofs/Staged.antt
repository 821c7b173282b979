-- What is staged for a row, whatever is done to the table.
use Rattle.std.proofs.Common.{◌≡◌, ◌≢◌, ◌<◌, ◌≤◌, ◌+◌, ◌++◌, ◌||◌, ◌⊎◌, inl, inr, ℕ, zero, suc, Bool, true, false, cond, nat_eq, List, [], ◌∷◌, Option, Some, None, is_some, length, map, option_map, option_and_then, refl, ap, sym, ◌∙◌, arith, eq-eqb, ne_eqb}
use Rattle.std.proofs.lemmas.Bool.{cases_eq}
use Rattle.std.proofs.lemmas.Option.{slice_get_past}
use Rattle.pg_values.specs.declared.value.Value.{Value}
use Rattle.pg_xacts.specs.declared.me.Me.{Me}
use Rattle.pg_xacts.proofs.Lists.{get_append_other}
use Rattle.pg_lists.specs.Numbered.{nth_item}
use Rattle.pg_heap.specs.Rows.{is_written_by}
use Rattle.pg_heap.specs.declared.slot.State.{State}
use Rattle.pg_heap.specs.declared.slot.State.TheVariants.{Dead, Placed, Settled}
use Rattle.pg_heap.proofs.Lists.{changed_here, changed_other}
use Rattle.pg_rows.specs.Stores.{HasNoDraft, Stored, draft_of, ended_version, is_placed, stored_of, undone_version, with_version_state}
use Rattle.pg_rows.proofs.Stored.{in_state}
use Rattle.pg_world.specs.declared.placed.PlacedRow.{PlacedRow}
use Rattle.pg_world.specs.Tables.{placed_at}
use Rattle.pg_table.specs.declared.placing.DraftKind.{DraftKind}
use Rattle.pg_table.specs.declared.placing.DraftKind.TheVariants.{First, Next}
use Rattle.pg_table.specs.declared.placing.Placing.{Placing}
use Rattle.pg_table.specs.States.{IsTable, TableState, draft_under, of_kind, row_erased_in, row_inserted_in, row_placed_in, row_staged_in, row_written_in, staged_at, staged_by_others, staged_number, state_ended, state_undone, table_shown, version_settled_in, waiting_number, waiting_row, waiting_version}
use Rattle.pg_table.proofs.Changed.{staged_there}
use Rattle.pg_table.proofs.Drafted.{last_changed}
use Rattle.pg_table.proofs.Gone.{ended_waits, undone_waits}
use Rattle.pg_table.proofs.Kept.{nth_before, nth_map}
use Rattle.pg_table.proofs.Shown.{draft_is, nothing_placed, settled_others, waiting_shown, waiting_values}
use Rattle.pg_table.proofs.Waiting.{IsWaiting, kind_none, waiting_at}

-- what is staged, by the placing of the row
abbrev staged_of : List Stored → ℕ → Option Placing → Option PlacedRow
staged_of versions row o = option_and_then (λ placing. of_kind Next placing.kind (draft_under versions row placing)) o

-- where the version that is named is the same, the same is staged
staged_same : (versions more : List Stored) (row : ℕ) (o : Option Placing) →
    ((p : Placing) → o ≡ Some p → (p.kind ≡ First) ⊎ (stored_of more p.version ≡ stored_of versions p.version)) →
    staged_of more row o ≡ staged_of versions row o
staged_same versions more row None same = refl
staged_same versions more row (Some p) same = at (same p refl)
  where
    at : (p.kind ≡ First) ⊎ (stored_of more p.version ≡ stored_of versions p.version) →
        of_kind Next p.kind (draft_under more row p) ≡ of_kind Next p.kind (draft_under versions row p)
    at (inl first) = rw first refl
    at (inr e) = ap (λ o. of_kind Next p.kind (option_and_then (waiting_row row p) o)) e

-- one version more
staged_grown : (state : TableState) (new : Stored) (row : ℕ) → IsTable state →
    staged_of (state.store.versions ++ new ∷ []) row (nth_item state.placings row) ≡ staged_at state row
staged_grown state new row table =
    staged_same state.store.versions (state.store.versions ++ new ∷ []) row (nth_item state.placings row)
    (λ p is.
    let f = table.named row p is in
    inr (nth_before state.store.versions new f.stored p.version f.is ∙ sym f.is))

-- a row is placed
pub staged_placed : (state : TableState) (me : Me) (values : List Value) (row : ℕ) → IsTable state →
    staged_at (row_placed_in state me values) row ≡ staged_at state row
staged_placed state me values zero table = refl
staged_placed state me values (suc i) table = at (cases_eq i (length state.placings))
  where
    draft : Stored
    draft = draft_of me (state.store.drawn + 1) (Some values)

    mine : Placing
    mine = record { session = me.session; version = length state.store.versions + 1; kind = First }

    at : (i ≡ length state.placings) ⊎ (i ≡ length state.placings → ⊥) →
        staged_of (state.store.versions ++ draft ∷ []) (suc i) (nth_item (state.placings ++ mine ∷ []) (suc i)) ≡ staged_at state (suc i)
    at (inl e) =
        rw e
        (ap (staged_of (state.store.versions ++ draft ∷ []) (suc (length state.placings))) (behind state.placings)
        ∙ sym (ap (staged_of state.store.versions (suc (length state.placings))) (slice_get_past state.placings (length state.placings) (omega arith))))
      where
        behind : (placings : List Placing) → nth_item (placings ++ mine ∷ []) (suc (length placings)) ≡ Some mine
        behind [] = refl
        behind (p ∷ ps) = behind ps
    at (inr apart) =
        ap (staged_of (state.store.versions ++ draft ∷ []) (suc i)) (get_append_other state.placings mine i apart)
        ∙ staged_grown state draft (suc i) table

-- a row is erased
pub staged_erased : (state : TableState) (me : Me) (erased row : ℕ) → IsTable state → staged_at (row_erased_in state me erased) row ≡ staged_at state row
staged_erased state me erased row table =
    ap (λ versions. staged_of versions row (nth_item state.placings row))
    (last_changed (λ stored. record stored { state = Settled }) state.store.versions (draft_of me erased None))
    ∙ staged_grown state (record (draft_of me erased None) { state = Settled }) row table

-- new values are staged
pub staged_more : (state : TableState) (me : Me) (of : ℕ) (values : List Value) (row : ℕ) → IsTable state → (0 < of) × (of ≤ state.store.drawn) →
    staged_at (row_staged_in state me of values) row
    ≡ cond (nat_eq row of) (Some (record { row = of; me = me; values = values })) (staged_at state row)
staged_more state me of values row table drawn = at (cases_eq row of)
  where
    draft : Stored
    draft = draft_of me of (Some values)

    mine : Placing
    mine = record { session = me.session; version = length state.store.versions + 1; kind = Next }

    at : (row ≡ of) ⊎ (row ≡ of → ⊥) → staged_at (row_staged_in state me of values) row
        ≡ cond (nat_eq row of) (Some (record { row = of; me = me; values = values })) (staged_at state row)
    at (inl e) = rw (e, eq-eqb of of refl) (staged_there state me of values table drawn)
    at (inr apart) =
        rw (ne_eqb row of apart)
        (ap (staged_of (state.store.versions ++ draft ∷ []) row) (changed_other (λ placing. mine) state.placings of row apart)
        ∙ staged_grown state draft row table)

-- a draft that waits is settled: what is staged for other rows stays
settled_elsewhere : (kind : DraftKind) (state : TableState) (i number row : ℕ) → IsTable state → (w : IsWaiting kind state i number) → row ≢ suc i →
    staged_of (with_version_state state.store number Settled).versions row (nth_item state.placings row) ≡ staged_at state row
settled_elsewhere kind state i number zero table w apart = refl
settled_elsewhere kind state i number (suc j) table w apart =
    staged_same state.store.versions (with_version_state state.store number Settled).versions (suc j) (nth_item state.placings (suc j))
    (λ p is. inr (settled_others kind state i number table w j p (λ e. apart (ap suc e)) is))

-- what is placed is stored
pub staged_inserted : (state : TableState) (inserted row : ℕ) → IsTable state → staged_at (row_inserted_in state inserted) row ≡ staged_at state row
staged_inserted state inserted row table = at inserted (waiting_number state inserted) refl
  where
    here : (i number : ℕ) → (w : IsWaiting First state i number) → (row ≡ suc i) ⊎ (row ≡ suc i → ⊥) →
        staged_of (with_version_state state.store number Settled).versions row (nth_item state.placings row) ≡ staged_at state row
    here i number w (inl e) =
        staged_same state.store.versions (with_version_state state.store number Settled).versions row (nth_item state.placings row)
        (λ p is.
        let mine = w.at_row in
        let same : p ≡ w.placing = cc (e, is, mine) in
        inl (ap (λ q. q.kind) same ∙ w.kind_is))
    here i number w (inr apart) = settled_elsewhere First state i number row table w apart

    at : (inserted : ℕ) (o : Option ℕ) → waiting_number state inserted ≡ o → staged_at (version_settled_in state o) row ≡ staged_at state row
    at inserted None is = refl
    at zero (Some number) is = absurd (cc is)
    at (suc i) (Some number) is = here i number (waiting_at First state i number is) (cases_eq row (suc i))

-- where no draft is staged, nothing is
pub nothing_staged : (state : TableState) (row : ℕ) → staged_number state row ≡ None → staged_at state row ≡ None
nothing_staged state row none = at (nth_item state.placings row) none
  where
    by_state : (p : Placing) (stored : Stored) (s : State) → stored.state ≡ s → cond (is_placed s) (Some p.version) None ≡ None → waiting_row row p stored ≡ None
    by_state p stored Placed is e = absurd (cc e)
    by_state p stored Settled is e = rw is refl
    by_state p stored Dead is e = rw is refl

    by_stored : (p : Placing) (o : Option Stored) → option_and_then (λ stored. cond (is_placed stored.state) (Some p.version) None) o ≡ None →
        option_and_then (waiting_row row p) o ≡ None
    by_stored p None e = refl
    by_stored p (Some stored) e = by_state p stored stored.state refl e

    by_kind : (p : Placing) (kind : DraftKind) → of_kind Next kind (waiting_version state.store.versions p) ≡ None →
        of_kind Next kind (draft_under state.store.versions row p) ≡ None
    by_kind p First e = refl
    by_kind p Next e = by_stored p (stored_of state.store.versions p.version) e

    at : (o : Option Placing) → option_and_then (λ placing. of_kind Next placing.kind (waiting_version state.store.versions placing)) o ≡ None →
        staged_of state.store.versions row o ≡ None
    at None e = refl
    at (Some p) e = by_kind p p.kind e

-- what is staged is written
pub staged_written : (state : TableState) (written row : ℕ) → IsTable state →
    staged_at (row_written_in state written) row ≡ cond (nat_eq row written) None (staged_at state row)
staged_written state written row table = at written (staged_number state written) refl (cases_eq row written)
  where
    gone : (i number : ℕ) (w : IsWaiting Next state i number) →
        staged_of (with_version_state state.store number Settled).versions (suc i) (nth_item state.placings (suc i)) ≡ None
    gone i number w =
        ap (staged_of (with_version_state state.store number Settled).versions (suc i)) w.at_row
        ∙ kind_none Next w.placing.kind (draft_under (with_version_state state.store number Settled).versions (suc i) w.placing)
        (ap (λ o. option_and_then (waiting_row (suc i) w.placing) o)
        (ap (stored_of (with_version_state state.store number Settled).versions) w.version
        ∙ (changed_here (in_state Settled) state.store.versions number ∙ ap (λ o. option_map (in_state Settled) o) w.is)))

    at : (written : ℕ) (o : Option ℕ) → staged_number state written ≡ o → (row ≡ written) ⊎ (row ≡ written → ⊥) →
        staged_at (version_settled_in state o) row ≡ cond (nat_eq row written) None (staged_at state row)
    at written None is (inl e) = rw (e, eq-eqb written written refl) (nothing_staged state written is)
    at written None is (inr apart) = rw (ne_eqb row written apart) refl
    at zero (Some number) is either = absurd (cc is)
    at (suc i) (Some number) is (inl e) = rw (e, eq-eqb (suc i) (suc i) refl) (gone i number (waiting_at Next state i number is))
    at (suc i) (Some number) is (inr apart) =
        rw (ne_eqb row (suc i) apart) (settled_elsewhere Next state i number row table (waiting_at Next state i number is) apart)

-- a transaction ends
module _ (change : Stored → Stored) (xact : ℕ)
    (waits : (row : ℕ) (placing : Placing) (stored : Stored) →
    waiting_row row placing (change stored) ≡ cond (is_written_by xact stored.version) None (waiting_row row placing stored)) where
  staged_changed : (versions : List Stored) (row : ℕ) (o : Option Placing) → staged_of (map change versions) row o ≡ staged_by_others (staged_of versions row o) xact
  staged_changed versions row None = refl
  staged_changed versions row (Some p) = by_kind p.kind refl
    where
      nothing : (b : Bool) (o : Option PlacedRow) → o ≡ None → cond b None o ≡ staged_by_others o xact
      nothing true o is = rw is refl
      nothing false o is = rw is refl

      by_case : (b : Bool) (x : PlacedRow) → nat_eq x.me.xact xact ≡ b → cond b None (Some x) ≡ staged_by_others (Some x) xact
      by_case true x is = rw is refl
      by_case false x is = rw is refl

      by_writer : (stored : Stored) → stored_of versions p.version ≡ Some stored → (o : Option PlacedRow) → draft_under versions row p ≡ o →
          cond (is_written_by xact stored.version) None o ≡ staged_by_others o xact
      by_writer stored is None there = nothing (is_written_by xact stored.version) None refl
      by_writer stored is (Some x) there =
          let u = draft_is versions row p x there in
          let same : u.stored ≡ stored = cc (u.is, is) in
          by_case (is_written_by xact stored.version) x (ap (λ n. nat_eq n xact) (u.writer ∙ ap (λ s. s.version.writer) same))

      by_stored : (o : Option Stored) → stored_of versions p.version ≡ o →
          option_and_then (waiting_row row p) (option_map change o) ≡ staged_by_others (option_and_then (waiting_row row p) o) xact
      by_stored None is = refl
      by_stored (Some stored) is =
          waits row p stored ∙ by_writer stored is (waiting_row row p stored) (ap (λ o. option_and_then (waiting_row row p) o) is)

      by_kind : (kind : DraftKind) → p.kind ≡ kind →
          of_kind Next p.kind (draft_under (map change versions) row p) ≡ staged_by_others (of_kind Next p.kind (draft_under versions row p)) xact
      by_kind First is = rw is refl
      by_kind Next is =
          rw is
          (ap (λ o. option_and_then (waiting_row row p) o) (nth_map change versions p.version) ∙ by_stored (stored_of versions p.version) refl)

pub staged_undone : (state : TableState) (xact row : ℕ) → staged_at (state_undone xact state) row ≡ staged_by_others (staged_at state row) xact
staged_undone state xact row = staged_changed (undone_version xact) xact (undone_waits xact) state.store.versions row (nth_item state.placings row)

pub staged_ended : (state : TableState) (xact row : ℕ) → staged_at (state_ended xact state) row ≡ staged_by_others (staged_at state row) xact
staged_ended state xact row = staged_changed (ended_version xact) xact (ended_waits xact) state.store.versions row (nth_item state.placings row)

-- where nothing is placed under a row number and nothing staged for the row, no draft of it waits
pub no_draft : (state : TableState) (row : ℕ) → IsTable state → placed_at (table_shown state).placed row ≡ None → staged_at state row ≡ None →
    HasNoDraft state.store.versions row
no_draft state row table unplaced unstaged number stored is here placed =
    at (nth_item state.placings stored.row) stored.row (sym here) refl (table.waits number stored is placed)
  where
    by_kind : (i : ℕ) (p : Placing) (kind : DraftKind) → nth_item state.placings (suc i) ≡ Some p → p.version ≡ number → p.kind ≡ kind → row ≡ suc i → ⊥
    by_kind i p First there named of e =
        let w : IsWaiting First state i number = record {
          placing = p;
          at_row = there;
          kind_is = of;
          version = named;
          stored = stored;
          is = is;
          state_is = placed;
        } in
        let v = waiting_shown state i number table w in
        let none = ap (placed_at (table_shown state).placed) (sym e) ∙ unplaced in
        let some = v.1.1 in
        cc (none, some)
    by_kind i p Next there named of e =
        let w : IsWaiting Next state i number = record {
          placing = p;
          at_row = there;
          kind_is = of;
          version = named;
          stored = stored;
          is = is;
          state_is = placed;
        } in
        let v = waiting_values Next state i number table w in
        let some = ap (staged_of state.store.versions (suc i)) there
        ∙ (ap (λ k. of_kind Next k (draft_under state.store.versions (suc i) p)) of ∙ v.1.1) in
        let none = ap (staged_at state) (sym e) ∙ unstaged in
        cc (none, some)

    at : (o : Option Placing) (r : ℕ) → row ≡ r → nth_item state.placings r ≡ o → option_map (λ p. p.version) o ≡ Some number → ⊥
    at None r e there named = cc named
    at (Some p) zero e there named = cc there
    at (Some p) (suc i) e there named = by_kind i p p.kind there (cc named) refl e

pub free_of_drafts : (state : TableState) (row : ℕ) → IsTable state → (is_some (waiting_number state row) || is_some (staged_number state row)) ≡ false →
    HasNoDraft state.store.versions row
free_of_drafts state row table none =
    no_draft state row table (nothing_placed state row (first (waiting_number state row) (is_some (staged_number state row)) none))
    (nothing_staged state row (second (is_some (waiting_number state row)) (staged_number state row) none))
  where
    first : (o : Option ℕ) (b : Bool) → (is_some o || b) ≡ false → o ≡ None
    first None b is = refl
    first (Some n) b is = absurd (cc is)

    second : (b : Bool) (o : Option ℕ) → (b || is_some o) ≡ false → o ≡ None
    second true o is = absurd (cc is)
    second false None is = refl
    second false (Some n) is = absurd (cc is)
