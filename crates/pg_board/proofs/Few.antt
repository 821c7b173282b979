-- How many versions the tables of a server have, and may still get, behind a move of one session.
use Rattle.std.proofs.Common.{◌≡◌, ◌≤◌, ◌+◌, ◌⊎◌, inl, inr, ℕ, List, [], ◌∷◌, length, map, Option, Some, None, slice_get, slice_set, option_map, arith, refl, sym, ap, ◌∙◌, subst, length-append}
use Rattle.std.proofs.lemmas.Bool.{cases_eq}
use Rattle.std.proofs.lemmas.List.{length-map}
use Rattle.std.specs.Prelude.{Bool, true, false, ◌++◌, sum_by}
use Rattle.std.specs.Option.{option_map_or}
use Rattle.std.proofs.lemmas.Option.{slice_get-map}
use Rattle.pg_lists.specs.Numbered.{item_at, with_changed_item}
use Rattle.pg_multi.specs.declared.strength.Strength.{Strength}
use Rattle.pg_values.specs.declared.value.Value.{Value}
use Rattle.pg_xacts.specs.declared.me.Me.{Me}
use Rattle.pg_xacts.proofs.Lists.{length_changed_from_one}
use Rattle.pg_heap.specs.declared.slot.State.TheVariants.{Settled}
use Rattle.pg_rows.specs.Stores.{Stored, draft_of}
use Rattle.pg_world.specs.Tables.{TransactionEnd, commit, rollback}
use Rattle.pg_world.specs.declared.session.Stage.{Stage}
use Rattle.pg_world.specs.declared.session.Stage.TheVariants.{Between as between, Found as found, Locked as locked, Placed as placed}
use Rattle.pg_relation.proofs.Lists.{sum_set}
use Rattle.pg_table.specs.States.{TableState, row_erased_in, row_held_in, row_inserted_in, row_placed_in, row_staged_in, row_written_in, staged_number, state_ended, state_undone, version_settled_in, waiting_number}
use Rattle.pg_update.specs.Steps.{stagings_at}
use Rattle.pg_board.specs.Counts.{HasFew, machine_draws, place_draws}
use Rattle.pg_board.specs.declared.server.Server.{Server}
use Rattle.pg_board.specs.declared.session.Machine.{Machine}
use Rattle.pg_board.specs.declared.session.Machine.TheVariants as machine_of
use Rattle.pg_board.specs.declared.session.Session.{Session}
use Rattle.pg_board.specs.Kept.{with_end_in}
use Rattle.pg_board.proofs.Drafts.{changed_table, other_table}

-- a table of which this one comes has at most so many versions less
pub record ComesOf (tables : List TableState) (grown number : ℕ) (after : TableState) : Type 0 where
  pub state : TableState
  pub is : item_at tables number ≡ Some state
  pub few : length after.store.versions ≤ length state.store.versions + grown

-- each table has at most so many versions more
abbrev pub Grow : List TableState → List TableState → ℕ → Type 0
Grow tables after grown = (number : ℕ) (state : TableState) → item_at after number ≡ Some state → ComesOf tables grown number state

pub grow_none : (tables : List TableState) → Grow tables tables 0
grow_none tables number state is = record { state = state; is = is; few = omega arith }

pub grow_changed : (change : TableState → TableState) (tables : List TableState) (table grown : ℕ) →
    ((state : TableState) → length (change state).store.versions ≤ length state.store.versions + grown) →
    Grow tables (with_changed_item change tables table) grown
grow_changed change tables table grown few number state is = at (cases_eq number table)
  where
    here : number ≡ table → (o : Option TableState) → slice_get tables number ≡ o → ComesOf tables grown number state
    here e None there =
        let none : slice_get tables table ≡ None = ap (λ n. slice_get tables n) (sym e) ∙ there in
        let same : with_changed_item change tables table ≡ tables =
        ap (λ o. option_map_or (λ one. slice_set tables table (change one)) o tables) none in
        absurd (let f : None ≡ Some state = sym there ∙ (ap (λ all. slice_get all number) (sym same) ∙ is) in cc f)
    here e (Some old) there =
        let one : slice_get tables table ≡ Some old = ap (λ n. slice_get tables n) (sym e) ∙ there in
        let f : Some (change old) ≡ Some state =
        sym (ap (λ n. slice_get (with_changed_item change tables table) n) e ∙ changed_table change tables table old one) ∙ is in
        let g : change old ≡ state = cc f in
        record { state = old; is = there; few = subst (λ s. length s.store.versions ≤ length old.store.versions + grown) g (few old) }

    at : (number ≡ table) ⊎ (number ≡ table → ⊥) → ComesOf tables grown number state
    at (inl e) = here e (slice_get tables number) refl
    at (inr apart) = record { state = state; is = sym (other_table change tables table number apart) ∙ is; few = omega arith }

grow_mapped : (change : TableState → TableState) (tables : List TableState) →
    ((state : TableState) → length (change state).store.versions ≡ length state.store.versions) → Grow tables (map change tables) 0
grow_mapped change tables same number state is = at (slice_get tables number) refl (sym (slice_get-map change tables number) ∙ is)
  where
    at : (o : Option TableState) → slice_get tables number ≡ o → option_map change o ≡ Some state → ComesOf tables 0 number state
    at None there e = absurd (cc e)
    at (Some old) there e =
        let f : change old ≡ state = cc e in
        let l = same old in
        record { state = old; is = there; few = subst (λ s. length s.store.versions ≤ length old.store.versions + 0) f (omega (arith, l)) }

-- The acts on a table.

pub settled_size : (state : TableState) (number : Option ℕ) → length (version_settled_in state number).store.versions ≡ length state.store.versions
settled_size state None = refl
settled_size state (Some number) = length_changed_from_one (λ (stored : Stored). record stored { state = Settled }) state.store.versions number

pub grow_placed : (tables : List TableState) (table : ℕ) (me : Me) (values : List Value) →
    Grow tables (with_changed_item (λ state. row_placed_in state me values) tables table) 1
grow_placed tables table me values =
    grow_changed (λ state. row_placed_in state me values) tables table 1
    (λ state. let l = length-append state.store.versions (draft_of me (state.store.drawn + 1) (Some values) ∷ []) in omega (arith, l))

pub grow_inserted : (tables : List TableState) (table row : ℕ) → Grow tables (with_changed_item (λ state. row_inserted_in state row) tables table) 0
grow_inserted tables table row =
    grow_changed (λ state. row_inserted_in state row) tables table 0
    (λ state. let l = settled_size state (waiting_number state row) in omega (arith, l))

pub grow_held : (tables : List TableState) (table xact row : ℕ) (strength : Strength) →
    Grow tables (with_changed_item (λ state. row_held_in state xact row strength) tables table) 0
grow_held tables table xact row strength = grow_changed (λ state. row_held_in state xact row strength) tables table 0 (λ state. omega arith)

pub grow_staged : (tables : List TableState) (table : ℕ) (me : Me) (row : ℕ) (values : List Value) →
    Grow tables (with_changed_item (λ state. row_staged_in state me row values) tables table) 1
grow_staged tables table me row values =
    grow_changed (λ state. row_staged_in state me row values) tables table 1
    (λ state. let l = length-append state.store.versions (draft_of me row (Some values) ∷ []) in omega (arith, l))

pub grow_written : (tables : List TableState) (table row : ℕ) → Grow tables (with_changed_item (λ state. row_written_in state row) tables table) 0
grow_written tables table row =
    grow_changed (λ state. row_written_in state row) tables table 0
    (λ state. let l = settled_size state (staged_number state row) in omega (arith, l))

pub grow_erased : (tables : List TableState) (table : ℕ) (me : Me) (row : ℕ) →
    Grow tables (with_changed_item (λ state. row_erased_in state me row) tables table) 1
grow_erased tables table me row =
    grow_changed (λ state. row_erased_in state me row) tables table 1
    (λ state.
    let l = length-append state.store.versions (draft_of me row None ∷ []) in
    let m = length_changed_from_one (λ (stored : Stored). record stored { state = Settled }) (state.store.versions ++ draft_of me row None ∷ []) (length state.store.versions + 1) in
    omega (arith, l, m))

pub grow_ended : (server : Server) (number : ℕ) (transaction : Option ℕ) (end : TransactionEnd) →
    Grow server.tables (with_end_in server number transaction end).tables 0
grow_ended server number None end = grow_none server.tables
grow_ended server number (Some xact) commit = grow_mapped (state_ended xact) server.tables (λ state. length-map _ _)
grow_ended server number (Some xact) rollback = grow_mapped (state_undone xact) server.tables (λ state. length-map _ _)

-- The sessions.

stagings_one : (stage : Stage) (staged : Bool) → stagings_at stage staged ≤ 1
stagings_one between staged = omega arith
stagings_one found staged = omega arith
stagings_one (locked name) true = omega arith
stagings_one (locked name) false = omega arith
stagings_one (placed row) staged = omega arith

-- a machine may draw one version
pub draws_one : (machine : Machine) → machine_draws machine ≤ 1
draws_one (machine_of.Insert insert) = omega arith
draws_one (machine_of.Select select) = omega arith
draws_one (machine_of.Change change) = stagings_one change.running.stage change.staged

-- a session has moved, and the tables have grown no more than it may draw less, and than is more
pub few_moved : (server new : Server) (number : ℕ) (kept after : Session) → slice_get server.sessions number ≡ Some kept →
    new.sessions ≡ slice_set server.sessions number after → (grown more : ℕ) → Grow server.tables new.tables grown →
    grown + place_draws after.place ≤ place_draws kept.place + more → (most : ℕ) → HasFew most server → HasFew (most + more) new
few_moved server new number kept after is_kept sessions grown more grow within most few table state is =
    let of = grow table state is in
    let old = few table of.state of.is in
    let sum = sum_set (λ (session : Session). place_draws session.place) server.sessions number kept after is_kept in
    let same = ap (sum_by (λ (session : Session). place_draws session.place)) sessions in
    let least = of.few in
    omega (arith, old, sum, same, least, within)
