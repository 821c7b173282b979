-- A table into which rows are only inserted has one version of each row, and each transaction can be rolled back.
use Rattle.std.proofs.Common.{◌≡◌, ◌≢◌, ◌<◌, ◌≤◌, ◌+◌, ◌++◌, ◌⊎◌, inl, inr, ℕ, zero, suc, Bool, true, false, cond, List, [], ◌∷◌, Option, Some, None, length, map, filter, nat_eq, option_map, slice_get, refl, ap, sym, ◌∙◌, arith, eqb-true}
use Rattle.std.proofs.lemmas.Bool.{and_parts, cases_lt}
use Rattle.pg_values.specs.declared.value.Value.{Value}
use Rattle.pg_xacts.specs.declared.me.Me.{Me}
use Rattle.pg_lists.specs.Numbered.{item_at, nth_item, with_changed_nth_item}
use Rattle.pg_heap.specs.declared.slot.State.TheVariants.{Settled}
use Rattle.pg_heap.specs.declared.row.Row.{Row}
use Rattle.pg_heap.specs.declared.version.Version.{Version}
use Rattle.pg_heap.specs.Rows.{row_of}
use Rattle.pg_multi.specs.declared.row_lock.RowLock.{RowLock}
use Rattle.pg_rows.specs.Stores.{Stored, draft_of, ended_version, is_settled, is_version_of, row_in, rows_of, stored_of, undone_version}
use Rattle.pg_rows.proofs.Rows.{rows_at, rows_past}
use Rattle.pg_table.specs.declared.placing.DraftKind.TheVariants.{First}
use Rattle.pg_table.specs.declared.placing.Placing.{Placing}
use Rattle.pg_table.specs.States.{IsTable, OwnStandBehind, TableState, row_added_in, row_inserted_in, row_placed_in, state_ended, state_undone, table_shown, version_settled_in, waiting_number}
use Rattle.pg_table.proofs.Kept.{DifferInState, differ_changed, differ_map, nth_before, nth_behind, nth_case, unstated, with_parts}
use Rattle.pg_table_tests.specs.Single.{AreSingle}

-- a version is there too among versions that differ in their states alone
across : (versions more : List Stored) (m : ℕ) (stored : Stored) → option_map unstated (stored_of more m) ≡ option_map unstated (stored_of versions m) →
    stored_of versions m ≡ Some stored → (found : Stored) × ((stored_of more m ≡ Some found) × (unstated found ≡ unstated stored))
across versions more m stored same is = at (stored_of more m) refl (same ∙ ap (λ o. option_map unstated o) is)
  where
    at : (o : Option Stored) → stored_of more m ≡ o → option_map unstated o ≡ Some (unstated stored) →
        (found : Stored) × ((stored_of more m ≡ Some found) × (unstated found ≡ unstated stored))
    at None there e = absurd (cc e)
    at (Some found) there e = (found, (there, cc e))

-- a version of a row is drawn for that row
version_row : (row : ℕ) (stored : Stored) → is_version_of row stored ≡ true → stored.row ≡ row
version_row row stored is = eqb-true stored.row row (and_parts (is_settled stored.state) (nat_eq stored.row row) is).1

-- versions that differ in their states alone stay one for each row
single_states : (state : TableState) (versions : List Stored) (locks : List (List RowLock)) → DifferInState state.store.versions versions → AreSingle state →
    AreSingle (with_parts state versions locks)
single_states state versions locks same single number stored is =
    let old = across versions state.store.versions number stored (sym (same number)) is in
    rw (ap (λ s. s.row) (sym old.1.1)) (single number old.0 old.1.0)

pub single_undone : (state : TableState) (xact : ℕ) → AreSingle state → AreSingle (state_undone xact state)
single_undone state xact single =
    single_states state (map (undone_version xact) state.store.versions) (state_undone xact state).locks
    (differ_map (undone_version xact) (λ stored. refl) state.store.versions) single

pub single_ended : (state : TableState) (xact : ℕ) → AreSingle state → AreSingle (state_ended xact state)
single_ended state xact single =
    single_states state (map (ended_version xact) state.store.versions) (state_ended xact state).locks
    (differ_map (ended_version xact) (λ stored. refl) state.store.versions) single

single_settled : (state : TableState) (number : Option ℕ) → AreSingle state → AreSingle (version_settled_in state number)
single_settled state None single = single
single_settled state (Some number) single =
    single_states state (with_changed_nth_item (λ stored. record stored { state = Settled }) state.store.versions number) state.locks
    (differ_changed (λ stored. record stored { state = Settled }) (λ stored. refl) state.store.versions number) single

pub single_inserted : (state : TableState) (row : ℕ) → AreSingle state → AreSingle (row_inserted_in state row)
single_inserted state row single = single_settled state (waiting_number state row) single

pub single_placed : (state : TableState) (me : Me) (values : List Value) → IsTable state → AreSingle state → AreSingle (row_placed_in state me values)
single_placed state me values table single number stored is = at number stored (nth_case state.store.versions draft stored number is)
  where
    draft : Stored
    draft = draft_of me (state.store.drawn + 1) (Some values)

    mine : Placing
    mine = record { session = me.session; version = length state.store.versions + 1; kind = First }

    row_next : state.store.drawn + 1 ≡ suc (length state.placings)
    row_next = let c = table.count in omega (arith, c)

    version_next : length state.store.versions + 1 ≡ suc (length state.store.versions)
    version_next = omega arith

    old : (number row : ℕ) (o : Option Placing) → nth_item state.placings row ≡ o → option_map (λ p. p.version) o ≡ Some number →
        option_map (λ p. p.version) (nth_item (state.placings ++ mine ∷ []) row) ≡ Some number
    old number row None is there = absurd (cc there)
    old number row (Some placing) is there = ap (λ o. option_map (λ p. p.version) o) (nth_before state.placings mine placing row is) ∙ there

    at : (number : ℕ) (stored : Stored) →
        (stored_of state.store.versions number ≡ Some stored) ⊎ ((number ≡ suc (length state.store.versions)) × (stored ≡ draft)) →
        option_map (λ p. p.version) (nth_item (state.placings ++ mine ∷ []) stored.row) ≡ Some number
    at number stored (inl is) = old number stored.row (nth_item state.placings stored.row) refl (single number stored is)
    at number stored (inr new) =
        ap (λ s. option_map (λ p. p.version) (nth_item (state.placings ++ mine ∷ []) s.row)) new.1
        ∙ (ap (λ row. option_map (λ p. p.version) (nth_item (state.placings ++ mine ∷ []) row)) row_next
        ∙ (ap (λ o. option_map (λ p. p.version) o) (nth_behind state.placings mine) ∙ ap Some (version_next ∙ sym new.0)))

pub single_added : (state : TableState) (me : Me) (values : List Value) → IsTable state → AreSingle state → AreSingle (row_added_in state me values)
single_added state me values table single =
    single_inserted (row_placed_in state me values) (state.store.drawn + 1) (single_placed state me values table single)

-- two versions of a row have two numbers
record AreApart (test : Stored → Bool) (versions : List Stored) : Type 0 where
  pub first : ℕ
  pub second : ℕ
  pub lt : first < second
  pub one : Stored
  pub other : Stored
  pub one_is : slice_get versions first ≡ Some one
  pub other_is : slice_get versions second ≡ Some other
  pub passes : test one ≡ true
  pub also : test other ≡ true

abbrev passing : (Stored → Bool) → List Stored → List Version
passing test versions = map (λ stored. stored.version) (filter test versions)

number_of : (test : Stored → Bool) (versions : List Stored) (place : ℕ) (version : Version) → slice_get (passing test versions) place ≡ Some version →
    (i : ℕ) × (stored : Stored) × (slice_get versions i ≡ Some stored) × (test stored ≡ true)
number_of test [] place version is = absurd (cc is)
number_of test (x ∷ xs) place version is = at (test x) refl place is (λ p e. number_of test xs p version e)
  where
    behind : (i : ℕ) × (stored : Stored) × (slice_get xs i ≡ Some stored) × (test stored ≡ true) →
        (i : ℕ) × (stored : Stored) × (slice_get (x ∷ xs) i ≡ Some stored) × (test stored ≡ true)
    behind found = (suc found.0, found.1, found.2, found.3)

    at : (b : Bool) → test x ≡ b → (place : ℕ) → slice_get (map (λ s. s.version) (cond b (x ∷ filter test xs) (filter test xs))) place ≡ Some version →
        ((p : ℕ) → slice_get (passing test xs) p ≡ Some version → (i : ℕ) × (stored : Stored) × (slice_get xs i ≡ Some stored) × (test stored ≡ true)) →
        (i : ℕ) × (stored : Stored) × (slice_get (x ∷ xs) i ≡ Some stored) × (test stored ≡ true)
    at true on zero is more = (0, x, refl, on)
    at true on (suc place) is more = behind (more place is)
    at false on place is more = behind (more place is)

numbers_of : (test : Stored → Bool) (versions : List Stored) (earlier later : ℕ) (one other : Version) → earlier < later →
    slice_get (passing test versions) earlier ≡ Some one → slice_get (passing test versions) later ≡ Some other → AreApart test versions
numbers_of test [] earlier later one other lt is there = absurd (cc is)
numbers_of test (x ∷ xs) earlier later one other lt is there = at (test x) refl earlier later lt is there (λ e l lt is there. numbers_of test xs e l one other lt is there)
  where
    behind : AreApart test xs → AreApart test (x ∷ xs)
    behind a = let l = a.lt in record {
      first = suc a.first;
      second = suc a.second;
      lt = omega (arith, l);
      one = a.one;
      other = a.other;
      one_is = a.one_is;
      other_is = a.other_is;
      passes = a.passes;
      also = a.also;
    }

    at : (b : Bool) → test x ≡ b → (earlier later : ℕ) → earlier < later →
        slice_get (map (λ s. s.version) (cond b (x ∷ filter test xs) (filter test xs))) earlier ≡ Some one →
        slice_get (map (λ s. s.version) (cond b (x ∷ filter test xs) (filter test xs))) later ≡ Some other →
        ((e l : ℕ) → e < l → slice_get (passing test xs) e ≡ Some one → slice_get (passing test xs) l ≡ Some other → AreApart test xs) → AreApart test (x ∷ xs)
    at true on earlier zero lt is there more = absurd (omega (arith, lt))
    at true on zero (suc later) lt is there more =
        let found = number_of test xs later other there in
        record {
          first = 0;
          second = suc found.0;
          lt = omega arith;
          one = x;
          other = found.1;
          one_is = refl;
          other_is = found.2;
          passes = on;
          also = found.3;
        }
    at true on (suc earlier) (suc later) lt is there more = behind (more earlier later (omega (arith, lt)) is there)
    at false on earlier later lt is there more = behind (more earlier later lt is there)

-- so the versions of each transaction stand behind all others
pub single_behind : (state : TableState) (xact : ℕ) → AreSingle state → OwnStandBehind xact (table_shown state)
single_behind state xact single zero earlier later row one other is lt first second writer = absurd (cc is)
single_behind state xact single (suc i) earlier later row one other is lt first second writer = absurd (at (cases_lt i state.store.drawn))
  where
    apart : (r : ℕ) → AreApart (is_version_of r) state.store.versions → ⊥
    apart r a =
        let s = single (suc a.first) a.one a.one_is in
        let t = single (suc a.second) a.other a.other_is in
        let same : a.one.row ≡ a.other.row = version_row r a.one a.passes ∙ sym (version_row r a.other a.also) in
        let e : suc a.first ≡ suc a.second = cc (s, t, same) in
        let l = a.lt in omega (arith, e, l)

    at : (i < state.store.drawn) ⊎ (state.store.drawn ≤ i) → ⊥
    at (inl within) =
        let there = rows_at 1 state.store.drawn state.store.versions i within in
        let same : row ≡ row_in state.store.versions (1 + i) = cc (is, there) in
        apart (1 + i)
        (numbers_of (is_version_of (1 + i)) state.store.versions earlier later one other lt
        (ap (λ r. slice_get r.versions earlier) (sym same) ∙ first) (ap (λ r. slice_get r.versions later) (sym same) ∙ second))
    at (inr past) =
        let none = rows_past 1 state.store.drawn state.store.versions i past in
        cc (is, none)
