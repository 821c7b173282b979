-- A piece takes a reading on, and fewer pieces are left.
use Rattle.std.proofs.Common.{◌≡◌, ◌<◌, ◌≤◌, ◌+◌, ◌-◌, ◌*◌, ◌++◌, ℕ, zero, suc, Bool, true, false, cond, List, [], ◌∷◌, Option, Some, None, length, map, max, take, drop, slice_get, nat_le, option_map, option_and_then, refl, ap, ap₂, sym, subst, ◌∙◌, arith, append-nil}
use Rattle.std.specs.Prelude.{filter_map}
use Rattle.std.specs.List.{cons_option}
use Rattle.std.specs.Option.{option_map_or}
use Rattle.std.proofs.lemmas.List.{map-append}
use Rattle.std.proofs.lemmas.List.Elements.{All-cons, All-nil}
use Rattle.std.proofs.lemmas.Option.{slice_get-map}
use Rattle.pg_lists.specs.Numbered.{item_at}
use Rattle.pg_xacts.specs.Transactions.{Transactions}
use Rattle.pg_heap.specs.Pieces.{piece_count, piece_from}
use Rattle.pg_rows.proofs.Shown.{piece_follows}
use Rattle.pg_rows.specs.Scans.{number_behind, numbers_from, seen_at, seen_below, seen_stored, is_number}
use Rattle.pg_rows.specs.Stores.{AreWithin, Stored, seen_number, stored_of}
use Rattle.pg_rows.specs.declared.scan.SeenVersion.{SeenVersion}
use Rattle.pg_world.specs.Candidates.{seen_rows}
use Rattle.pg_world.specs.declared.candidate.SeenRow.{SeenRow}
use Rattle.pg_table.proofs.Scanned.{scanned_is}
use Rattle.pg_table.specs.Scanned.{in_row_order, seen_row_of}
use Rattle.pg_table.specs.States.{IsTable, TableState, table_shown}
use Rattle.pg_scans.specs.Readings.{AreDrawn, HaveVersions, IsReading, ReadingView, found_in, next_in, pieces_left, present_versions, reading_gone_on, rows_with, seen_in, table_gone_through, tables_left, versions_in}

-- lists by one item more
module _ {X : Type 0} where
  within : (xs : List X) (n : ℕ) (x : X) → slice_get xs n ≡ Some x → n < length xs
  within [] n x is = absurd (cc is)
  within (y ∷ ys) zero x is = omega arith
  within (y ∷ ys) (suc n) x is = let h = within ys n x is in omega (arith, h)

  take_next : (xs : List X) (n : ℕ) (x : X) → slice_get xs n ≡ Some x → take (suc n) xs ≡ take n xs ++ x ∷ []
  take_next [] n x is = absurd (cc is)
  take_next (y ∷ ys) zero x is = let e : y ≡ x = cc is in rw e refl
  take_next (y ∷ ys) (suc n) x is = ap (λ zs. y ∷ zs) (take_next ys n x is)

  drop_next : (xs : List X) (n : ℕ) (x : X) → slice_get xs n ≡ Some x → drop n xs ≡ x ∷ drop (suc n) xs
  drop_next [] n x is = absurd (cc is)
  drop_next (y ∷ ys) zero x is = let e : y ≡ x = cc is in rw e refl
  drop_next (y ∷ ys) (suc n) x is = drop_next ys n x is

one_longer : {X : Type 0} (xs : List X) (x : X) → length (xs ++ x ∷ []) ≡ suc (length xs)
one_longer [] x = refl
one_longer (y ∷ ys) x = ap suc (one_longer ys x)

-- the pieces of the tables behind the present one, where no table has more than so many versions
abbrev others_left : ℕ → ReadingView → ℕ
others_left most reading = length (drop (suc (length reading.seen)) reading.tables) * (1 + most)

left_is : (most : ℕ) (reading : ReadingView) (number : ℕ) → item_at reading.tables (length reading.seen) ≡ Some number →
    length (tables_left reading) * (1 + most) ≡ 1 + most + others_left most reading
left_is most reading number there =
    ap (λ xs. length xs * (1 + most)) (drop_next reading.tables (length reading.seen) number there)
    ∙ one_more (length (drop (suc (length reading.seen)) reading.tables)) (1 + most)
  where
    one_more : (n m : ℕ) → suc n * m ≡ m + n * m
    one_more n m = grind arith

left_behind : (most : ℕ) (reading : ReadingView) (rows : List SeenRow) →
    length (drop (length (reading.seen ++ rows ∷ [])) reading.tables) * (1 + most) ≡ others_left most reading
left_behind most reading rows = ap (λ n. length (drop n reading.tables) * (1 + most)) (one_longer reading.seen rows)

-- the number behind a piece
record IsNext (last from next : ℕ) : Type 0 where
  pub greater : from < next
  pub within : next ≤ last

next_is : (last from next : ℕ) → 0 < from → (piece_from last from).next ≡ Some next → IsNext last from next
next_is last from next first is = at (nat_le after last) refl is
  where
    after : ℕ
    after = max 1 from + piece_count last (max 1 from)

    at : (b : Bool) → nat_le after last ≡ b → cond b (Some after) None ≡ Some next → IsNext last from next
    at false le is = absurd (cc is)
    at true le is = let e : after ≡ next = cc is in record { greater = grind (arith, e, le, first); within = grind (arith, e, le) }

-- the present table
module _ (tables : List TableState) (transactions : Transactions) (reading : ReadingView) (number : ℕ) (state : TableState)
    (there : item_at reading.tables (length reading.seen) ≡ Some number) (at : item_at tables number ≡ Some state)
    (is : IsReading tables transactions reading) where
  pub present_is : present_versions tables reading ≡ state.store.versions
  present_is =
      ap (λ o. option_map_or (versions_in tables) o []) there
      ∙ ap (λ o. option_map_or (λ s. s.store.versions) o []) at

  pub seen_is : seen_in tables transactions reading number ≡ seen_rows transactions reading.snapshot.commits reading.me (table_shown state)
  seen_is =
      ap (λ o. option_map_or (seen_rows transactions reading.snapshot.commits reading.me) o [])
      (slice_get-map table_shown tables number ∙ ap (λ o. option_map table_shown o) at)

  -- what was found_in transactions state reading what the piece shows
  abbrev found : List SeenVersion
  found = found_in transactions state reading

  abbrev below : ℕ → List SeenVersion
  below from = seen_below transactions reading.snapshot.commits reading.me state.store.versions from

  in_range : reading.from ≤ length state.store.versions + 1
  in_range = subst (λ versions. reading.from ≤ length versions + 1) present_is is.within

  collected : (o : Option ℕ) → next_in state reading ≡ o →
      rows_with reading found ≡ map seen_row_of (below (number_behind state.store.versions o))
  collected o next =
      ap (λ part. part ++ map seen_row_of found)
      (is.part ∙ ap (λ versions. map seen_row_of (seen_below transactions reading.snapshot.commits reading.me versions reading.from)) present_is)
      ∙ (sym (map-append seen_row_of (below reading.from) found)
      ∙ ap (map seen_row_of)
      (piece_follows transactions reading.snapshot.commits reading.me state.store.versions reading.from is.first in_range
      ∙ ap (λ o. below (number_behind state.store.versions o)) next))

  pub gone_on : (next : ℕ) → next_in state reading ≡ Some next →
      IsReading tables transactions (reading_gone_on reading found next)
  gone_on next goes =
      let n = next_is (length state.store.versions) reading.from next is.first goes in
      let less = n.greater in
      let le = n.within in
      record {
        taken = is.taken;
        count = is.count;
        seen = is.seen;
        part =
            collected (Some next) goes
            ∙ ap (λ versions. map seen_row_of (seen_below transactions reading.snapshot.commits reading.me versions next)) (sym present_is);
        first = omega (arith, less);
        within = subst (λ versions. next ≤ length versions + 1) (sym present_is) (omega (arith, le));
      }

  -- the rows collected have numbers that were drawn
  rows_drawn : AreWithin state.store → (first count : ℕ) →
      AreDrawn state.store.drawn (map seen_row_of (filter_map (seen_at transactions reading.snapshot.commits reading.me state.store.versions) (numbers_from first count)))
  rows_drawn kept first zero = All-nil (λ seen. (0 < seen.row) × (seen.row ≤ state.store.drawn))
  rows_drawn kept first (suc count) = of_number (stored_of state.store.versions first) refl (rows_drawn kept (first + 1) count)
    where
      others : List SeenVersion
      others = filter_map (seen_at transactions reading.snapshot.commits reading.me state.store.versions) (numbers_from (first + 1) count)

      of_stored : (stored : Stored) → stored_of state.store.versions first ≡ Some stored → (b : Bool) → AreDrawn state.store.drawn (map seen_row_of others) →
          AreDrawn state.store.drawn (map seen_row_of (cons_option (cond b (Some (record { row = stored.row; number = first; version = stored.version })) None) others))
      of_stored stored e false all = all
      of_stored stored e true all =
          All-cons (λ seen. (0 < seen.row) × (seen.row ≤ state.store.drawn)) (record { row = stored.row; version = stored.version }) (map seen_row_of others)
          (kept first stored e) all

      of_number : (o : Option Stored) → stored_of state.store.versions first ≡ o → AreDrawn state.store.drawn (map seen_row_of others) →
          AreDrawn state.store.drawn
          (map seen_row_of (cons_option (option_and_then (seen_stored transactions reading.snapshot.commits reading.me state.store.versions first) o) others))
      of_number None e all = all
      of_number (Some stored) e all =
          of_stored stored e (is_number (seen_number transactions reading.snapshot.commits reading.me state.store.versions stored.row) first) all

  pub all_drawn : IsTable state → next_in state reading ≡ None →
      AreDrawn state.store.drawn (rows_with reading found)
  all_drawn table ends =
      subst (λ rows. AreDrawn state.store.drawn rows) (sym (collected None ends)) (rows_drawn table.within 1 (length state.store.versions + 1 - 1))

  pub gone_through : next_in state reading ≡ None →
      IsReading tables transactions (table_gone_through state.store.drawn reading found)
  gone_through ends = record {
    taken = is.taken;
    count = let h = within reading.tables (length reading.seen) number there in let l = one_longer reading.seen rows in omega (arith, h, l);
    seen =
        ap₂ (λ xs x. xs ++ x ∷ []) is.seen
        (ap (λ rows. in_row_order state.store.drawn rows) (collected None ends)
        ∙ (scanned_is transactions reading.snapshot.commits reading.me state ∙ sym seen_is))
        ∙ (sym (map-append (seen_in tables transactions reading) (take (length reading.seen) reading.tables) (number ∷ []))
        ∙ (ap (map (seen_in tables transactions reading)) (sym (take_next reading.tables (length reading.seen) number there))
        ∙ ap (λ n. map (seen_in tables transactions reading) (take n reading.tables)) (sym (one_longer reading.seen rows))));
    part = refl;
    first = omega arith;
    within = omega arith;
  }
    where
      rows : List SeenRow
      rows = in_row_order state.store.drawn (rows_with reading found)

  -- fewer pieces are left
  pub less_on : (next : ℕ) → next_in state reading ≡ Some next → (most : ℕ) → HaveVersions most tables →
      pieces_left most (reading_gone_on reading (found_in transactions state reading) next) < pieces_left most reading
  less_on next goes most few =
      let n = next_is (length state.store.versions) reading.from next is.first goes in
      let less = n.greater in
      let le = n.within in
      let first = is.first in
      let bound = few number state at in
      let left = left_is most reading number there in
      omega (arith, less, le, first, bound, left)

  pub less_through : (rows : List SeenRow) (part : List SeenRow) (most : ℕ) → HaveVersions most tables →
      pieces_left most (record reading { seen = reading.seen ++ rows ∷ []; part = part; from = 1 }) < pieces_left most reading
  less_through rows part most few =
      let range = in_range in
      let first = is.first in
      let bound = few number state at in
      let left = left_is most reading number there in
      let now = left_behind most reading rows in
      omega (arith, range, first, bound, left, now)

-- a table that is not there
module _ (tables : List TableState) (transactions : Transactions) (reading : ReadingView) (number : ℕ)
    (there : item_at reading.tables (length reading.seen) ≡ Some number) (missing : item_at tables number ≡ None) (is : IsReading tables transactions reading) where
  none_present : present_versions tables reading ≡ []
  none_present =
      ap (λ o. option_map_or (versions_in tables) o []) there
      ∙ ap (λ o. option_map_or (λ s. s.store.versions) o []) missing

  at_first : reading.from ≡ 1
  at_first =
      let h : reading.from ≤ 0 + 1 = subst (λ versions. reading.from ≤ length versions + 1) none_present is.within in
      let first = is.first in
      omega (arith, h, first)

  nothing : rows_with reading [] ≡ []
  nothing =
      append-nil reading.part
      ∙ (is.part
      ∙ (ap (λ versions. map seen_row_of (seen_below transactions reading.snapshot.commits reading.me versions reading.from)) none_present
      ∙ ap (λ from. map seen_row_of (seen_below transactions reading.snapshot.commits reading.me [] from)) at_first))

  pub none_drawn : AreDrawn 0 (rows_with reading [])
  none_drawn = subst (λ rows. AreDrawn 0 rows) (sym nothing) (All-nil (λ seen. (0 < seen.row) × (seen.row ≤ 0)))

  none_seen : [] ≡ seen_in tables transactions reading number
  none_seen =
      sym
      (ap (λ o. option_map_or (seen_rows transactions reading.snapshot.commits reading.me) o [])
      (slice_get-map table_shown tables number ∙ ap (λ o. option_map table_shown o) missing))

  pub passed_over : IsReading tables transactions (table_gone_through 0 reading [])
  passed_over = record {
    taken = is.taken;
    count = let h = within reading.tables (length reading.seen) number there in let l = one_longer reading.seen [] in omega (arith, h, l);
    seen =
        ap₂ (λ xs x. xs ++ x ∷ []) is.seen none_seen
        ∙ (sym (map-append (seen_in tables transactions reading) (take (length reading.seen) reading.tables) (number ∷ []))
        ∙ (ap (map (seen_in tables transactions reading)) (sym (take_next reading.tables (length reading.seen) number there))
        ∙ ap (λ n. map (seen_in tables transactions reading) (take n reading.tables)) (sym (one_longer reading.seen []))));
    part = refl;
    first = omega arith;
    within = omega arith;
  }

  pub less_over : (most : ℕ) → pieces_left most (table_gone_through 0 reading []) < pieces_left most reading
  less_over most =
      let first = at_first in
      let left = left_is most reading number there in
      let now = left_behind most reading [] in
      omega (arith, first, left, now)

-- fewer pieces are left, however many versions the tables have
abbrev FewerLeft : List TableState → ReadingView → ReadingView → Type 0
FewerLeft tables reading after = (most : ℕ) → HaveVersions most tables → pieces_left most after < pieces_left most reading

-- what a piece leaves, by what the code has found
pub read_on : (tables : List TableState) (transactions : Transactions) (reading after : ReadingView) (number : ℕ) (state : TableState)
    (found : List SeenVersion) (next : Option ℕ) (from : ℕ) → item_at reading.tables (length reading.seen) ≡ Some number →
    Some state ≡ item_at tables number → IsReading tables transactions reading → found ≡ found_in transactions state reading →
    next ≡ next_in state reading → next ≡ Some from → after ≡ reading_gone_on reading found from →
    IsReading tables transactions after × FewerLeft tables reading after
read_on tables transactions reading after number state found next from there at is seen behind goes made =
    let e = made ∙ ap (λ xs. reading_gone_on reading xs from) seen in
    let n = sym behind ∙ goes in
    rw e (gone_on tables transactions reading number state there (sym at) is from n, less_on tables transactions reading number state there (sym at) is from n)

pub read_through : (tables : List TableState) (transactions : Transactions) (reading after : ReadingView) (number : ℕ) (state : TableState)
    (found : List SeenVersion) (next : Option ℕ) → item_at reading.tables (length reading.seen) ≡ Some number →
    Some state ≡ item_at tables number → IsReading tables transactions reading → IsTable state → found ≡ found_in transactions state reading →
    next ≡ next_in state reading → next ≡ None →
    ((drawn : ℕ) → AreDrawn drawn (rows_with reading found) → after ≡ table_gone_through drawn reading found) →
    IsReading tables transactions after × FewerLeft tables reading after
read_through tables transactions reading after number state found next there at is table seen behind ends made =
    let n = sym behind ∙ ends in
    let drawn : AreDrawn state.store.drawn (rows_with reading found)
    = subst (λ xs. AreDrawn state.store.drawn (rows_with reading xs)) (sym seen) (all_drawn tables transactions reading number state there (sym at) is table n) in
    let e = made state.store.drawn drawn ∙ ap (λ xs. table_gone_through state.store.drawn reading xs) seen in
    rw e (
      gone_through tables transactions reading number state there (sym at) is n,
      less_through tables transactions reading number state there (sym at) is (in_row_order state.store.drawn (rows_with reading (found_in transactions state reading))) [],
    )

pub read_over : (tables : List TableState) (transactions : Transactions) (reading after : ReadingView) (number : ℕ) (found : List SeenVersion) →
    item_at reading.tables (length reading.seen) ≡ Some number → None ≡ item_at tables number → IsReading tables transactions reading → found ≡ [] →
    ((drawn : ℕ) → AreDrawn drawn (rows_with reading found) → after ≡ table_gone_through drawn reading found) →
    IsReading tables transactions after × FewerLeft tables reading after
read_over tables transactions reading after number found there missing is none made =
    let drawn : AreDrawn 0 (rows_with reading found)
    = subst (λ xs. AreDrawn 0 (rows_with reading xs)) (sym none) (none_drawn tables transactions reading number there (sym missing) is) in
    let e = made 0 drawn ∙ ap (λ xs. table_gone_through 0 reading xs) none in
    rw e (passed_over tables transactions reading number there (sym missing) is, λ most few. less_over tables transactions reading number there (sym missing) is most)
