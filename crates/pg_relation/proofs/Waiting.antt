-- A proposed row waits in its table: what is placed there, and what changes of tables leave of it.
use Rattle.std.proofs.Common.{eq-eqb, inl, inr, ◌⊎◌, ◌≡◌, ◌<◌, ◌≤◌, ◌+◌, ◌==◌, ℕ, zero, suc, Bool, true, false, cond, not, List, [], ◌∷◌, ◌++◌, length, filter, Option, Some, None, slice_get, slice_set, refl, sym, ap, ◌∙◌, arith, length-append}
use Rattle.std.specs.Option.{option_map_or}
use Rattle.std.specs.Prelude.{option_map}
use Rattle.std.proofs.lemmas.Bool.{ne_eqb}
use Rattle.std.proofs.lemmas.List.{length-map}
use Rattle.std.proofs.lemmas.Option.{slice_get-map}
use Rattle.pg_lists.specs.Numbered.{with_changed_item}
use Rattle.pg_values.specs.declared.value.Value.{Value}
use Rattle.pg_multi.specs.declared.strength.Strength.{Strength}
use Rattle.pg_xacts.specs.declared.me.Me.{Me}
use Rattle.pg_heap.specs.declared.version.Version.{Version}
use Rattle.pg_heap.specs.declared.row.Row.{Row}
use Rattle.pg_heap.specs.Rows.{row_drawn, row_of, row_stored, row_without, rows_without, with_version}
use Rattle.pg_world.specs.declared.placed.PlacedRow.{PlacedRow}
use Rattle.pg_world.specs.declared.table.TableView.{TableView}
use Rattle.pg_world.specs.Tables.{row_added, TransactionEnd, commit, rollback, next_row, placed_at, placed_stored, row_changed, row_inserted, row_locked, row_placed, table_after_end, version_by}
use Rattle.pg_relation.specs.Locking.{Each}
use Rattle.pg_relation.specs.Sound.{IsWaiting}
use Rattle.pg_heap.proofs.Lists.{changed_other}
use Rattle.pg_relation.proofs.Owners.{slice_get-last, slice_get-more}
use Rattle.pg_xacts.proofs.Lists.{length_changed_from_one}

-- each row that is placed has drawn its number
abbrev pub AreDrawn : ℕ → List PlacedRow → Type 0
AreDrawn drawn [] = Unit {0}
AreDrawn drawn (placed ∷ others) = (placed.row ≤ drawn) × AreDrawn drawn others

pub drawn_more : (drawn : ℕ) (placed : List PlacedRow) (one : PlacedRow) → AreDrawn drawn placed → one.row ≡ drawn + 1 →
    AreDrawn (drawn + 1) (placed ++ one ∷ [])
drawn_more drawn [] one all is = (omega (arith, is), tt)
drawn_more drawn (first ∷ placed) one all is = (omega (arith, all.0), drawn_more drawn placed one all.1 is)

pub drawn_filtered : (drawn : ℕ) (test : PlacedRow → Bool) (placed : List PlacedRow) → AreDrawn drawn placed →
    AreDrawn drawn (filter test placed)
drawn_filtered drawn test [] all = tt
drawn_filtered drawn test (first ∷ placed) all = at (test first) (drawn_filtered drawn test placed all.1)
  where
    at : (b : Bool) → AreDrawn drawn (filter test placed) → AreDrawn drawn (cond b (first ∷ filter test placed) (filter test placed))
    at true rest = (all.0, rest)
    at false rest = rest

-- what is placed under a number
module _ (row : ℕ) (one : PlacedRow) where
  at_more : (placed : List PlacedRow) (last : PlacedRow) → placed_at placed row ≡ Some one →
      placed_at (placed ++ last ∷ []) row ≡ Some one
  at_more [] last is = absurd (cc is)
  at_more (first ∷ placed) last is = at (first.row == row) is (at_more placed last)
    where
      at : (b : Bool) → cond b (Some first) (placed_at placed row) ≡ Some one →
          (placed_at placed row ≡ Some one → placed_at (placed ++ last ∷ []) row ≡ Some one) →
          cond b (Some first) (placed_at (placed ++ last ∷ []) row) ≡ Some one
      at true is more = is
      at false is more = more is

  at_filtered : (test : PlacedRow → Bool) (placed : List PlacedRow) → placed_at placed row ≡ Some one → test one ≡ true →
      placed_at (filter test placed) row ≡ Some one
  at_filtered test [] is passes = absurd (cc is)
  at_filtered test (first ∷ placed) is passes =
      at (first.row == row) refl (test first) refl is (λ e. at_filtered test placed e passes)
    where
      at : (b : Bool) → (first.row == row) ≡ b → (t : Bool) → test first ≡ t →
          cond b (Some first) (placed_at placed row) ≡ Some one →
          (placed_at placed row ≡ Some one → placed_at (filter test placed) row ≡ Some one) →
          placed_at (cond t (first ∷ filter test placed) (filter test placed)) row ≡ Some one
      at true b true t is more = rw b is
      at true b false t is more =
          absurd (let e : first ≡ one = cc is in let f : false ≡ true = sym t ∙ (ap test e ∙ passes) in cc f)
      at false b true t is more = rw b (more is)
      at false b false t is more = more is

-- what is placed last is found, where nothing was placed under its number
at_last : (drawn row : ℕ) (placed : List PlacedRow) (last : PlacedRow) → AreDrawn drawn placed → drawn < row → last.row ≡ row →
    placed_at (placed ++ last ∷ []) row ≡ Some last
at_last drawn row [] last all above is = rw (is, eq-eqb row row refl) refl
at_last drawn row (first ∷ placed) last all above is =
    rw (ne_eqb first.row row (λ e. absurd (omega (arith, e, all.0, above)))) (at_last drawn row placed last all.1 above is)

-- a table in which another row is placed or stored, or in which another transaction ends
pub waiting_placed : (table : TableView) (by me : Me) (others values : List Value) (row : ℕ) →
    IsWaiting table row me values → IsWaiting (row_placed table by others) row me values
waiting_placed table by me others values row waits = record {
  placed = at_more row _ table.placed _ waits.placed;
  fresh = at row waits.fresh;
}
  where
    at : (n : ℕ) → row_of table.rows n ≡ Some (record { number = row; versions = [] }) →
        row_of (row_drawn table.rows) n ≡ Some (record { number = row; versions = [] })
    at zero is = absurd (cc is)
    at (suc before) is = slice_get-more table.rows before _ _ is

pub waiting_new : (table : TableView) (me : Me) (values : List Value) → AreDrawn (length table.rows) table.placed →
    IsWaiting (row_placed table me values) (next_row table) me values
waiting_new table me values drawn = record {
  placed = at_last (length table.rows) (next_row table) table.placed _ drawn (omega arith) refl;
  fresh = fresh (next_row table) (omega arith);
}
  where
    fresh : (n : ℕ) → n ≡ suc (length table.rows) → row_of (row_drawn table.rows) n ≡ Some (record { number = next_row table; versions = [] })
    fresh n is = rw is (slice_get-last table.rows (record { number = next_row table; versions = [] }))

-- a version more of another row
fresh_stored : (rows : List Row) (row number other : ℕ) (version : Version) → (number ≡ other → ⊥) →
    row_of rows number ≡ Some (record { number = row; versions = [] }) →
    row_of (row_stored rows other version) number ≡ Some (record { number = row; versions = [] })
fresh_stored rows row number other version apart is =
    changed_other (with_version version) rows other number apart ∙ is

pub waiting_inserted : (table : TableView) (by me : Me) (values : List Value) (other row : ℕ) → (row ≡ other → ⊥) →
    IsWaiting table row me values → IsWaiting (row_inserted table by other) row me values
waiting_inserted table by me values other row apart waits = at (placed_at table.placed other)
  where
    at : (placed : Option PlacedRow) → IsWaiting (placed_stored table by other placed) row me values
    at None = waits
    at (Some one) = record {
      placed = at_filtered row _ (λ p. not (p.row == other)) table.placed waits.placed (rw (ne_eqb row other apart) refl);
      fresh = fresh_stored table.rows row row other (version_by by one.values) apart waits.fresh;
    }

pub waiting_changed : (table : TableView) (by me : Me) (values : List Value) (other row : ℕ) (held : Option (List Value)) →
    (row ≡ other → ⊥) → IsWaiting table row me values → IsWaiting (row_changed table by other held) row me values
waiting_changed table by me values other row held apart waits = record {
  placed = waits.placed;
  fresh = fresh_stored table.rows row row other (record { values = held; writer = by.xact; command = by.command }) apart waits.fresh;
}

pub waiting_locked : (table : TableView) (me : Me) (values : List Value) (xact other row : ℕ) (strength : Strength) →
    IsWaiting table row me values → IsWaiting (row_locked table xact other strength) row me values
waiting_locked table me values xact other row strength waits = record { placed = waits.placed; fresh = waits.fresh }

pub waiting_ended : (table : TableView) (me : Me) (values : List Value) (row xact : ℕ) (end : TransactionEnd) →
    (me.xact ≡ xact → ⊥) → IsWaiting table row me values → IsWaiting (table_after_end xact end table) row me values
waiting_ended table me values row xact commit apart waits = record {
  placed = at_filtered row _ (λ p. not (p.me.xact == xact)) table.placed waits.placed (rw (ne_eqb me.xact xact apart) refl);
  fresh = waits.fresh;
}
waiting_ended table me values row xact rollback apart waits = record {
  placed = at_filtered row _ (λ p. not (p.me.xact == xact)) table.placed waits.placed (rw (ne_eqb me.xact xact apart) refl);
  fresh = at row waits.fresh;
}
  where
    at : (n : ℕ) → row_of table.rows n ≡ Some (record { number = row; versions = [] }) →
        row_of (rows_without xact table.rows) n ≡ Some (record { number = row; versions = [] })
    at zero is = absurd (cc is)
    at (suc before) is = slice_get-map (row_without xact) table.rows before ∙ ap (λ o. option_map (row_without xact) o) is

-- each number of what is placed was drawn, in every table
abbrev pub Drawn : TableView → Type 0
Drawn table = AreDrawn (length table.rows) table.placed

abbrev pub AllDrawn : List TableView → Type 0
AllDrawn tables = Each (λ table. Drawn table) tables

pub drawn_placed : (by : Me) (values : List Value) (table : TableView) → Drawn table → Drawn (row_placed table by values)
drawn_placed by values table drawn =
    rw (length-append {A = Row}) (drawn_more (length table.rows) table.placed _ drawn refl)

pub drawn_inserted : (by : Me) (row : ℕ) (table : TableView) → Drawn table → Drawn (row_inserted table by row)
drawn_inserted by row table drawn = at (placed_at table.placed row)
  where
    at : (placed : Option PlacedRow) → Drawn (placed_stored table by row placed)
    at None = drawn
    at (Some one) =
        rw (length_changed_from_one (with_version (version_by by one.values)) table.rows row)
        (drawn_filtered (length table.rows) (λ p. not (p.row == row)) table.placed drawn)

pub drawn_stored : (by : Me) (row : ℕ) (held : Option (List Value)) (table : TableView) → Drawn table → Drawn (row_changed table by row held)
drawn_stored by row held table drawn =
    rw (length_changed_from_one (with_version (record { values = held; writer = by.xact; command = by.command })) table.rows row) drawn

pub drawn_locked : (xact row : ℕ) (strength : Strength) (table : TableView) → Drawn table → Drawn (row_locked table xact row strength)
drawn_locked xact row strength table drawn = drawn

pub drawn_ended : (xact : ℕ) (end : TransactionEnd) (table : TableView) → Drawn table → Drawn (table_after_end xact end table)
drawn_ended xact commit table drawn = drawn_filtered (length table.rows) (λ p. not (p.me.xact == xact)) table.placed drawn
drawn_ended xact rollback table drawn =
    rw (length-map table.rows (row_without xact))
    (drawn_filtered (length table.rows) (λ p. not (p.me.xact == xact)) table.placed drawn)

pub drawn_one : (by : Me) (values : List Value) (table : TableView) → Drawn table → Drawn (row_added table by values)
drawn_one by values table drawn =
    rw (length_changed_from_one (with_version (version_by by values)) (row_drawn table.rows) (next_row table))
    (rw (length-append {A = Row}) (drawn_wider (length table.rows) table.placed drawn))
  where
    drawn_wider : (n : ℕ) (placed : List PlacedRow) → AreDrawn n placed → AreDrawn (n + 1) placed
    drawn_wider n [] all = tt
    drawn_wider n (first ∷ placed) all = (omega (arith, all.0), drawn_wider n placed all.1)

-- the table of a number, where one was changed
pub table_changed : (change : TableView → TableView) (tables : List TableView) (place number : ℕ) (table : TableView) →
    slice_get tables number ≡ Some table →
    ((number ≡ place) × (slice_get (with_changed_item change tables place) number ≡ Some (change table)))
    ⊎ (slice_get (with_changed_item change tables place) number ≡ Some table)
table_changed change tables place number table is = at (slice_get tables place) refl
  where
    set : (ts : List TableView) (i j : ℕ) (one : TableView) → slice_get ts i ≡ Some one → slice_get ts j ≡ Some table →
        ((j ≡ i) × (slice_get (slice_set ts i (change one)) j ≡ Some (change table)))
        ⊎ (slice_get (slice_set ts i (change one)) j ≡ Some table)
    set [] i j one here there = absurd (cc here)
    set (t ∷ ts) zero zero one here there =
        let e : Some one ≡ Some table = sym here ∙ there in
        let f : one ≡ table = cc e in inl (refl, ap (λ x. Some (change x)) f)
    set (t ∷ ts) zero (suc j) one here there = inr there
    set (t ∷ ts) (suc i) zero one here there = inr there
    set (t ∷ ts) (suc i) (suc j) one here there = behind (set ts i j one here there)
      where
        behind : ((j ≡ i) × (slice_get (slice_set ts i (change one)) j ≡ Some (change table)))
            ⊎ (slice_get (slice_set ts i (change one)) j ≡ Some table) →
            ((suc j ≡ suc i) × (slice_get (slice_set ts i (change one)) j ≡ Some (change table)))
            ⊎ (slice_get (slice_set ts i (change one)) j ≡ Some table)
        behind (inl h) = inl (ap suc h.0, h.1)
        behind (inr h) = inr h

    at : (o : Option TableView) → slice_get tables place ≡ o →
        ((number ≡ place) × (slice_get (option_map_or (λ t. slice_set tables place (change t)) o tables) number ≡ Some (change table)))
        ⊎ (slice_get (option_map_or (λ t. slice_set tables place (change t)) o tables) number ≡ Some table)
    at None here = inr is
    at (Some one) here = set tables place number one here is
