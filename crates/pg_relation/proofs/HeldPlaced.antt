-- What is placed in a table is placed under the number of a row that has no version yet, and under
-- its own number: each change of a table keeps that.
use Rattle.std.proofs.Common.{◌≡◌, ◌≢◌, ◌⊎◌, ◌<◌, ◌==◌, ℕ, suc, Bool, true, false, cond, not, Contains, List, [], ◌∷◌, ◌++◌, length, filter, Option, Some, None, sym, ap, ◌∙◌, inl, inr, arith, eq-eqb}
use Rattle.std.specs.Prelude.{option_map}
use Rattle.pg_values.specs.declared.value.Value.{Value}
use Rattle.pg_xacts.specs.declared.me.Me.{Me}
use Rattle.pg_heap.specs.declared.row.Row.{Row}
use Rattle.pg_heap.specs.declared.version.Version.{Version}
use Rattle.pg_heap.specs.Rows.{row_drawn, row_of, row_stored, row_without, with_version}
use Rattle.pg_heap.proofs.Lists.{changed_other, get_behind}
use Rattle.pg_world.specs.declared.placed.PlacedRow.{PlacedRow}
use Rattle.pg_world.specs.declared.table.TableView.{TableView}
use Rattle.pg_world.specs.Tables.{TransactionEnd, commit, rollback, next_row, placed_at, placed_stored, row_changed, row_inserted, row_placed, rows_after_end, table_after_end, version_by}
use Rattle.pg_relation.specs.Holds.{IsPlacedFresh}
use Rattle.pg_relation.specs.Locking.{Each}
use Rattle.pg_relation.proofs.HeldStays.{row_at_drawn}
use Rattle.pg_relation.proofs.OfRows.{contained_cases, each_contained}
use Rattle.pg_relation.proofs.RowSteps.{nth_map}
use Rattle.pg_relation.proofs.Versions.{each_filter, each_map, each_more, each_passing, each_two}
use Rattle.pg_relation.proofs.Waiting.{AreDrawn, Drawn}

-- Lists of what is placed.

-- the row that was drawn for it has no version yet
abbrev pub IsFreshIn : List Row → PlacedRow → Type 0
IsFreshIn rows placed = row_of rows placed.row ≡ Some (record { number = placed.row; versions = [] })

-- each under another number than those before it
abbrev pub AreApart : List PlacedRow → Type 0
AreApart [] = Unit {0}
AreApart (placed ∷ others) = Each (λ later. later.row ≢ placed.row) others × AreApart others

apart_more : (placed : List PlacedRow) (last : PlacedRow) → AreApart placed → Each (λ one. last.row ≢ one.row) placed →
    AreApart (placed ++ last ∷ [])
apart_more [] last apart other = (tt, tt)
apart_more (one ∷ placed) last apart other =
    (each_more (λ later. later.row ≢ one.row) placed last apart.0 other.0, apart_more placed last apart.1 other.1)

apart_filter : (test : PlacedRow → Bool) (placed : List PlacedRow) → AreApart placed → AreApart (filter test placed)
apart_filter test [] apart = tt
apart_filter test (one ∷ placed) apart = at (test one) (apart_filter test placed apart.1)
  where
    at : (b : Bool) → AreApart (filter test placed) → AreApart (cond b (one ∷ filter test placed) (filter test placed))
    at true rest = (each_filter (λ later. later.row ≢ one.row) test placed apart.0, rest)
    at false rest = rest

-- one number, one row that is placed
apart_one : (placed : List PlacedRow) (one other : PlacedRow) → AreApart placed → Contains placed one → Contains placed other →
    one.row ≡ other.row → one ≡ other
apart_one [] one other apart has also same = absurd (omega (arith, has.1))
apart_one (first ∷ placed) one other apart has also same =
    at (contained_cases first placed one has) (contained_cases first placed other also)
    (λ h a. apart_one placed one other apart.1 h a same)
  where
    at : (first ≡ one) ⊎ Contains placed one → (first ≡ other) ⊎ Contains placed other →
        (Contains placed one → Contains placed other → one ≡ other) → one ≡ other
    at (inl here) (inl there) rest = sym here ∙ there
    at (inl here) (inr there) rest =
        absurd (each_contained (λ later. later.row ≢ first.row) placed other apart.0 there (sym same ∙ ap (λ p. p.row) (sym here)))
    at (inr here) (inl there) rest =
        absurd (each_contained (λ later. later.row ≢ first.row) placed one apart.0 here (same ∙ ap (λ p. p.row) (sym there)))
    at (inr here) (inr there) rest = rest here there

-- a number behind all that were drawn is another than each of theirs
above_drawn : (drawn row : ℕ) (placed : List PlacedRow) → drawn < row → AreDrawn drawn placed → Each (λ one. row ≢ one.row) placed
above_drawn drawn row [] above all = tt
above_drawn drawn row (one ∷ placed) above all =
    (λ e. let l = all.0 in omega (arith, l, e, above), above_drawn drawn row placed above all.1)

-- what is placed in a table, as lists have it
pub record AreFresh (table : TableView) : Type 0 where
  pub fresh : Each (λ placed. IsFreshIn table.rows placed) table.placed
  pub apart : AreApart table.placed

pub fresh_contained : (table : TableView) → AreFresh table → IsPlacedFresh table
fresh_contained table fresh = record {
  fresh = λ placed has. each_contained (λ placed. IsFreshIn table.rows placed) table.placed placed fresh.fresh has;
  only = λ one other has also same. apart_one table.placed one other fresh.apart has also same;
}

-- Changes of a table.

pub fresh_placed : (table : TableView) (me : Me) (values : List Value) → Drawn table → AreFresh table → AreFresh (row_placed table me values)
fresh_placed table me values drawn fresh = record {
  fresh = each_more (λ one. IsFreshIn (row_drawn table.rows) one) table.placed last
      (each_map (λ one. IsFreshIn table.rows one) (λ one. IsFreshIn (row_drawn table.rows) one)
      (λ one is. row_at_drawn table.rows one.row (record { number = one.row; versions = [] }) is) table.placed fresh.fresh)
      (new (next_row table) (omega arith));
  apart = apart_more table.placed last fresh.apart (above_drawn (length table.rows) (next_row table) table.placed (omega arith) drawn);
}
  where
    last : PlacedRow
    last = record { row = next_row table; me = me; values = values }

    new : (n : ℕ) → n ≡ suc (length table.rows) → row_of (row_drawn table.rows) n ≡ Some (record { number = next_row table; versions = [] })
    new n is = rw is (get_behind table.rows (record { number = next_row table; versions = [] }))

-- another row gets a version
fresh_in_stored : (rows : List Row) (number : ℕ) (version : Version) (one : PlacedRow) → IsFreshIn rows one → one.row ≢ number →
    IsFreshIn (row_stored rows number version) one
fresh_in_stored rows number version one is apart = changed_other (with_version version) rows number one.row apart ∙ is

other_row : (row : ℕ) (one : PlacedRow) → not (one.row == row) ≡ true → one.row ≢ row
other_row row one is same = let e : not true ≡ true = rw (eq-eqb one.row row same) at is in absurd (cc e)

pub fresh_inserted : (table : TableView) (me : Me) (row : ℕ) → AreFresh table → AreFresh (row_inserted table me row)
fresh_inserted table me row fresh = at (placed_at table.placed row)
  where
    beside : PlacedRow → Bool
    beside one = not (one.row == row)

    at : (o : Option PlacedRow) → AreFresh (placed_stored table me row o)
    at None = fresh
    at (Some stored) = record {
      fresh = each_two (λ one. IsFreshIn table.rows one) (λ one. one.row ≢ row)
          (λ one. IsFreshIn (row_stored table.rows row (version_by me stored.values)) one)
          (λ one is apart. fresh_in_stored table.rows row (version_by me stored.values) one is apart) (filter beside table.placed)
          (each_filter (λ one. IsFreshIn table.rows one) beside table.placed fresh.fresh)
          (each_passing (λ one. one.row ≢ row) beside (λ one is. other_row row one is) table.placed);
      apart = apart_filter beside table.placed fresh.apart;
    }

pub fresh_changed : (table : TableView) (me : Me) (number : ℕ) (values : Option (List Value)) (row : Row) → row_of table.rows number ≡ Some row →
    (row.versions ≡ [] → ⊥) → AreFresh table → AreFresh (row_changed table me number values)
fresh_changed table me number values row row_is some fresh = record {
  fresh = each_map (λ one. IsFreshIn table.rows one) (λ one. IsFreshIn (row_stored table.rows number version) one)
      (λ one is. fresh_in_stored table.rows number version one is (apart one is)) table.placed fresh.fresh;
  apart = fresh.apart;
}
  where
    version : Version
    version = record { values = values; writer = me.xact; command = me.command }

    apart : (one : PlacedRow) → IsFreshIn table.rows one → one.row ≢ number
    apart one is same =
        let e : Some row ≡ Some (record { number = one.row; versions = [] }) =
        sym row_is ∙ (ap (λ k. row_of table.rows k) (sym same) ∙ is) in
        let f : row ≡ record { number = one.row; versions = [] } = cc e in
        some (ap (λ r. r.versions) f)

pub fresh_ended : (xact : ℕ) (end : TransactionEnd) (table : TableView) → AreFresh table → AreFresh (table_after_end xact end table)
fresh_ended xact end table fresh = record {
  fresh = each_filter (λ one. IsFreshIn (rows_after_end xact end table.rows) one) others table.placed
      (each_map (λ one. IsFreshIn table.rows one) (λ one. IsFreshIn (rows_after_end xact end table.rows) one)
      (λ one is. left end one is) table.placed fresh.fresh);
  apart = apart_filter others table.placed fresh.apart;
}
  where
    others : PlacedRow → Bool
    others one = not (one.me.xact == xact)

    left : (end : TransactionEnd) (one : PlacedRow) → IsFreshIn table.rows one → IsFreshIn (rows_after_end xact end table.rows) one
    left commit one is = is
    left rollback one is =
        nth_map (row_without xact) table.rows one.row ∙ ap (λ o. option_map (row_without xact) o) is
