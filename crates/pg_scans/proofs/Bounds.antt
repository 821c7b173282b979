-- Before the first piece, behind the last one, and how many are left between.
use Rattle.std.proofs.Common.{◌≡◌, ◌≤◌, ◌+◌, ◌*◌, ℕ, zero, suc, true, List, [], ◌∷◌, length, map, take, drop, refl, ap, ◌∙◌, arith, leb-true}
use Rattle.pg_xacts.specs.declared.me.Me.{Me}
use Rattle.pg_xacts.specs.Snapshots.{SnapshotView, WasTakenOf}
use Rattle.pg_xacts.specs.Transactions.{Transactions}
use Rattle.pg_table.specs.States.{TableState}
use Rattle.pg_scans.specs.Readings.{IsReading, ReadingView, is_all_read, new_reading, pieces_left, seen_in, tables_left}

pub first_reading : (tables : List TableState) (transactions : Transactions) (me : Me) (snapshot : SnapshotView) (numbers : List ℕ) →
    WasTakenOf transactions snapshot → IsReading tables transactions (new_reading me snapshot numbers)
first_reading tables transactions me snapshot numbers taken = record {
  taken = taken;
  count = omega arith;
  seen = refl;
  part = refl;
  first = omega arith;
  within = omega arith;
}

take_all : {X : Type 0} (xs : List X) (n : ℕ) → length xs ≤ n → take n xs ≡ xs
take_all [] zero le = refl
take_all [] (suc n) le = refl
take_all (x ∷ xs) zero le = absurd (omega (arith, le))
take_all (x ∷ xs) (suc n) le = ap (λ ys. x ∷ ys) (take_all xs n (omega (arith, le)))

pub last_reading : (tables : List TableState) (transactions : Transactions) (reading : ReadingView) → IsReading tables transactions reading →
    is_all_read reading ≡ true → reading.seen ≡ map (seen_in tables transactions reading) reading.tables
last_reading tables transactions reading is done =
    is.seen
    ∙ ap (map (seen_in tables transactions reading))
    (take_all reading.tables (length reading.seen) (leb-true (length reading.tables) (length reading.seen) done))

drop_bounded : {X : Type 0} (n : ℕ) (xs : List X) → length (drop n xs) ≤ length xs
drop_bounded zero xs = omega arith
drop_bounded (suc n) [] = omega arith
drop_bounded (suc n) (x ∷ xs) = let h = drop_bounded n xs in omega (arith, h)

times_more : (a b m : ℕ) → a ≤ b → a * m ≤ b * m
times_more a b m le = grind (arith, le)

pub left_bounded : (most : ℕ) (reading : ReadingView) → pieces_left most reading ≤ length reading.tables * (1 + most)
left_bounded most reading =
    let k = times_more (length (tables_left reading)) (length reading.tables) (1 + most) (drop_bounded (length reading.seen) reading.tables) in
    omega (arith, k)
