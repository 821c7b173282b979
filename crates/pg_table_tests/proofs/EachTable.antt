-- Sets of tables into which rows are only inserted.
use Rattle.std.proofs.Common.{◌≡◌, ℕ, zero, suc, List, [], ◌∷◌, Some, Result, Ok, Err, map, slice_get, slice_set, refl, sym, subst}
use Rattle.std.specs.Result.{OnErr, OnOk}
use Rattle.pg_lists.specs.Numbered.{item_at, with_item}
use Rattle.pg_table.specs.States.{TableState, empty_state}
use Rattle.pg_table_tests.specs.Single.{AllAreSingle, AreSingle}

-- what follows of an answer both with a value and with an error
pub either_way : {T E A B C : Type 0} (result : Result T E) → OnOk result A → OnErr result B → (A → C) → (B → C) → C
either_way (Ok value) ok err one other = one ok
either_way (Err error) ok err one other = other err

-- the table that a call leaves has such rows, where the call says what the table is on success, and else that it stays
pub single_either : {T E : Type 0} (result : Result T E) (before changed after : TableState) →
    OnOk result (after ≡ changed) → OnErr result (after ≡ before) → AreSingle before → AreSingle changed → AreSingle after
single_either result before changed after ok err old new =
    either_way result ok err (λ e. subst (λ s. AreSingle s) (sym e) new) (λ e. subst (λ s. AreSingle s) (sym e) old)

single_empty : AreSingle empty_state
single_empty zero stored is = absurd (cc is)
single_empty (suc i) stored is = absurd (cc is)

-- the tables of a catalogue are empty
pub all_empty : {X : Type 0} (xs : List X) → AllAreSingle (map (λ x. empty_state) xs)
all_empty [] number state is = absurd (cc is)
all_empty (x ∷ xs) zero state is =
    let same : empty_state ≡ state = cc is in
    subst (λ s. AreSingle s) same single_empty
all_empty (x ∷ xs) (suc number) state is = all_empty xs number state is

-- the same is done in each table
pub all_mapped : (change : TableState → TableState) → ((state : TableState) → AreSingle state → AreSingle (change state)) →
    (tables : List TableState) → AllAreSingle tables → AllAreSingle (map change tables)
all_mapped change keeps [] all number state is = absurd (cc is)
all_mapped change keeps (x ∷ xs) all zero state is =
    let same : change x ≡ state = cc is in
    subst (λ s. AreSingle s) same (keeps x (all zero x refl))
all_mapped change keeps (x ∷ xs) all (suc number) state is =
    all_mapped change keeps xs (λ n s e. all (suc n) s e) number state is

-- one table is written
pub all_with : (tables : List TableState) (place : ℕ) (new : TableState) → AllAreSingle tables → AreSingle new → AllAreSingle (with_item tables place new)
all_with [] place new all single number state is = absurd (cc is)
all_with (x ∷ xs) zero new all single zero state is =
    let same : new ≡ state = cc is in
    subst (λ s. AreSingle s) same single
all_with (x ∷ xs) zero new all single (suc number) state is = all (suc number) state is
all_with (x ∷ xs) (suc place) new all single zero state is = all zero state is
all_with (x ∷ xs) (suc place) new all single (suc number) state is =
    all_with xs place new (λ n s e. all (suc n) s e) single number state is
