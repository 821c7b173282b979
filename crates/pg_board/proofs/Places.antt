-- The places of a session's lines lead to its statements.
use Rattle.std.proofs.Common.{◌≡◌, ℕ, zero, suc, ◌+◌, List, [], ◌∷◌, drop, Option, Some, None, slice_get, refl, sym, add-one}
use Rattle.std.specs.Prelude.{option_and_then, Result}
use Rattle.pg_model.specs.declared.error.SqlError.{SqlError}
use Rattle.pg_model.specs.declared.script.Line.{Line}
use Rattle.pg_model.specs.declared.statement.Statement.{Statement}
use Rattle.pg_relation.specs.Lines.{given_to, statements_given}
use Rattle.pg_board.specs.Queues.{given_at, places_of}

-- what stands behind the first items begins with the item of that place
pub drop_head : {X : Type 0} (xs : List X) (n : ℕ) (x : X) (ys : List X) → drop n xs ≡ x ∷ ys →
    (slice_get xs n ≡ Some x) × (drop (suc n) xs ≡ ys)
drop_head [] zero x ys is = absurd (cc)
drop_head [] (suc n) x ys is = absurd (cc)
drop_head (z ∷ zs) zero x ys is = (cc, cc)
drop_head (z ∷ zs) (suc n) x ys is = drop_head zs n x ys is

-- a line in front of the others, whether it is the session's or not
one_more : (number : ℕ) (all : List Line) (first : ℕ) (line : Line) (lines : List Line) →
    slice_get all first ≡ Some line →
    ((k : ℕ) → option_and_then (given_at number all) (slice_get (places_of number (first + 1) lines) k)
    ≡ slice_get (statements_given number lines) k) →
    (given : Option (Result Statement SqlError)) → given_to number line.content ≡ given → (at : ℕ) →
    option_and_then (given_at number all) (slice_get (places_of number first (line ∷ lines)) at)
    ≡ slice_get (statements_given number (line ∷ lines)) at
unfolding given_at
one_more number all first line lines here behind None is at = rw is (behind at)
one_more number all first line lines here behind (Some given) is zero = rw is (rw here is)
one_more number all first line lines here behind (Some given) is (suc at) = rw is (behind at)

-- the statement at each of the places
line_numbered : (number : ℕ) (all : List Line) (first : ℕ) (lines : List Line) (at : ℕ) → drop first all ≡ lines →
    option_and_then (given_at number all) (slice_get (places_of number first lines) at)
    ≡ slice_get (statements_given number lines) at
line_numbered number all first [] at is = refl
line_numbered number all first (line ∷ lines) at is =
    let split = drop_head all first line lines is in
    one_more number all first line lines split.0
    (λ k. line_numbered number all (first + 1) lines k (rw add-one split.1)) (given_to number line.content) refl at

-- the statement at the place that the queue has next
pub line_found : (number : ℕ) (lines : List Line) (places : List ℕ) (at place : ℕ) →
    places ≡ places_of number 0 lines → slice_get places at ≡ Some place →
    given_at number lines place ≡ slice_get (statements_given number lines) at
line_found number lines places at place are is =
    let found = line_numbered number lines 0 lines at refl in
    let known : slice_get (places_of number 0 lines) at ≡ Some place = rw (← are) is in
    rw known at found

-- where the queue has no place left, the session has no statement
pub line_missing : (number : ℕ) (lines : List Line) (places : List ℕ) (at : ℕ) →
    places ≡ places_of number 0 lines → slice_get places at ≡ None →
    slice_get (statements_given number lines) at ≡ None
line_missing number lines places at are is =
    let found = line_numbered number lines 0 lines at refl in
    let known : slice_get (places_of number 0 lines) at ≡ None = rw (← are) is in
    sym (rw known at found)
