-- The first line of a text.
use Rattle.std.proofs.Common.{◌≡◌, ◌+◌, ◌==◌, ℕ, suc, Bool, true, false, cond, List, [], ◌∷◌, ◌++◌, take, drop, map, not, refl, ap, arith}
use Rattle.std.specs.List.{prefix_len}
use Rattle.pg_script.specs.Bytes.{cut_at_line_feeds, with_first_byte, lines_in, without_last, without_return}

-- the last item is dropped where it passes the test
pub without_last_more : {X : Type 0} (test : X → Bool) (xs : List X) (x : X) →
    without_last test (xs ++ x ∷ []) ≡ cond (test x) xs (xs ++ x ∷ [])
without_last_more test [] x = refl
without_last_more test (y ∷ []) x = at (test x)
  where
    at : (b : Bool) → y ∷ cond b [] (x ∷ []) ≡ cond b (y ∷ []) (y ∷ x ∷ [])
    at true = refl
    at false = refl
without_last_more {X = X} test (y ∷ z ∷ ys) x = rw (without_last_more test (z ∷ ys) x) (at (test x))
  where
    at : (b : Bool) → y ∷ cond b (z ∷ ys) (z ∷ (ys ++ x ∷ [])) ≡ cond b (y ∷ z ∷ ys) (y ∷ z ∷ (ys ++ x ∷ []))
    at true = refl
    at false = refl

-- what begins with an LF, or is nothing, is cut behind that LF
abbrev pub cut_behind : List ℕ → List (List ℕ)
cut_behind [] = []
cut_behind (b ∷ bytes) = cut_at_line_feeds bytes

-- the text before the first LF, and the pieces of what stands behind that LF
cut_first : (xs : List ℕ) →
    cut_at_line_feeds xs
    ≡ take (prefix_len (λ b. not (b == 10)) xs) xs ∷ cut_behind (drop (prefix_len (λ b. not (b == 10)) xs) xs)
cut_first [] = refl
cut_first (b ∷ xs) = at (b == 10) (cut_first xs)
  where
    at : (lf : Bool) →
        cut_at_line_feeds xs
        ≡ take (prefix_len (λ b. not (b == 10)) xs) xs ∷ cut_behind (drop (prefix_len (λ b. not (b == 10)) xs) xs) →
        cond lf ([] ∷ cut_at_line_feeds xs) (with_first_byte b (cut_at_line_feeds xs))
        ≡ take (cond (not lf) (1 + prefix_len (λ b. not (b == 10)) xs) 0) (b ∷ xs)
        ∷ cut_behind (drop (cond (not lf) (1 + prefix_len (λ b. not (b == 10)) xs) 0) (b ∷ xs))
    at true rest = refl
    at false rest =
        let one : 1 + prefix_len (λ b. not (b == 10)) xs ≡ suc (prefix_len (λ b. not (b == 10)) xs) = omega arith in
        rw (one, rest) refl

-- the lines of what begins with an LF, or is nothing
abbrev pub lines_of_rest : List ℕ → List (List ℕ)
lines_of_rest [] = []
lines_of_rest (b ∷ bytes) = lines_in bytes

rest_lines : (rest : List ℕ) → map without_return (cut_behind rest) ≡ lines_of_rest rest
rest_lines [] = refl
rest_lines (b ∷ bytes) = refl

-- the line before the first LF, and the lines of what stands behind that LF
pub lines_in_first : (text : List ℕ) (n : ℕ) → n ≡ prefix_len (λ b. not (b == 10)) text →
    lines_in text ≡ without_return (take n text) ∷ lines_of_rest (drop n text)
lines_in_first text n is =
    rw (is, cut_first text) (ap (λ lines. without_return (take (prefix_len (λ b. not (b == 10)) text) text) ∷ lines) (rest_lines (drop (prefix_len (λ b. not (b == 10)) text) text)))
