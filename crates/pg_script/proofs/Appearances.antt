-- Names in order of first appearance, and one name more behind them.
use Rattle.std.proofs.Common.{◌≡◌, append-nil, arith, refl, sym, ◌∙◌, ap, ℕ, suc, Bool, true, false, true≢false, not, ◌||◌, ◌+◌, cond, nat_lt, List, [], ◌∷◌, ◌++◌, length, Option, Some, None}
use Rattle.std.specs.Prelude.{filter}
use Rattle.std.proofs.lemmas.Bool.Decides.{not_from_Decides}
use Rattle.std.proofs.lemmas.Slice.Eq.{bytes_eq-Decides}
use Rattle.std.specs.Bool.{Decides}
use Rattle.std.specs.List.{position_or_len}
use Rattle.std.specs.Option.{option_map}
use Rattle.std.proofs.lemmas.Grind.{common_steps}
use Rattle.std.specs.Str.{bytes_eq}
use Rattle.pg_names.specs.Names.{is_among, number_of}
use Rattle.pg_script.specs.Appearances.{first_appearances}
use Rattle.pg_script.specs.Drafts.{with_name}

same_by : (x y : List ℕ) (a b : Bool) → Decides a (x ≡ y) → Decides b (y ≡ x) → a ≡ b
same_by x y false false one other = refl
same_by x y true true one other = refl
same_by x y true false one other = absurd (not_from_Decides false other refl (sym (one.0 refl)))
same_by x y false true one other = absurd (not_from_Decides false one refl (sym (other.0 refl)))

-- names are compared either way round
pub turned : (x y : List ℕ) → bytes_eq x y ≡ bytes_eq y x
turned x y = same_by x y (bytes_eq x y) (bytes_eq y x) (bytes_eq-Decides x y) (bytes_eq-Decides y x)

-- equal names are the same
pub equal : (x y : List ℕ) → bytes_eq x y ≡ true → x ≡ y
equal x y is = (bytes_eq-Decides x y).0 is

-- one name more behind those that pass a test
filter_more : (p : List ℕ → Bool) (xs : List (List ℕ)) (x : List ℕ) →
    filter p (xs ++ x ∷ []) ≡ filter p xs ++ cond (p x) (x ∷ []) []
filter_more p [] x = at (p x)
  where
    at : (b : Bool) → cond b (x ∷ []) [] ≡ cond b (x ∷ []) []
    at true = refl
    at false = refl
filter_more p (y ∷ ys) x = at (p y) (filter_more p ys x)
  where
    at : (b : Bool) → filter p (ys ++ x ∷ []) ≡ filter p ys ++ cond (p x) (x ∷ []) [] →
        cond b (y ∷ filter p (ys ++ x ∷ [])) (filter p (ys ++ x ∷ [])) ≡ cond b (y ∷ filter p ys) (filter p ys) ++ cond (p x) (x ∷ []) []
    at true rest = ap (λ zs. y ∷ zs) rest
    at false rest = rest

-- another name stands among those that are not that one as it stands among all
others_have : (x name : List ℕ) (ys : List (List ℕ)) → bytes_eq name x ≡ false →
    is_among (filter (λ other. not (bytes_eq x other)) ys) name ≡ is_among ys name
others_have x name [] differ = refl
others_have x name (y ∷ ys) differ = at (bytes_eq x y) refl (others_have x name ys differ)
  where
    at : (b : Bool) → bytes_eq x y ≡ b → is_among (filter (λ other. not (bytes_eq x other)) ys) name ≡ is_among ys name →
        is_among (cond (not b) (y ∷ filter (λ other. not (bytes_eq x other)) ys) (filter (λ other. not (bytes_eq x other)) ys)) name
        ≡ (bytes_eq name y || is_among ys name)
    at false is rest = ap (λ r. bytes_eq name y || r) rest
    at true is rest =
        let same : x ≡ y = equal x y is in
        let other : bytes_eq name y ≡ false = ap (λ z. bytes_eq name z) (sym same) ∙ differ in
        rest ∙ ap (λ b. b || is_among ys name) (sym other)

-- one name more behind others, those that are not another taken
others_more : (x name : List ℕ) (ys : List (List ℕ)) (here : Bool) (among : Bool) → bytes_eq name x ≡ here →
    x ∷ filter (λ other. not (bytes_eq x other)) (cond among ys (ys ++ name ∷ []))
    ≡ cond (here || among) (x ∷ filter (λ other. not (bytes_eq x other)) ys)
    (x ∷ filter (λ other. not (bytes_eq x other)) ys ++ name ∷ [])
others_more x name ys true true is = refl
others_more x name ys false true is = refl
others_more x name ys true false is =
    let dropped : bytes_eq x name ≡ true = turned x name ∙ is in
    ap (λ zs. x ∷ zs) (filter_more (λ other. not (bytes_eq x other)) ys name ∙ rw dropped (append-nil _))
others_more x name ys false false is =
    let kept : bytes_eq x name ≡ false = turned x name ∙ is in
    ap (λ zs. x ∷ zs) (filter_more (λ other. not (bytes_eq x other)) ys name ∙ rw kept refl)

pub appearances_more : (names : List (List ℕ)) (name : List ℕ) →
    first_appearances (names ++ name ∷ []) ≡ with_name (first_appearances names) name
appearances_more [] name = refl
appearances_more (x ∷ xs) name =
    ap (λ zs. x ∷ filter (λ other. not (bytes_eq x other)) zs) (appearances_more xs name)
    ∙ others_more x name (first_appearances xs) (bytes_eq name x) (is_among (first_appearances xs) name) refl
    ∙ at (bytes_eq name x) refl
  where
    at : (b : Bool) → bytes_eq name x ≡ b →
        cond (b || is_among (first_appearances xs) name) (first_appearances (x ∷ xs)) (first_appearances (x ∷ xs) ++ name ∷ [])
        ≡ cond (b || is_among (filter (λ other. not (bytes_eq x other)) (first_appearances xs)) name)
        (first_appearances (x ∷ xs)) (first_appearances (x ∷ xs) ++ name ∷ [])
    at true is = refl
    at false is =
        ap (λ b. cond b (first_appearances (x ∷ xs)) (first_appearances (x ∷ xs) ++ name ∷ []))
        (sym (others_have x name (first_appearances xs) is))

-- the number of a name among others: the first is it, or it is one more than behind the first
pub number_step : (x : List ℕ) (xs : List (List ℕ)) (name : List ℕ) →
    number_of (x ∷ xs) name ≡ cond (bytes_eq name x) (Some 0) (option_map suc (number_of xs name))
number_step x xs name = at (bytes_eq name x) (position_or_len (bytes_eq name) xs)
  where
    more : (k : ℕ) (b : Bool) → cond b (Some (1 + k)) None ≡ option_map suc (cond b (Some k) None)
    more k true = let one : 1 + k ≡ suc k = omega arith in ap Some one
    more k false = refl

    at : (b : Bool) (k : ℕ) →
        cond (nat_lt (cond (not b) (1 + k) 0) (suc (length xs))) (Some (cond (not b) (1 + k) 0)) None
        ≡ cond b (Some 0) (option_map suc (cond (nat_lt k (length xs)) (Some k) None))
    at true k =
        let first : nat_lt 0 (suc (length xs)) ≡ true = grind (arith, common_steps) in
        ap (λ b. cond b (Some 0) None) first
    at false k =
        let same : nat_lt (1 + k) (suc (length xs)) ≡ nat_lt k (length xs) = grind (arith, common_steps) in
        ap (λ b. cond b (Some (1 + k)) None) same ∙ more k (nat_lt k (length xs))

-- a name keeps its number when others stand behind
pub number_grows : (names more : List (List ℕ)) (name : List ℕ) (number : ℕ) → number_of names name ≡ Some number →
    number_of (names ++ more) name ≡ Some number
number_grows [] more name number is = absurd (cc)
number_grows (x ∷ xs) more name number is =
    number_step x (xs ++ more) name
    ∙ at (bytes_eq name x) (number_of xs name) refl (sym (number_step x xs name) ∙ is) (λ n e. number_grows xs more name n e)
  where
    at : (b : Bool) (before : Option ℕ) → number_of xs name ≡ before →
        cond b (Some 0) (option_map suc before) ≡ Some number →
        ((n : ℕ) → number_of xs name ≡ Some n → number_of (xs ++ more) name ≡ Some n) →
        cond b (Some 0) (option_map suc (number_of (xs ++ more) name)) ≡ Some number
    at true before is e grows = e
    at false None is e grows = absurd (cc)
    at false (Some n) is e grows = ap (option_map suc) (grows n is) ∙ e

-- a new name has the next number
pub number_new : (names : List (List ℕ)) (name : List ℕ) → is_among names name ≡ false →
    number_of (names ++ name ∷ []) name ≡ Some (length names)
number_new [] name absent =
    let same : bytes_eq name name ≡ true = (bytes_eq-Decides name name).1 refl in
    number_step name [] name ∙ rw same refl
number_new (x ∷ xs) name absent = number_step x (xs ++ name ∷ []) name ∙ at (bytes_eq name x) absent (number_new xs name)
  where
    at : (b : Bool) → (b || is_among xs name) ≡ false →
        (is_among xs name ≡ false → number_of (xs ++ name ∷ []) name ≡ Some (length xs)) →
        cond b (Some 0) (option_map suc (number_of (xs ++ name ∷ []) name)) ≡ Some (suc (length xs))
    at true e rest = absurd (true≢false e)
    at false e rest = ap (option_map suc) (rest e)
