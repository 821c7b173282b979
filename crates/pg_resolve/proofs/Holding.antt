-- Tests that hold, and lists that are empty.
use Rattle.std.proofs.Common.{◌≡◌, refl, sym, Bool, true, false, true≢false, ◌&&◌, if◌then◌else◌, List, [], ◌∷◌, ◌++◌, Some, None, Ok, Err}
use Rattle.pg_model.specs.declared.error.SqlError.{SqlError}
use Rattle.pg_resolve.specs.Causes.{unless_error}

pub cons_nil : {X : Type 0} {x : X} {xs : List X} → x ∷ xs ≡ [] → ⊥
cons_nil e = absurd (cc)

pub none_some : {X : Type 0} {x : X} → None ≡ Some x → ⊥
none_some e = absurd (cc)

pub err_ok : {V E : Type 0} {x : E} {v : V} → Err x ≡ Ok v → ⊥
err_ok e = absurd (cc)

pub some_same : {X : Type 0} (a b : X) → Some a ≡ Some b → a ≡ b
some_same a b e = cc

pub left_nil : {X : Type 0} (xs ys : List X) → xs ++ ys ≡ [] → xs ≡ []
left_nil [] ys e = refl
left_nil (x ∷ xs) ys e = absurd (cons_nil e)

pub right_nil : {X : Type 0} (xs ys : List X) → xs ++ ys ≡ [] → ys ≡ []
right_nil [] ys e = e
right_nil (x ∷ xs) ys e = absurd (cons_nil e)

pub then_nil : {X : Type 0} (b : Bool) (x : X) → (if b then x ∷ [] else []) ≡ [] → b ≡ false
then_nil true x e = absurd (cons_nil e)
then_nil false x e = refl

pub else_nil : {X : Type 0} (b : Bool) (x : X) → (if b then [] else x ∷ []) ≡ [] → b ≡ true
else_nil true x e = refl
else_nil false x e = absurd (cons_nil e)

pub both : (a b : Bool) → a ≡ true → b ≡ true → (a && b) ≡ true
both true b p q = q
both false b p q = p

pub three : (a b c : Bool) → a ≡ true → b ≡ true → c ≡ true → (a && b && c) ≡ true
three true b c p q r = both b c q r
three false b c p q r = p

pub six : (a b c d e f : Bool) → a ≡ true → b ≡ true → c ≡ true → d ≡ true → e ≡ true → f ≡ true →
    (a && b && c && d && e && f) ≡ true
six a b c d e f p q r s t u =
    both (a && b && c && d && e) f (both (a && b && c && d) e (both (a && b && c) d (three a b c p q r) s) t) u

pub left_holds : (a b : Bool) → (a && b) ≡ true → a ≡ true
left_holds true b e = refl
left_holds false b e = e

pub right_holds : (a b : Bool) → (a && b) ≡ true → b ≡ true
right_holds true b e = e
right_holds false b e = absurd (true≢false (sym e))

-- the three tests of `a && b && c`
pub first_holds : (a b c : Bool) → (a && b && c) ≡ true → a ≡ true
first_holds a b c e = left_holds a b (left_holds (a && b) c e)

pub second_holds : (a b c : Bool) → (a && b && c) ≡ true → b ≡ true
second_holds a b c e = right_holds a b (left_holds (a && b) c e)

pub third_holds : (a b c : Bool) → (a && b && c) ≡ true → c ≡ true
third_holds a b c e = right_holds (a && b) c e

-- a value comes where there is no error
pub no_error : {V : Type 0} (errors : List SqlError) (v w : V) → unless_error errors v ≡ Ok w → errors ≡ []
no_error [] v w e = refl
no_error (x ∷ xs) v w e = absurd (err_ok e)

pub the_value : {V : Type 0} (errors : List SqlError) (v w : V) → unless_error errors v ≡ Ok w → v ≡ w
the_value [] v w e = cc
the_value (x ∷ xs) v w e = absurd (err_ok e)
