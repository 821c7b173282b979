-- Runs of a function: `next` gives the entry that a state takes, or None where it takes none; `after` is the
-- state that an entry leads to.
use Rattle.std.specs.Prelude.{◌≡◌, ℕ, zero, suc, List, [], ◌∷◌, Option, Some, None, if◌then◌else◌}
use Rattle.pg_ending.specs.Weight.{IsLess, is_less}

-- each entry that a state takes makes its weight less
abbrev pub Falls : {S E : Type 0} → (S → Option E) → (S → E → S) → (S → List ℕ) → Type 0
Falls {S} {E} next after weight = (w : S) (e : E) → next w ≡ Some e → IsLess (weight (after w e)) (weight w)

-- n entries are taken from w, and then there is none
abbrev pub Takes : {S E : Type 0} → (S → Option E) → (S → E → S) → ℕ → S → Type 0
Takes next after zero w = next w ≡ None
Takes {S} {E} next after (suc n) w = (e : E) × (next w ≡ Some e) × Takes next after n (after w e)

-- es is the list of the entries that are taken from w: each is the next one of the state before it, and none is
-- left at the end
abbrev pub IsRunOf : {S E : Type 0} → (S → Option E) → (S → E → S) → S → List E → Type 0
IsRunOf next after w [] = next w ≡ None
IsRunOf next after w (e ∷ es) = (next w ≡ Some e) × IsRunOf next after (after w e) es

-- es is a front of that list, and v is the state that it leads to
abbrev pub RunsTo : {S E : Type 0} → (S → Option E) → (S → E → S) → S → List E → S → Type 0
RunsTo next after w [] v = v ≡ w
RunsTo next after w (e ∷ es) v = (next w ≡ Some e) × RunsTo next after (after w e) es v

-- the entry, if it makes the weight less
abbrev pub if_lighter : {S E : Type 0} → (S → E → S) → (S → List ℕ) → S → Option E → Option E
if_lighter after weight w None = None
if_lighter after weight w (Some e) = if is_less (weight (after w e)) (weight w) then Some e else None

-- `next`, cut off where the weight would not fall: so each run of it ends, whatever `next` is
abbrev pub lighter : {S E : Type 0} → (S → Option E) → (S → E → S) → (S → List ℕ) → S → Option E
lighter next after weight w = if_lighter after weight w (next w)
