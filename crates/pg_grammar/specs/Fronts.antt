-- What stands first, as the small functions of a parser answer it.
use Rattle.std.specs.Prelude.{Bool, List, [], ◌∷◌, Option, Some, None, if◌then◌else◌}

-- what was taken, if something was, with the tokens behind it
abbrev pub with_rest : {T X : Type 0} → List T → Option X → Option (X × List T)
with_rest z None = None
with_rest z (Some x) = Some (x, z)

-- the value that f gives the first token, and the tokens behind it
abbrev pub first_of : {T X : Type 0} → (T → Option X) → List T → Option (X × List T)
first_of f [] = None
first_of f (t ∷ z) = with_rest z (f t)

-- the tokens behind the first one, if it passes the test
abbrev pub after : {T : Type 0} → (T → Bool) → List T → Option (List T)
after p [] = None
after p (t ∷ z) = if p t then Some z else None
