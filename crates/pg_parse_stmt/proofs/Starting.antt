-- What may be left out begins with its word, or with what may stand behind it.
use Rattle.std.proofs.Common.{◌≡◌, Bool, true, Option, Some, None}
use Rattle.pg_parse_stmt.proofs.Common.{Lang, token, gives, bind, Starts, starts_token, starts_either, starts_gives, Token, any, or_else, optional}
use Rattle.pg_parse_stmt.proofs.Agreements.{starts_first}

pub or_starts : {V : Type 0} (f g : Option Token → Bool) (x : V) (u : Token) (L : Lang Token V) → f (Some u) ≡ true →
    ((o : Option Token) → g o ≡ true → f o ≡ true) → Starts f (or_else x (token u L)) g
or_starts f g x u L h b = starts_either f g (token u L) (gives x) (starts_token f g u L h) (starts_gives f g x b)

pub optional_starts : {V : Type 0} (f g : Option Token → Bool) (u : Token) (L : Lang Token V) → f (Some u) ≡ true →
    ((o : Option Token) → g o ≡ true → f o ≡ true) → Starts f (optional (token u L)) g
optional_starts f g u L h b =
    starts_either f g (bind (token u L) (λ v. gives (Some v))) (gives None)
    (starts_first f g (token u L) (λ v. gives (Some v)) (starts_token f any u L h)) (starts_gives f g None b)
