-- [FROM from] of UPDATE and [USING from] of DELETE
use Rattle.std.proofs.Common.{◌≡◌, ◌∷◌, List, [], refl, sym, subst}
use Rattle.pg_parse_stmt.proofs.Common.{Misses, Seen, read, Reads, Token, behind_from, word, or_else, from, Source, Joined, rank, behind}
use Rattle.pg_lexer.specs.declared.keyword.Keyword.TheVariants as k
use Rattle.pg_lexer.specs.declared.token.Token.TheVariants as t
use Rattle.pg_parse_stmt.proofs.Steps.{or_none, or_narrow}
use Rattle.pg_parse_stmt.proofs.Agreements.{deeper}
use Rattle.pg_parse_stmt.proofs.Follows.{from_follows}

pub from_list : (xs ys : List Token) (o : Seen Token (List (Joined Source))) → xs ≡ t.Keyword k.From ∷ ys →
    Reads from behind_from ys o →
    Reads (or_else [] (word k.From from)) (behind 12) xs o
unfolding rank
from_list xs ys o e r =
    or_narrow [] (t.Keyword k.From) from behind_from (behind 12) xs ys o refl
    (λ q b. from_follows q (deeper 11 12 refl q b)) e r

none_of_from : (xs : List Token) → Misses (t.Keyword k.From) xs →
    Reads (or_else [] (word k.From from)) (behind 12) xs (read [] xs)
none_of_from xs miss = or_none [] (t.Keyword k.From) from (behind 12) xs miss

pub from_list_none : (xs : List Token) (v : List (Joined Source)) → v ≡ [] → Misses (t.Keyword k.From) xs →
    Reads (or_else [] (word k.From from)) (behind 12) xs (read v xs)
from_list_none xs v e miss =
    subst (λ x. Reads (or_else [] (word k.From from)) (behind 12) xs (read x xs)) (sym e) (none_of_from xs miss)

pub using_list : (xs ys : List Token) (o : Seen Token (List (Joined Source))) → xs ≡ t.Keyword k.Using ∷ ys →
    Reads from behind_from ys o →
    Reads (or_else [] (word k.Using from)) (behind 12) xs o
unfolding rank
using_list xs ys o e r =
    or_narrow [] (t.Keyword k.Using) from behind_from (behind 12) xs ys o refl
    (λ q b. from_follows q (deeper 11 12 refl q b)) e r

none_of_using : (xs : List Token) → Misses (t.Keyword k.Using) xs →
    Reads (or_else [] (word k.Using from)) (behind 12) xs (read [] xs)
none_of_using xs miss = or_none [] (t.Keyword k.Using) from (behind 12) xs miss

pub using_list_none : (xs : List Token) (v : List (Joined Source)) → v ≡ [] → Misses (t.Keyword k.Using) xs →
    Reads (or_else [] (word k.Using from)) (behind 12) xs (read v xs)
using_list_none xs v e miss =
    subst (λ x. Reads (or_else [] (word k.Using from)) (behind 12) xs (read x xs)) (sym e) (none_of_using xs miss)
