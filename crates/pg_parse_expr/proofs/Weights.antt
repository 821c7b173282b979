-- What each call of the parser weighs: less than its caller.
use Rattle.std.proofs.Common.{◌≡◌, ◌∷◌, ◌+◌, ◌-◌, ◌*◌, ◌≤◌, ℕ, List, [], refl, arith}
use Rattle.pg_grammar.specs.Answers.{Misses}
use Rattle.pg_lexer.specs.declared.sign.Sign.TheVariants as sign
use Rattle.pg_lexer.specs.declared.token.Token.{Token}
use Rattle.pg_lexer.specs.declared.token.Token.TheVariants.{Sign}
use Rattle.pg_parse_expr.specs.declared.level.Level.{Level}
use Rattle.pg_parse_expr.specs.declared.level.Level.TheVariants.{Or, And, Concat, Sum, Product}

-- below d nodes
abbrev pub weight : ℕ → ℕ → ℕ
weight d rank = 100 * (64 - d) + rank

abbrev pub rank : Level → ℕ
rank Or = 17
rank And = 15
rank Concat = 9
rank Sum = 7
rank Product = 5

-- brackets that open lead back to the loosest level once
unfoldable pub opening : List Token → ℕ
opening (Sign sign.Open ∷ _) = 40
opening _ = 0

pub rank_small : (level : Level) → rank level ≤ 17
rank_small Or = omega arith
rank_small And = omega arith
rank_small Concat = omega arith
rank_small Sum = omega arith
rank_small Product = omega arith

pub opening_small : (xs : List Token) → opening xs ≤ 40
unfolding opening
opening_small (Sign sign.Open ∷ _) = omega arith
opening_small _ = omega arith

pub opening_some : (xs ys : List Token) → xs ≡ Sign sign.Open ∷ ys → opening xs ≡ 40
unfolding opening
opening_some xs ys e = rw e

pub opening_none : (xs : List Token) → Misses (Sign sign.Open) xs → opening xs ≡ 0
unfolding opening
opening_none [] m = refl
opening_none (Sign sign.Open ∷ _) m = absurd (m.misses refl)
opening_none (_ ∷ _) m = refl

-- one token weighs little
pub ruleset weights = (rank_small, opening_small)

-- brackets that open weigh little
pub ruleset openings = (opening_small, opening_some, opening_none)
