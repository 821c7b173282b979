-- What stands first, where the choice of a rule wants more than one token.
use Rattle.std.specs.Prelude.{◌≡◌, ℕ, List, ◌∷◌, Some}
use Rattle.pg_grammar.specs.Answers.{Lacks, Misses}
use Rattle.pg_lexer.specs.declared.sign.Sign.TheVariants.{Dot, Star}
use Rattle.pg_lexer.specs.declared.token.Token.{Token}
use Rattle.pg_lexer.specs.declared.token.Token.TheVariants.{Sign}
use Rattle.pg_parse_expr.specs.Operators.{name_of}

-- a name and a dot stand first, and rest is behind them
pub record Dotted (tokens rest : List Token) : Type 0 where
  pub head : Token
  pub name : List ℕ
  pub is : tokens ≡ head ∷ Sign Dot ∷ rest
  pub named : name_of head ≡ Some name

-- no name stands first, or no dot behind it
pub data NotDotted (tokens : List Token) : Type 0 where
  no_name : Lacks name_of tokens → NotDotted tokens
  no_dot : (head : Token) (name : List ℕ) (rest : List Token) → tokens ≡ head ∷ rest → name_of head ≡ Some name →
      Misses (Sign Dot) rest → NotDotted tokens

-- a name, a dot and a star stand first, and rest is behind them
pub record BeginsAllOf (tokens rest : List Token) : Type 0 where
  pub head : Token
  pub name : List ℕ
  pub is : tokens ≡ head ∷ Sign Dot ∷ Sign Star ∷ rest
  pub named : name_of head ≡ Some name
