-- The signs: operators and punctuation.
use Rattle.std.specs.Prelude.{ℕ, List, [], ◌∷◌, Option, codes}
use Rattle.std.specs.Str.{bytes_eq}
use Rattle.std.specs.Map.{lookup}
use Rattle.pg_lexer.specs.declared.sign.Sign.{Sign}
use Rattle.pg_lexer.specs.declared.sign.Sign.TheVariants as s

-- each sign with its spelling; two spellings mean "not equal"
unfoldable pub signs : List (List ℕ × Sign)
signs =
    (codes "(", s.Open) ∷ (codes ")", s.Close) ∷ (codes ",", s.Comma) ∷ (codes ".", s.Dot) ∷ (codes ";", s.Semicolon) ∷
    (codes "*", s.Star) ∷ (codes "/", s.Slash) ∷ (codes "%", s.Percent) ∷ (codes "+", s.Plus) ∷ (codes "-", s.Minus) ∷
    (codes "||", s.Concat) ∷ (codes "=", s.Equal) ∷ (codes "<>", s.NotEqual) ∷ (codes "!=", s.NotEqual) ∷
    (codes "<", s.Less) ∷ (codes "<=", s.LessOrEqual) ∷ (codes ">", s.Greater) ∷ (codes ">=", s.GreaterOrEqual) ∷ []

-- the sign that is spelled so, if one is
unfoldable pub sign_of : List ℕ → Option Sign
sign_of bytes = lookup (bytes_eq bytes) signs
