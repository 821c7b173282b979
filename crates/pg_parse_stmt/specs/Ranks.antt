-- How loosely a token binds what stands before it, and so what may stand behind each part of a statement.
use Rattle.std.specs.Prelude.{ℕ, suc, Bool, Option, Some}
use Rattle.std.proofs.Math.Dec.{leb}
use Rattle.pg_lexer.specs.declared.keyword.Keyword.TheVariants as k
use Rattle.pg_lexer.specs.declared.sign.Sign.TheVariants as s
use Rattle.pg_lexer.specs.declared.token.Token.{Token}
use Rattle.pg_lexer.specs.declared.token.Token.TheVariants as t

-- 0 for what goes on with a name, 1 to 8 for the levels of operators, then what goes on with a part of a statement, and
-- 19 for all else. The first word of what may be left out is of a lower rank than all that may stand behind it
unfoldable pub rank : Option Token → ℕ
rank (Some (t.Sign s.Dot)) = 0
rank (Some (t.Sign s.Open)) = 0
rank (Some (t.Sign s.Star)) = 1
rank (Some (t.Sign s.Slash)) = 1
rank (Some (t.Sign s.Percent)) = 1
rank (Some (t.Sign s.Plus)) = 2
rank (Some (t.Sign s.Minus)) = 2
rank (Some (t.Sign s.Concat)) = 3
rank (Some (t.Sign s.Equal)) = 4
rank (Some (t.Sign s.NotEqual)) = 4
rank (Some (t.Sign s.Less)) = 4
rank (Some (t.Sign s.LessOrEqual)) = 4
rank (Some (t.Sign s.Greater)) = 4
rank (Some (t.Sign s.GreaterOrEqual)) = 4
rank (Some (t.Keyword k.Is)) = 5
rank (Some (t.Keyword k.And)) = 7
rank (Some (t.Keyword k.Or)) = 8
rank (Some (t.Keyword k.Asc)) = 9
rank (Some (t.Keyword k.Desc)) = 9
rank (Some (t.Keyword k.Not)) = 9
rank (Some (t.Keyword k.Default)) = 9
rank (Some (t.Keyword k.Constraint)) = 9
rank (Some (t.Keyword k.Primary)) = 9
rank (Some (t.Keyword k.Unique)) = 9
rank (Some (t.Keyword k.Check)) = 9
rank (Some (t.Name name)) = 10
rank (Some (t.Keyword k.As)) = 10
rank (Some (t.Keyword k.Nulls)) = 10
rank (Some (t.Sign s.Comma)) = 11
rank (Some (t.Keyword k.Inner)) = 11
rank (Some (t.Keyword k.Join)) = 11
rank (Some (t.Keyword k.From)) = 12
rank (Some (t.Keyword k.Set)) = 12
rank (Some (t.Keyword k.Using)) = 12
rank (Some (t.Keyword k.Where)) = 13
rank (Some (t.Keyword k.Order)) = 14
rank (Some (t.Keyword k.When)) = 14
rank (Some (t.Keyword k.Limit)) = 15
rank (Some (t.Keyword k.On)) = 15
rank (Some (t.Keyword k.For)) = 16
rank (Some (t.Keyword k.Returning)) = 16
rank (Some (t.Keyword k.Of)) = 17
rank (Some (t.Keyword k.Work)) = 17
rank (Some (t.Keyword k.Transaction)) = 17
rank (Some (t.Keyword k.Nowait)) = 18
rank (Some (t.Keyword k.Skip)) = 18
rank (Some (t.Keyword k.Isolation)) = 18
rank _ = 19

-- what may stand behind a part of a level
abbrev pub behind : ℕ → Option Token → Bool
behind level o = leb (suc level) (rank o)
