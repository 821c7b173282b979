-- Tokens and their spans, beside one another.
use Rattle.std.specs.Prelude.{List, [], ◌∷◌}
use Rattle.pg_lexer.specs.declared.token.Span.{Span}
use Rattle.pg_lexer.specs.declared.token.Spanned.{Spanned}
use Rattle.pg_lexer.specs.declared.token.Token.{Token}

-- where a token stands
abbrev pub span_of : Spanned → Span
span_of s = record { start = s.start; end = s.end }

-- each token with its span
abbrev pub tokens_with_spans : List Token → List Span → List Spanned
tokens_with_spans [] _ = []
tokens_with_spans (t ∷ ts) [] = []
tokens_with_spans (t ∷ ts) (s ∷ ss) = record { token = t; start = s.start; end = s.end } ∷ tokens_with_spans ts ss
