-- The answer for the tokens of a line from one of them on, with places.
use Rattle.std.specs.Prelude.{◌≡◌, ℕ, ◌-◌, ◌≤◌, List, [], ◌∷◌, length, drop, map, Result, Ok, Err}
use Rattle.pg_grammar.specs.declared.fault.Fault.{Fault}
use Rattle.pg_grammar.specs.declared.fault.Fault.TheVariants as fault
use Rattle.pg_grammar.specs.Answers.{read, failed, Reads}
use Rattle.pg_lexer.specs.declared.token.Span.{Span}
use Rattle.pg_lexer.specs.declared.token.Spanned.{Spanned}
use Rattle.pg_lexer.specs.declared.token.Token.{Token}
use Rattle.pg_lexer.specs.Spans.{span_of}
use Rattle.pg_parse_expr.specs.declared.whole.ParseFault.{ParseFault}
use Rattle.pg_parse_expr.specs.declared.whole.ParseFault.TheVariants.{Syntax, Depth, Items, Memory}
use Rattle.pg_parse_expr.specs.Behind.{behind_expr}
use Rattle.pg_parse_expr.specs.Grammar.{expr}
use Rattle.pg_parse_expr.specs.Tree.{Tree}

abbrev pub start_or : ℕ → List Span → ℕ
start_or end [] = end
start_or end (span ∷ _) = span.start

-- where the last n tokens begin; where no token is left, one past the line
abbrev pub place_of : List Span → ℕ → ℕ → ℕ
place_of spans end n = start_or end (drop (length spans - n) spans)

abbrev pub placed : List Span → ℕ → Fault → ParseFault
placed spans end (fault.Syntax n) = Syntax (place_of spans end n)
placed spans end (fault.Deep n) = Depth (place_of spans end n)
placed spans end (fault.Many n) = Items (place_of spans end n)
placed spans end fault.Memory = Memory

-- the tokens without their spans
abbrev pub plain : List Spanned → List Token
plain tokens = map (λ s. s.token) tokens

-- the expression that begins at the token `from` ends before the token `behind`, or a fault stands at its place
abbrev pub IsParsed : List Spanned → ℕ → ℕ → Result (Tree × ℕ) ParseFault → Type 0
IsParsed tokens from end (Ok p) =
    (from ≤ p.1) × (p.1 ≤ length tokens) × Reads expr behind_expr (drop from (plain tokens))
    (read p.0 (drop p.1 (plain tokens)))
IsParsed tokens from end (Err e) =
    (f : Fault) × Reads expr behind_expr (drop from (plain tokens)) (failed f) × (e ≡ placed (map span_of tokens) end f)
