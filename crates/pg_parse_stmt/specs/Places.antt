-- The answer for the tokens of a line, with places.
use Rattle.std.specs.Prelude.{◌≡◌, ℕ, List, map, Result, Ok, Err}
use Rattle.pg_grammar.specs.declared.fault.Fault.{Fault}
use Rattle.pg_grammar.specs.Answers.{ReadsWhole}
use Rattle.pg_lexer.specs.declared.token.Spanned.{Spanned}
use Rattle.pg_lexer.specs.Spans.{span_of}
use Rattle.pg_parse_expr.specs.declared.whole.ParseFault.{ParseFault}
use Rattle.pg_parse_expr.specs.Places.{placed, plain}
use Rattle.pg_parse_stmt.specs.Grammar.{sentence}
use Rattle.pg_parse_stmt.specs.declared.tree.StmtTree.{StmtTree}

-- all of the tokens are a statement, and it is the only one; or a fault stands at its place
abbrev pub IsParsed : ℕ → List Spanned → ℕ → Result StmtTree ParseFault → Type 0
IsParsed version tokens end (Ok tree) = ReadsWhole (sentence version) (plain tokens) (Ok tree)
IsParsed version tokens end (Err e) =
    (f : Fault) × ReadsWhole (sentence version) (plain tokens) (Err f) × (e ≡ placed (map span_of tokens) end f)
