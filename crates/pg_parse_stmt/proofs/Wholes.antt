-- From the reading of tokens to places in the line.
use Rattle.std.proofs.Common.{◌≡◌, ℕ, List, map, Ok, Err, ap, ◌∙◌, subst}
use Rattle.pg_parse_stmt.proofs.Common.{Fault, ReadsWhole, Token, sentence, StmtTree}
use Rattle.pg_lexer.specs.declared.token.Span.{Span}
use Rattle.pg_lexer.specs.declared.token.Spanned.{Spanned}
use Rattle.pg_lexer.specs.Spans.{span_of}
use Rattle.pg_parse_expr.specs.declared.whole.ParseFault.{ParseFault}
use Rattle.pg_parse_expr.specs.Places.{placed, plain}
use Rattle.pg_parse_stmt.specs.Places.{IsParsed}

pub parsed_ok : (version end : ℕ) (tokens : List Spanned) (all : List Token) (tree : StmtTree) → all ≡ plain tokens →
    ReadsWhole (sentence version) all (Ok tree) → IsParsed version tokens end (Ok tree)
parsed_ok version end tokens all tree e r = subst (λ xs. ReadsWhole (sentence version) xs (Ok tree)) e r

pub parsed_err : (version end : ℕ) (tokens : List Spanned) (all : List Token) (spans : List Span) (f : Fault)
    (fault : ParseFault) →
    all ≡ plain tokens → spans ≡ map span_of tokens → ReadsWhole (sentence version) all (Err f) →
    fault ≡ placed spans end f →
    IsParsed version tokens end (Err fault)
parsed_err version end tokens all spans f fault e h r p =
    (f, subst (λ xs. ReadsWhole (sentence version) xs (Err f)) e r, p ∙ ap (λ ss. placed ss end f) h)
