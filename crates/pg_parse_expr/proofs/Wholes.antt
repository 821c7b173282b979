-- From the reading of tokens to places in the line.
use Rattle.std.proofs.Common.{◌≡◌, ◌++◌, ◌+◌, ◌-◌, ◌≤◌, ℕ, List, length, drop, map, sym, ap, ◌∙◌, subst, arith, length-append, length-drop}
use Rattle.std.specs.Prelude.{Ok, Err}
use Rattle.std.proofs.Math.Seq.{drop-append_seam}
use Rattle.std.proofs.lemmas.List.{drop-drop}
use Rattle.pg_grammar.specs.declared.fault.Fault.{Fault}
use Rattle.pg_grammar.specs.Answers.{read, failed, IsRead, Reads}
use Rattle.pg_lexer.specs.declared.token.Span.{Span}
use Rattle.pg_lexer.specs.declared.token.Spanned.{Spanned}
use Rattle.pg_lexer.specs.declared.token.Token.{Token}
use Rattle.pg_lexer.specs.Spans.{span_of}
use Rattle.pg_parse_expr.specs.declared.whole.ParseFault.{ParseFault}
use Rattle.pg_parse_expr.specs.Behind.{behind_expr}
use Rattle.pg_parse_expr.specs.Grammar.{expr, expr_at}
use Rattle.pg_parse_expr.specs.Places.{placed, plain, IsParsed}
use Rattle.pg_parse_expr.specs.Tree.{Tree}

-- what is left is the end of all tokens
left_is : (all front rest : List Token) (from : ℕ) → from ≤ length all → drop from all ≡ front ++ rest →
    drop (length all - length rest) all ≡ rest
left_is all front rest from fits e =
    let l = ap length e ∙ length-append front rest in
    let d = length-drop from all in
    let at : length all - length rest ≡ from + length front = omega (arith, l, d, fits) in
    rw at (sym (drop-drop (length front) from all) ∙ (ap (λ xs. drop
    (length front) xs) e ∙ drop-append_seam front rest))

pub parsed_ok : (tokens : List Spanned) (from end behind : ℕ) (tree : Tree) (all rest : List Token) →
    all ≡ plain tokens → length all ≡ length tokens → from ≤ length all →
    Reads (expr_at 0) behind_expr (drop from all) (read tree rest) → behind ≡ length all - length rest →
    IsParsed tokens from end (Ok (tree, behind))
unfolding expr
parsed_ok tokens from end behind tree all rest e n fits r b =
    let f : IsRead (expr_at 0) behind_expr (drop from all) tree rest = r.is in
    let l = ap length f.split ∙ length-append f.front rest in
    let d = length-drop from all in
    let same : drop behind all ≡ rest = ap (λ k. drop k all) b ∙ left_is all f.front rest from fits f.split in (
      omega (arith, l, d, b, n, fits),
      omega (arith, l, d, b, n, fits),
      subst (λ xs. Reads (expr_at 0) behind_expr (drop from xs) (read tree (drop behind xs))) e
          (subst (λ z. Reads (expr_at 0) behind_expr (drop from all) (read tree z)) (sym same) r),
    )

pub parsed_err : (tokens : List Spanned) (from end : ℕ) (all : List Token) (spans : List Span) (f : Fault)
    (e : ParseFault) → all ≡ plain tokens → spans ≡ map span_of tokens →
    Reads (expr_at 0) behind_expr (drop from all) (failed f) → e ≡ placed spans end f → IsParsed tokens from end (Err e)
unfolding expr
parsed_err tokens from end all spans f e h s r p =
    (f, subst (λ xs. Reads (expr_at 0) behind_expr (drop from xs) (failed f)) h r, p ∙ ap (λ ss. placed ss end f) s)
