-- Tokens and their spans, beside one another.
use Rattle.std.proofs.Common.{◌≡◌, List, [], ◌∷◌, ◌++◌, length, map, refl, sym, ap, arith}
use Rattle.pg_lexer.specs.declared.token.Span.{Span}
use Rattle.pg_lexer.specs.declared.token.Spanned.{Spanned}
use Rattle.pg_lexer.specs.declared.token.Token.{Token}
use Rattle.pg_lexer.specs.Spans.{span_of, tokens_with_spans}

pub tokens_of : (ts : List Token) (ss : List Span) → length ts ≡ length ss → ts ≡ map (λ s. s.token) (tokens_with_spans ts ss)
tokens_of [] ss e = refl
tokens_of (t ∷ ts) [] e = absurd (omega (arith, e))
tokens_of (t ∷ ts) (s ∷ ss) e = ap (λ xs. t ∷ xs) (tokens_of ts ss (omega (arith, e)))

pub spans_of : (ts : List Token) (ss : List Span) → length ts ≡ length ss → ss ≡ map span_of (tokens_with_spans ts ss)
spans_of [] [] e = refl
spans_of [] (s ∷ ss) e = absurd (omega (arith, e))
spans_of (t ∷ ts) [] e = absurd (omega (arith, e))
spans_of (t ∷ ts) (s ∷ ss) e = ap (λ xs. s ∷ xs) (spans_of ts ss (omega (arith, e)))

pub one_more : (ts : List Token) (ss : List Span) (t : Token) (s : Span) (x : Spanned) → length ts ≡ length ss →
    x ≡ record { token = t; start = s.start; end = s.end } → tokens_with_spans (ts ++ t ∷ []) (ss ++ s ∷ []) ≡ tokens_with_spans ts ss ++ x ∷ []
one_more [] [] t s x e h = ap (λ y. y ∷ []) (sym h)
one_more [] (u ∷ ss) t s x e h = absurd (omega (arith, e))
one_more (u ∷ ts) [] t s x e h = absurd (omega (arith, e))
one_more (u ∷ ts) (v ∷ ss) t s x e h = ap (λ xs. record { token = u; start = v.start; end = v.end } ∷ xs) (one_more ts ss t s x (omega (arith, e)) h)
