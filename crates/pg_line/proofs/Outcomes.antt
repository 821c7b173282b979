-- A line has at most one form.
use Rattle.std.proofs.Common.{inl, inr, ℕ, ◌+◌, Bool, true, false, cond, List, length, map, Option, Some, None, Result, Ok, Err, refl, sym, ap, ◌∙◌, subst, nat_le}
use Rattle.pg_grammar.specs.declared.fault.Fault.{Fault}
use Rattle.pg_grammar.specs.declared.fault.Fault.TheVariants as grammar
use Rattle.pg_grammar.specs.Languages.{Lang}
use Rattle.pg_grammar.specs.Limits.{nodes, sources}
use Rattle.pg_grammar.specs.Answers.{ReadsWhole}
use Rattle.pg_lexer.specs.declared.token.BadPlace.{BadPlace}
use Rattle.pg_lexer.specs.declared.token.Span.{Span}
use Rattle.pg_lexer.specs.declared.token.Spanned.{Spanned}
use Rattle.pg_lexer.specs.declared.token.Token.{Token}
use Rattle.pg_lexer.specs.Spans.{span_of}
use Rattle.pg_lexer.proofs.Readings.{one_reading}
use Rattle.pg_parse_expr.specs.Places.{place_of as place_left, placed, plain}
use Rattle.pg_parse_stmt.specs.Grammar.{sentence}
use Rattle.pg_parse_stmt.specs.Places.{IsParsed}
use Rattle.pg_parse_stmt.specs.declared.tree.StmtTree.{StmtTree}
use Rattle.pg_line.specs.declared.form.LineForm.{LineForm}
use Rattle.pg_line.specs.declared.form.PlaceFault.{PlaceFault}
use Rattle.pg_line.specs.declared.form.PlaceFault.TheVariants as fault
use Rattle.pg_line.specs.Statements.{IsGrammatical, IsOutcome, IsPlaced, IsStatementAt, first_of, lexical, place_of}
use Rattle.pg_line.specs.Forms.{Outline, comment, setup, given, pause, go, cut, unknown, IsFormBy, outline}
use Rattle.pg_line.specs.Words.{words_of}
use Rattle.pg_line.specs.Laws.{EachLineHasAtMostOneForm, IsSameFault, IsSameForm, IsSameOutcome}
use Rattle.pg_line.proofs.Faults.{no_fault, no_other, one_place, one_value}

-- two faults of the same tokens are placed alike
same_placed : {V : Type 0} (L : Lang Token V) (xs : List Token) (spans : List Span) (end : ℕ) (f g : Fault) →
    ReadsWhole L xs (Err f) → ReadsWhole L xs (Err g) → (a b : PlaceFault) → IsPlaced (placed spans end f) a →
    IsPlaced (placed spans end g) b → IsSameFault a b
same_placed L xs spans end grammar.Memory g r q a b p h = absurd p
same_placed L xs spans end f grammar.Memory r q a b p h = absurd h
same_placed L xs spans end (grammar.Syntax n) (grammar.Syntax k) r q a b p h =
    inl (p ∙ ap (λ m. fault.Syntax (place_left spans end m)) (one_place None None L xs n k r.is q.is) ∙ sym h)
same_placed L xs spans end (grammar.Deep n) (grammar.Deep k) r q a b p h =
    inl (p ∙ ap (λ m. fault.Depth (place_left spans end m)) (one_place (Some nodes) (Some nodes) L xs n k r.is q.is)
    ∙ sym h)
same_placed L xs spans end (grammar.Many n) (grammar.Many k) r q a b p h =
    inl (p ∙ ap (λ m. fault.Items (place_left spans end m)) (one_place (Some sources) (Some sources) L xs n k r.is q.is)
    ∙ sym h)
same_placed L xs spans end (grammar.Syntax n) (grammar.Deep k) r q a b p h = absurd (no_other nodes L xs n k r.is q.is)
same_placed L xs spans end (grammar.Syntax n) (grammar.Many k) r q a b p h = absurd (no_other sources L xs n k r.is q.is)
same_placed L xs spans end (grammar.Deep n) (grammar.Syntax k) r q a b p h = absurd (no_other nodes L xs k n q.is r.is)
same_placed L xs spans end (grammar.Many n) (grammar.Syntax k) r q a b p h = absurd (no_other sources L xs k n q.is r.is)
same_placed L xs spans end (grammar.Deep n) (grammar.Many k) r q a b p h =
    let same = one_place (Some sources) (Some nodes) L xs k n q.is r.is in
    inr (inl (place_left spans end n, p, h ∙ ap (λ m. fault.Items (place_left spans end m)) same))
same_placed L xs spans end (grammar.Many n) (grammar.Deep k) r q a b p h =
    let same = one_place (Some nodes) (Some sources) L xs k n q.is r.is in
    inr (inr (place_left spans end n, p, h ∙ ap (λ m. fault.Depth (place_left spans end m)) same))

-- tokens that are a statement have no fault
not_placed : {V : Type 0} (L : Lang Token V) (xs : List Token) (spans : List Span) (end : ℕ) (v : V) (f : Fault) →
    ReadsWhole L xs (Ok v) → ReadsWhole L xs (Err f) → (a : PlaceFault) → IsPlaced (placed spans end f) a → ⊥
not_placed L xs spans end v grammar.Memory r q a p = p
not_placed L xs spans end v (grammar.Syntax n) r q a p = no_fault None L xs v n r.is q.is
not_placed L xs spans end v (grammar.Deep n) r q a p = no_fault (Some nodes) L xs v n r.is q.is
not_placed L xs spans end v (grammar.Many n) r q a p = no_fault (Some sources) L xs v n r.is q.is

same_grammatical : (version : ℕ) (tokens : List Spanned) (end : ℕ) (a b : PlaceFault) →
    IsGrammatical version tokens end a → IsGrammatical version tokens end b → IsSameFault a b
same_grammatical version tokens end a b p q =
    same_placed (sentence version) (plain tokens) (map span_of tokens) end p.1.0 q.1.0 p.1.1 q.1.1 a b
    (subst (λ e. IsPlaced e a) p.1.2 p.2) (subst (λ e. IsPlaced e b) q.1.2 q.2)

not_both : (version : ℕ) (tokens : List Spanned) (end : ℕ) (tree : StmtTree) (a : PlaceFault) →
    IsParsed version tokens end (Ok tree) → IsGrammatical version tokens end a → ⊥
not_both version tokens end tree a p q =
    not_placed (sentence version) (plain tokens) (map span_of tokens) end tree q.1.0 p q.1.1 a
    (subst (λ e. IsPlaced e a) q.1.2 q.2)

-- the first of the same two faults
same_first : (x a b : PlaceFault) → IsSameFault a b → IsSameFault (first_of x a) (first_of x b)
same_first x a b (inl e) = inl (ap (first_of x) e)
same_first x a b (inr (inl w)) = rw (w.1, w.2) (by (nat_le (place_of x) w.0))
  where
    by : (c : Bool) → IsSameFault (cond c x (fault.Depth w.0)) (cond c x (fault.Items w.0))
    by true = inl refl
    by false = inr (inl (w.0, refl, refl))
same_first x a b (inr (inr w)) = rw (w.1, w.2) (by (nat_le (place_of x) w.0))
  where
    by : (c : Bool) → IsSameFault (cond c x (fault.Items w.0)) (cond c x (fault.Depth w.0))
    by true = inl refl
    by false = inr (inr (w.0, refl, refl))

same_outcome : (version : ℕ) (tokens : List Spanned) (end : ℕ) (bad : Option BadPlace) (a b : Result StmtTree PlaceFault) →
    IsOutcome version tokens end bad a → IsOutcome version tokens end bad b → IsSameOutcome a b
same_outcome version tokens end None (Ok t) (Ok u) p q =
    one_value (sentence version) (plain tokens) t u p.is q.is
same_outcome version tokens end None (Ok t) (Err f) p q = absurd (not_both version tokens end t f p q)
same_outcome version tokens end None (Err f) (Ok t) p q = absurd (not_both version tokens end t f q p)
same_outcome version tokens end None (Err f) (Err g) p q = same_grammatical version tokens end f g p q
same_outcome version tokens end (Some bad) (Ok t) b p q = absurd p
same_outcome version tokens end (Some bad) (Err f) (Ok t) p q = absurd q
same_outcome version tokens end (Some bad) (Err f) (Err g) (inl p) (inl q) = inl (p.2 ∙ sym q.2)
same_outcome version tokens end (Some bad) (Err f) (Err g) (inl p) (inr q) =
    absurd (not_both version tokens end p.0 q.0 p.1 q.1)
same_outcome version tokens end (Some bad) (Err f) (Err g) (inr p) (inl q) =
    absurd (not_both version tokens end q.0 p.0 q.1 p.1)
same_outcome version tokens end (Some bad) (Err f) (Err g) (inr p) (inr q) =
    rw (p.2, q.2) (same_first (lexical bad) p.0 q.0 (same_grammatical version tokens end p.0 q.0 p.1 q.1))

same_statement : (version : ℕ) (line : List ℕ) (from : ℕ) (a b : Result StmtTree PlaceFault) →
    IsStatementAt version line from a → IsStatementAt version line from b → IsSameOutcome a b
same_statement version line from a b p q =
    let same = one_reading from _ p.0 q.0 p.1 q.1 p.2 q.2 in
    same_outcome version q.0 (length line + 1) q.1 a b
    (subst (λ o. IsOutcome version q.0 (length line + 1) o a) same.1
    (subst (λ ts. IsOutcome version ts (length line + 1) p.1 a) same.0 p.3)) q.3

same_form : (version : ℕ) (line : List ℕ) (plan : Outline) (a b : LineForm) → IsFormBy version line plan a →
    IsFormBy version line plan b → IsSameForm a b
same_form version line comment a b p q = rw (p, q) refl
same_form version line (setup from) a b p q = rw (p.2, q.2) (same_statement version line from p.0 q.0 p.1 q.1)
same_form version line (given session from) a b p q =
    rw (p.2, q.2) (refl, same_statement version line from p.0 q.0 p.1 q.1)
same_form version line (pause session label) a b p q = rw (p, q) refl
same_form version line (go session) a b p q = rw (p, q) refl
same_form version line (cut session) a b p q = rw (p, q) refl
same_form version line unknown a b p q = rw (p, q) refl

pub at_most_one_form : EachLineHasAtMostOneForm
at_most_one_form version line a b p q = same_form version line (outline (words_of line)) a b p q
