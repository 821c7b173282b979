use Rattle.pg_lexer.proofs.Quotes.{writes_other, writes_quote}
use Rattle.pg_lexer.proofs.quote.next_byte.Goals as goal

pub returns-then-first-ne-QUOTE : goal.returns-then-first-ne-QUOTE
returns-then-first-ne-QUOTE c = rw c.in_ok-first.ensures.cases.0 (writes_other _ _ c.if-first-ne-QUOTE.true)

pub returns-then-second-eq-QUOTE : goal.returns-then-second-eq-QUOTE
returns-then-second-eq-QUOTE c =
    rw (c.in_ok-first.ensures.cases.0, c.in_ok-second.ensures.cases.0) (writes_quote _ _ _ c.if-first-ne-QUOTE.false c.if-second-eq-QUOTE.true)
