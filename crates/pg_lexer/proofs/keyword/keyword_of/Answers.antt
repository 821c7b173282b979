use Rattle.std.proofs.Common.{sym, ap, ◌∙◌}
use Rattle.std.proofs.lemmas.List.{nil_from_length}
use Rattle.pg_lexer.specs.Keywords.{keyword_of}
use Rattle.pg_lexer.proofs.Words.{keyword_at, no_empty_keyword}
use Rattle.pg_lexer.proofs.keyword.keyword_of.Goals as goal

pub returns-in_err-first : goal.returns-in_err-first
returns-in_err-first c =
    c.from_residual.ensures ∙ sym (ap keyword_of (nil_from_length c.args.word.now c.in_err-first.ensures.cases) ∙ no_empty_keyword)

pub returns : goal.returns
returns c =
    rw c.words_with.ensures at c.find_word.ensures
    ∙ keyword_at c.args.word.now c.in_ok-first.first.now c.in_ok-first.field-0-1.now c.in_ok-first.ensures.cases.0
