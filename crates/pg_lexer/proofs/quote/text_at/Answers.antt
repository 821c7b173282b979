use Rattle.std.proofs.Common.{◌∙◌, ap, arith}
use Rattle.std.specs.Prelude.{not, position}
use Rattle.pg_lexer.specs.Bytes.{is_printed}
use Rattle.pg_lexer.proofs.Cuts.{unended_text, long_text, bad_byte, text_found, text_printed}
use Rattle.pg_lexer.proofs.quote.text_at.Goals as goal

pub returns-in_default : goal.returns-in_default
returns-in_default c =
    unended_text c.args.bytes.now c.args.place c.requires.quote
    (rw c.split_at.ensures.back at (rw c.in_default.is at c.in_ok-value.ensures))

pub returns-then-len-gt-MAX_TEXT : goal.returns-then-len-gt-MAX_TEXT
returns-then-len-gt-MAX_TEXT c =
    long_text c.args.bytes.now c.args.place c.in-Some.field-0.length c.in-Some.field-0.value.items c.requires.quote
    (rw c.split_at.ensures.back at (rw c.in-Some.is at c.in_ok-value.ensures)) (omega (arith, c.in-Some.field-0.value.ok.0))

pub new-requires : goal.new-requires
new-requires c =
    text_printed c.args.bytes.now c.args.place c.in-Some.field-0.length c.in-Some.field-0.value.items c.requires.quote
    (rw c.split_at.ensures.back at (rw c.in-Some.is at c.in_ok-value.ensures)) (omega (arith, c.in-Some.field-0.value.ok.0))
    (c.in-None.ensures ∙ ap (position (λ b. not (is_printed b))) c.split_at-2.ensures.front)

pub returns-in-Some-first_unprinted : goal.returns-in-Some-first_unprinted
returns-in-Some-first_unprinted c =
    bad_byte c.args.bytes.now c.args.place c.in-Some.field-0.length c.in-Some.field-0.value.items c.requires.quote
    (rw c.split_at.ensures.back at (rw c.in-Some.is at c.in_ok-value.ensures)) c.in-Some-first_unprinted.before (omega (arith, c.in-Some.field-0.value.ok.0))
    (c.in-Some-first_unprinted.ensures ∙ ap (position (λ b. not (is_printed b))) c.split_at-2.ensures.front)

pub returns-in-None : goal.returns-in-None
returns-in-None c =
    rw c.new.ensures
    (text_found c.args.bytes.now c.args.place c.in-Some.field-0.length c.in-Some.field-0.value.items c.requires.quote
    (rw c.split_at.ensures.back at (rw c.in-Some.is at c.in_ok-value.ensures)) (omega (arith, c.in-Some.field-0.value.ok.0))
    (c.in-None.ensures ∙ ap (position (λ b. not (is_printed b))) c.split_at-2.ensures.front))
