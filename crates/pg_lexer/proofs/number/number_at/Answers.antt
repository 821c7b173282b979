use Rattle.std.proofs.Common.{arith}
use Rattle.std.specs.Char.{is_ascii_digit}
use Rattle.std.proofs.lemmas.List.Sums.{prefix_len-le-length}
use Rattle.pg_lexer.proofs.Cuts.{large_number, number_found}
use Rattle.pg_lexer.proofs.number.number_at.Goals as goal

pub split_at-requires : goal.split_at-requires
split_at-requires c = omega (arith, prefix_len-le-length is_ascii_digit c.args.bytes.now)

pub returns-then-number-gt-MAX_INTEGER : goal.returns-then-number-gt-MAX_INTEGER
returns-then-number-gt-MAX_INTEGER c =
    large_number c.args.bytes.now c.args.place c.digits_len-length.result c.number_of-number.result c.requires c.digits_len-length.ensures
    (rw c.split_at.ensures.front at c.number_of-number.ensures) c.if-number-gt-MAX_INTEGER.true

pub returns : goal.returns
returns c =
    number_found c.args.bytes.now c.args.place c.digits_len-length.result c.number_of-number.result c.requires c.digits_len-length.ensures
    (rw c.split_at.ensures.front at c.number_of-number.ensures) c.if-number-gt-MAX_INTEGER.false
