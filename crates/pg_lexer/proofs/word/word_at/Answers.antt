use Rattle.std.proofs.Common.{map, ap, ◌∙◌, arith}
use Rattle.std.specs.Char.{to_ascii_lowercase}
use Rattle.std.proofs.lemmas.List.Sums.{prefix_len-le-length}
use Rattle.pg_lexer.specs.Bytes.{in_word}
use Rattle.pg_lexer.proofs.Cuts.{long_word, word_found, name_is}
use Rattle.pg_lexer.proofs.word.word_at.Goals as goal

pub returns-then-length-gt-MAX_NAME : goal.returns-then-length-gt-MAX_NAME
returns-then-length-gt-MAX_NAME c =
    long_word c.args.bytes.now c.args.place c.word_len-length.result c.requires c.word_len-length.ensures c.if-length-gt-MAX_NAME.true

pub split_at-requires : goal.split_at-requires
split_at-requires c = omega (arith, prefix_len-le-length in_word c.args.bytes.now)

pub word_token-requires : goal.word_token-requires
word_token-requires c =
    name_is c.args.bytes.now c.word_len-length.result c.requires c.word_len-length.ensures c.if-length-gt-MAX_NAME.false _
    (c.fold.ensures ∙ ap (map to_ascii_lowercase) c.split_at.ensures.front)

pub returns : goal.returns
returns c =
    rw c.in_ok-token.ensures
    (word_found c.args.bytes.now c.args.place c.word_len-length.result c.requires c.word_len-length.ensures c.if-length-gt-MAX_NAME.false _
    (c.fold.ensures ∙ ap (map to_ascii_lowercase) c.split_at.ensures.front))
