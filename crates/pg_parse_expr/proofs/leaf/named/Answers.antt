use Rattle.std.proofs.Common.{arith}
use Rattle.pg_grammar.specs.Answers.{read, failed}
use Rattle.pg_parse_expr.proofs.Leaves.{leaf_name}
use Rattle.pg_parse_expr.proofs.leaf.named.Goals as goal

pub returns-in-Ok-clause-reads : goal.returns-in-Ok-clause-reads
returns-in-Ok-clause-reads c =
    leaf_name c.args.depth c.args.tokens.now (read c.in-Ok.part.value c.in-Ok.part.rest.now) c.requires (omega (arith, c.if-depth-ge-MAX_HEIGHT.false)) c.in-Ok.ensures.reads

pub returns-in-Err-clause-reads : goal.returns-in-Err-clause-reads
returns-in-Err-clause-reads c =
    leaf_name c.args.depth c.args.tokens.now (failed c.in-Err.fault) c.requires (omega (arith, c.if-depth-ge-MAX_HEIGHT.false)) c.in-Err.ensures.reads
