use Rattle.std.proofs.Common.{refl}
use Rattle.pg_parse_stmt.proofs.source.ninth_source.Goals as goal
use Rattle.pg_parse_stmt.proofs.Bracketed.{source_ninth_bracket}

pub returns-in-Some : goal.returns-in-Some
returns-in-Some c =
    source_ninth_bracket c.args.before c.args.tokens.now c.in-Some.field-0.now _ c.requires c.in-Some.ensures refl
