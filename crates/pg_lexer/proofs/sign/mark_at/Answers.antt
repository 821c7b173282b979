use Rattle.std.proofs.Common.{sym}
use Rattle.pg_lexer.proofs.Cuts.{sign_found, no_sign_found}
use Rattle.pg_lexer.proofs.sign.mark_at.Goals as goal

pub returns-in-Some : goal.returns-in-Some
returns-in-Some c = sign_found _ _ _ _ c.requires (sym c.in-Some.ensures)

pub returns-in-None : goal.returns-in-None
returns-in-None c = no_sign_found _ _ c.requires (sym c.in-None.ensures)
