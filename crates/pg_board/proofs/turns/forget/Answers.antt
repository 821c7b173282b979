use Rattle.std.proofs.Common.{nat_eq, not, rules}
use Rattle.std.proofs.lemmas.Fn.{filter_same}
use Rattle.pg_board.proofs.turns.forget.Goals as goal

pub returns-clause-others : goal.returns-clause-others
returns-clause-others c =
    filter_same _ (λ other. not (nat_eq other c.args.number)) _ (λ x b f' called. search rules) _ _ c.retain.ensures.filtered
