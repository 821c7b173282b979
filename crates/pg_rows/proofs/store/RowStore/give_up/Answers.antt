use Rattle.std.proofs.Common.{ap, option_map, sym, ◌∙◌}
use Rattle.pg_rows.specs.Stores.{stored_of}
use Rattle.pg_rows.proofs.Ended.{given_up_none, shown_state}
use Rattle.pg_rows.proofs.store.RowStore.give_up.Goals as goal

pub returns-else-waits : goal.returns-else-waits
returns-else-waits c =
    given_up_none c.args.self.now c.args.version c.state.result
    (ap (λ store. option_map (λ stored. stored.state) (stored_of store.versions c.args.version)) (sym c.self.view_is)
    ∙ shown_state c.self.inside.heap c.args.version c.state.result c.state.ensures)
    (sym c.waits.ensures ∙ c.if-waits.false)
