use Rattle.std.proofs.Common.{ap, length, sym, ◌∙◌}
use Rattle.pg_rows.specs.Stores.{last_written_by}
use Rattle.pg_rows.specs.Kept.{stored_slots}
use Rattle.pg_rows.proofs.Chains.{length_stored}
use Rattle.pg_rows.proofs.Ended.{latest_is}
use Rattle.pg_rows.proofs.store.RowStore.last_written.Goals as goal

pub returns : goal.returns
returns c =
    c.last_written.ensures
    ∙ (latest_is c.args.xact c.self.inside.heap (length c.self.inside.heap)
    ∙ (ap (last_written_by c.args.xact (stored_slots c.self.inside.heap)) (sym (length_stored c.self.inside.heap))
    ∙ ap (λ store. last_written_by c.args.xact store.versions (length store.versions)) c.self.view_is))
