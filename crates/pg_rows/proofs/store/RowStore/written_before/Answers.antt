use Rattle.std.proofs.Common.{ap, sym, ◌-◌, ◌∙◌}
use Rattle.pg_rows.specs.Stores.{is_number_of, last_written_by}
use Rattle.pg_rows.proofs.Ended.{latest_is, written_is}
use Rattle.pg_rows.proofs.store.RowStore.written_before.Goals as goal

pub returns : goal.returns
returns c =
    λ xact wrote.
    c.written_before.ensures xact
    (sym (written_is xact c.self.inside.heap c.args.version)
    ∙ (ap (λ store. is_number_of xact store.versions c.args.version) c.self.view_is ∙ wrote))
    ∙ (latest_is xact c.self.inside.heap (c.args.version - 1)
    ∙ ap (λ store. last_written_by xact store.versions (c.args.version - 1)) c.self.view_is)
