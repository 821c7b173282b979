use Rattle.std.proofs.Common.{ap, sym, ◌∙◌, map, None, Some, Ok}
use Rattle.std.specs.Option.{option_copied}
use Rattle.pg_world.specs.Changes.{with_assigned, with_target_version}
use Rattle.pg_world.specs.Evaluation.{all_values}
use Rattle.pg_recheck.specs.Versions.{assigned_over}
use Rattle.pg_recheck.proofs.Setting.{over_version, set_on, version_values}
use Rattle.pg_recheck.proofs.values.new_values.Goals as goal

pub returns : goal.returns
returns c = λ given version has.
    ap (λ values. Ok (Some values))
    (c.in_ok-with_assigned.ensures
    ∙ ap (λ list. with_assigned list 0 c.args.target.now) c.as_slice-3.ensures
    ∙ ap (λ values. with_assigned c.in_ok-assigned.assigned 0 values)
    (sym (version_values c.args.target.now version c.args.partners.now has
    (sym c.is_empty.ensures ∙ c.if-is_empty.false))))
    ∙ set_on c.args.change.now c.in-Set.assignments c.new-env.result
    (with_target_version version c.args.partners.now) (Ok c.in_ok-assigned.assigned)
    c.in-Set.is
    (c.new-env.ensures
    ∙ ap (λ rows. record { rows = map option_copied rows; action = None }) c.as_slice.ensures.value
    ∙ ap (λ rows. record { rows = rows; action = None }) c.in_ok-rows.ensures
    ∙ over_version c.args.target.now version c.args.partners.now has)
    (c.in_ok-assigned.ensures (λ e. cc e)
    ∙ ap (λ columns. all_values (map (assigned_over columns c.new-env.result) c.as_slice-2.result.now))
    (c.as_slice-columns.ensures.items ∙ c.deref.ensures)
    ∙ ap (λ list. all_values (map (assigned_over c.args.change.now.target.shape.columns c.new-env.result) list))
    c.as_slice-2.ensures)
