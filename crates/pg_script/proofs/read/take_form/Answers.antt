-- A form that is refused before analysis, and one that is not refused.
use Rattle.std.proofs.Common.{◌∙◌, sym}
use Rattle.pg_script.proofs.Answering.{added, refused_early}
use Rattle.pg_script.proofs.read.take_form.Goals as goal

pub returns-in-Some : goal.returns-in-Some
returns-in-Some c =
    refused_early c.args.draft.now c.args.draft.now c.args.form.now c.in-Some.reason
    (sym c.early_reason.ensures ∙ c.in-Some.is)

pub returns-in-None : goal.returns-in-None
returns-in-None c =
    added c.args.draft.now c.add.new.draft c.args.form.now tt (sym c.early_reason.ensures ∙ c.in_default.is)
    (rw c.in-None.is at c.in_ok-error.ensures.error) c.in_ok-error.ensures.added
