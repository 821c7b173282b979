-- Three-valued logic: true, false, and None for NULL, which is not known.
use Rattle.std.specs.Prelude.{Bool, true, false, Option, Some, None}

-- false where one side is false, true where both are true
abbrev pub and_truths : Option Bool → Option Bool → Option Bool
and_truths (Some false) _ = Some false
and_truths _ (Some false) = Some false
and_truths (Some true) (Some true) = Some true
and_truths _ _ = None

-- true where one side is true, false where both are false
abbrev pub or_truths : Option Bool → Option Bool → Option Bool
or_truths (Some true) _ = Some true
or_truths _ (Some true) = Some true
or_truths (Some false) (Some false) = Some false
or_truths _ _ = None

-- true and false exchanged
abbrev pub not_truth : Option Bool → Option Bool
not_truth (Some true) = Some false
not_truth (Some false) = Some true
not_truth None = None
