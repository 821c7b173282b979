-- Errors, told apart by their states and texts.
use Rattle.std.proofs.Common.{◌≡◌, refl, ap, ℕ, true, List, [], ◌∷◌, ◌++◌, codes}
use Rattle.std.specs.List.{list_all}
use Rattle.std.proofs.lemmas.List.{append_cancel_left}
use Rattle.pg_names.specs.Names.{is_name}
use Rattle.pg_model.specs.declared.error.Counted.TheVariants as counted
use Rattle.pg_model.specs.declared.error.SqlError.{SqlError}
use Rattle.pg_model.specs.declared.error.SqlError.TheVariants as error
use Rattle.pg_model.specs.Errors.{error_state, error_text}
use Rattle.pg_print.specs.Laws.{names_in}
use Rattle.pg_print.proofs.Cycles.{deadlock_same}
use Rattle.pg_print.proofs.Fronts.{apart, left_holds}
use Rattle.pg_print.proofs.Named.{named_same}

-- an error as it stands in a journal
abbrev pub failed_words : SqlError → List ℕ
failed_words failed = error_state failed ++ codes " " ++ error_text failed

only : (x : List ℕ) → list_all is_name (x ∷ []) ≡ true → is_name x ≡ true
only x all = left_holds (is_name x) true all

pub error_same : (a b : SqlError) → list_all is_name (names_in a) ≡ true → list_all is_name (names_in b) ≡ true →
    failed_words a ≡ failed_words b → a ≡ b
error_same error.Aborted error.Aborted na nb e = refl
error_same (error.NoRelation x) (error.NoRelation y) na nb e =
    ap error.NoRelation (named_same (codes "42P01 relation ") (codes " does not exist") x y (only x na) (only y nb) e)
error_same (error.SameAlias x) (error.SameAlias y) na nb e =
    ap error.SameAlias (named_same (codes "42712 table name ") (codes " specified more than once") x y (only x na) (only y nb) e)
error_same (error.NoColumn x) (error.NoColumn y) na nb e =
    ap error.NoColumn (named_same (codes "42703 column ") (codes " does not exist") x y (only x na) (only y nb) e)
error_same (error.ColumnTwice x) (error.ColumnTwice y) na nb e =
    ap error.ColumnTwice (named_same (codes "42701 column ") (codes " specified more than once") x y (only x na) (only y nb) e)
error_same (error.SetTwice x) (error.SetTwice y) na nb e =
    ap error.SetTwice (named_same (codes "42601 column ") (codes " is set more than once") x y (only x na) (only y nb) e)
error_same (error.Ambiguous x) (error.Ambiguous y) na nb e =
    ap error.Ambiguous (named_same (codes "42702 column reference ") (codes " is ambiguous") x y (only x na) (only y nb) e)
error_same error.WrongCount error.WrongCount na nb e = refl
error_same error.NoOperator error.NoOperator na nb e = refl
error_same error.WrongKind error.WrongKind na nb e = refl
error_same (error.RelationExists x) (error.RelationExists y) na nb e =
    ap error.RelationExists (named_same (codes "42P07 relation ") (codes " already exists") x y (only x na) (only y nb) e)
error_same (error.TooMany counted.Tables) (error.TooMany counted.Tables) na nb e = refl
error_same (error.TooMany counted.Columns) (error.TooMany counted.Columns) na nb e = refl
error_same (error.TooMany counted.Tables) (error.TooMany counted.Columns) na nb e = absurd (apart 17 _ _ e refl)
error_same (error.TooMany counted.Columns) (error.TooMany counted.Tables) na nb e = absurd (apart 17 _ _ e refl)
error_same error.TooLong error.TooLong na nb e = refl
error_same error.IntRange error.IntRange na nb e = refl
error_same error.BigRange error.BigRange na nb e = refl
error_same error.ZeroDivisor error.ZeroDivisor na nb e = refl
error_same (error.Deadlock xs) (error.Deadlock ys) na nb e =
    ap error.Deadlock (deadlock_same xs ys na nb (append_cancel_left (codes "40P01 deadlock detected, cycle ") _ _ e))
error_same a b na nb e = absurd (apart 8 (failed_words a) (failed_words b) e refl)
