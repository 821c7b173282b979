-- Values that are to be stored.
use Rattle.std.proofs.Common.{◌≡◌, refl, sym, ap, ◌∙◌, ◌⊎◌, inl, inr, ◌+◌, ◌<◌, ◌≤◌, add-one, append_assoc, ℕ, zero, suc, Bool, true, false, true≢false, ◌&&◌, if◌then◌else◌, length, List, [], ◌∷◌, ◌++◌, drop, flat_map, map, slice_index_or, Option, Some, None, Ok}
use Rattle.std.proofs.lemmas.List.{at_drop_all, drop_more}
use Rattle.std.specs.Option.{option_map_or}
use Rattle.pg_values.specs.declared.value.Kind.{Kind}
use Rattle.pg_parse_expr.specs.Tree.{Tree}
use Rattle.pg_model.specs.declared.catalogue.Column.{Column}
use Rattle.pg_model.specs.declared.error.SqlError.{SqlError}
use Rattle.pg_model.specs.declared.error.SqlError.TheVariants.{WrongKind}
use Rattle.pg_model.specs.Kinds.{has_kind, may_be_stored}
use Rattle.pg_model.specs.Statements.{column_kind}
use Rattle.pg_resolve.specs.declared.fault.AnalyseFault.TheVariants.{Error}
use Rattle.pg_analyse.specs.Built.{is_empty}
use Rattle.pg_exprs.specs.Tree.{Tree as Resolved}
use Rattle.pg_resolve.specs.Causes.{Stops, first_fault}
use Rattle.pg_analyse.specs.Inserts.{fits_at, store_errors, value_errors}
use Rattle.pg_resolve.specs.Resolved.{expr_errors, kind_errors, kind_in, expr_of_tree}
use Rattle.pg_resolve.proofs.Stopping.{stops_before, stops_behind}

cons_nil : {X : Type 0} {x : X} {xs : List X} → x ∷ xs ≡ [] → ⊥
cons_nil e = absurd (cc)

-- the errors have none but of kinds
abbrev pub Wrong : List SqlError → Type 0
Wrong errors = (errors ≡ []) ⊎ (first_fault errors ≡ Some (Error WrongKind))

pub wrong_append : (a b : List SqlError) → Wrong a → Wrong b → Wrong (a ++ b)
wrong_append [] b wa wb = wb
wrong_append (x ∷ a) b (inl e) wb = absurd (cons_nil e)
wrong_append (x ∷ a) b (inr e) wb = inr e

pub wrong_test : (b : Bool) → Wrong (if b then [] else WrongKind ∷ [])
wrong_test true = inl refl
wrong_test false = inr refl

wrong_value : (columns : List Column) (number : ℕ) (tree : Tree) → Wrong (value_errors columns number tree)
wrong_value columns number tree = by_kind (column_kind columns number)
  where
    by_kind : (to : Option Kind) →
        Wrong (option_map_or (λ to. kind_errors (λ from. may_be_stored from to) (kind_in [] tree)) to [])
    by_kind None = inl refl
    by_kind (Some to) = wrong_test (has_kind (λ from. may_be_stored from to) (kind_in [] tree))

wrong_row : (columns : List Column) (numbers : List ℕ) (row : List Tree) → Wrong (store_errors columns numbers row)
wrong_row columns numbers [] = inl refl
wrong_row columns [] (tree ∷ row) = inl refl
wrong_row columns (number ∷ numbers) (tree ∷ row) =
    wrong_append (value_errors columns number tree) (store_errors columns numbers row) (wrong_value columns number tree)
    (wrong_row columns numbers row)

wrong_rows : (columns : List Column) (numbers : List ℕ) (rows : List (List Tree)) →
    Wrong (flat_map (store_errors columns numbers) rows)
wrong_rows columns numbers [] = inl refl
wrong_rows columns numbers (row ∷ rows) =
    wrong_append (store_errors columns numbers row) (flat_map (store_errors columns numbers) rows)
    (wrong_row columns numbers row) (wrong_rows columns numbers rows)

pub first_wrong : (errors : List SqlError) → Wrong errors → is_empty errors ≡ false →
    first_fault errors ≡ Some (Error WrongKind)
first_wrong [] wrong some = absurd (true≢false some)
first_wrong (x ∷ xs) (inl e) some = absurd (cons_nil e)
first_wrong (x ∷ xs) (inr e) some = e

-- where a value may not be stored, the first error is of kinds
pub stops_last : (columns : List Column) (numbers : List ℕ) (rows : List (List Tree)) →
    is_empty (flat_map (store_errors columns numbers) rows) ≡ false →
    first_fault (flat_map (store_errors columns numbers) rows) ≡ Some (Error WrongKind)
stops_last columns numbers rows some =
    first_wrong (flat_map (store_errors columns numbers) rows) (wrong_rows columns numbers rows) some

pub none_left : (errors : List SqlError) → is_empty errors ≡ true → errors ≡ []
none_left [] none = refl
none_left (x ∷ xs) none = absurd (true≢false (sym none))

pub empty_append : (xs ys : List SqlError) → is_empty (xs ++ ys) ≡ (is_empty xs && is_empty ys)
empty_append [] ys = refl
empty_append (x ∷ xs) ys = refl

pub and_assoc : (a b c : Bool) → ((a && b) && c) ≡ (a && (b && c))
and_assoc true b c = refl
and_assoc false b c = refl

-- one row more
pub step_tuples : (columns : List Column) (numbers : List ℕ) (row : List Tree) (rows : List (List Tree))
    (fits fit after : Bool) → fit ≡ is_empty (store_errors columns numbers row) → after ≡ (fits && fit) →
    (after && is_empty (flat_map (store_errors columns numbers) rows))
    ≡ (fits && is_empty (flat_map (store_errors columns numbers) (row ∷ rows)))
step_tuples columns numbers row rows fits fit after is both =
    ap (λ b. b && is_empty (flat_map (store_errors columns numbers) rows)) both
    ∙ and_assoc fits fit (is_empty (flat_map (store_errors columns numbers) rows))
    ∙ ap (λ b. fits && (b && is_empty (flat_map (store_errors columns numbers) rows))) is
    ∙ ap (λ b. fits && b)
    (sym (empty_append (store_errors columns numbers row) (flat_map (store_errors columns numbers) rows)))

-- what the resolution of rows goes by
pub ruleset rows_resolved = (stops_before, stops_behind, stops_last, none_left, step_tuples)

pub empty_test : (b : Bool) → is_empty (if b then [] else WrongKind ∷ []) ≡ b
empty_test true = refl
empty_test false = refl

empty_value : (columns : List Column) (number : ℕ) (tree : Tree) (kind : Option Kind) → kind_in [] tree ≡ Ok kind →
    is_empty (value_errors columns number tree) ≡ option_map_or (may_be_stored kind) (column_kind columns number) true
empty_value columns number tree kind is = by_kind (column_kind columns number)
  where
    by_kind : (to : Option Kind) →
        is_empty (option_map_or (λ to. kind_errors (λ from. may_be_stored from to) (kind_in [] tree)) to [])
        ≡ option_map_or (may_be_stored kind) to true
    by_kind None = refl
    by_kind (Some to) =
        empty_test (has_kind (λ from. may_be_stored from to) (kind_in [] tree))
        ∙ ap (has_kind (λ from. may_be_stored from to)) is

no_columns : (columns : List Column) (row : List Tree) → is_empty (store_errors columns [] row) ≡ true
no_columns columns [] = refl
no_columns columns (tree ∷ row) = refl

one_value : (columns : List Column) (numbers : List ℕ) (at : ℕ) (tree : Tree) (rest : List Tree) (kind : Option Kind) →
    kind_in [] tree ≡ Ok kind →
    is_empty (store_errors columns (drop at numbers) (tree ∷ rest))
    ≡ (fits_at columns numbers at kind && is_empty (store_errors columns (drop (suc at) numbers) rest))
one_value columns [] zero tree rest kind is = sym (no_columns columns rest)
one_value columns [] (suc at) tree rest kind is = sym (no_columns columns rest)
one_value columns (number ∷ numbers) zero tree rest kind is =
    empty_append (value_errors columns number tree) (store_errors columns numbers rest)
    ∙ ap (λ b. b && is_empty (store_errors columns numbers rest)) (empty_value columns number tree kind is)
one_value columns (number ∷ numbers) (suc at) tree rest kind is = one_value columns numbers at tree rest kind is

-- one value more
pub step_values : (columns : List Column) (numbers : List ℕ) (at next : ℕ) (tree : Tree) (rest : List Tree)
    (kind : Option Kind) (fits fit after : Bool) → kind_in [] tree ≡ Ok kind → fit ≡ fits_at columns numbers at kind →
    after ≡ (fits && fit) → next ≡ at + 1 →
    (after && is_empty (store_errors columns (drop next numbers) rest))
    ≡ (fits && is_empty (store_errors columns (drop at numbers) (tree ∷ rest)))
step_values columns numbers at next tree rest kind fits fit after is fitting both more =
    ap (λ n. after && is_empty (store_errors columns (drop n numbers) rest)) (more ∙ add-one at)
    ∙ ap (λ b. b && is_empty (store_errors columns (drop (suc at) numbers) rest)) both
    ∙ and_assoc fits fit (is_empty (store_errors columns (drop (suc at) numbers) rest))
    ∙ ap (λ b. fits && (b && is_empty (store_errors columns (drop (suc at) numbers) rest))) fitting
    ∙ ap (λ b. fits && b) (sym (one_value columns numbers at tree rest kind is))

-- how far the values of a row were resolved: the expressions so far, and what is left
abbrev pub Resolving : List Column → List ℕ → List Tree → ℕ → ℕ → List Resolved → Bool → Type 0
Resolving columns numbers row at index exprs fits =
    (at ≡ index)
    × (exprs ++ map (expr_of_tree []) (drop index row) ≡ map (expr_of_tree []) row)
    × (flat_map (expr_errors []) (drop index row) ≡ flat_map (expr_errors []) row)
    × ((fits && is_empty (store_errors columns (drop at numbers) (drop index row)))
    ≡ is_empty (store_errors columns numbers row))

pub values_more : (columns : List Column) (numbers : List ℕ) (row : List Tree) (at index : ℕ) (tree : Tree)
    (exprs new : List Resolved) (expr : Resolved) (kind : Option Kind) (fits fit after : Bool) → index < length row →
    tree ≡ slice_index_or row index tree → Resolving columns numbers row at index exprs fits → expr ≡ expr_of_tree [] tree →
    kind_in [] tree ≡ Ok kind → expr_errors [] tree ≡ [] → fit ≡ fits_at columns numbers at kind →
    new ≡ exprs ++ expr ∷ [] → after ≡ (fits && fit) → Resolving columns numbers row (at + 1) (index + 1) new after
values_more columns numbers row at index tree exprs new expr kind fits fit after below here so_far expr_is kind_is none
    fitting more both =
    let rest : List Tree = drop (index + 1) row in
    let split : drop index row ≡ tree ∷ rest = drop_more row index tree below ∙ ap (λ t. t ∷ rest) (sym here) in (
      ap (λ n. n + 1) so_far.0,
      ap (λ es. es ++ map (expr_of_tree []) rest) more ∙ append_assoc exprs (expr ∷ []) (map (expr_of_tree []) rest)
          ∙ ap (λ e. exprs ++ e ∷ map (expr_of_tree []) rest) expr_is ∙ ap (λ ts. exprs ++ map (expr_of_tree []) ts) (sym split)
          ∙ so_far.1,
      ap (λ es. es ++ flat_map (expr_errors []) rest) (sym none) ∙ ap (flat_map (expr_errors [])) (sym split) ∙ so_far.2,
      step_values columns numbers at (at + 1) tree rest kind fits fit after kind_is fitting both refl
          ∙ ap (λ ts. fits && is_empty (store_errors columns (drop at numbers) ts)) (sym split) ∙ so_far.3,
    )

-- where a value may not be stored, and no expression has an error
pub rows_stop : (columns : List Column) (numbers : List ℕ) (rows : List (List Tree)) (index : ℕ) (fits : Bool) →
    length rows ≤ index →
    flat_map (flat_map (expr_errors [])) (drop index rows) ≡ flat_map (flat_map (expr_errors [])) rows →
    (fits && is_empty (flat_map (store_errors columns numbers) (drop index rows)))
    ≡ is_empty (flat_map (store_errors columns numbers) rows) → fits ≡ false →
    Stops (flat_map (flat_map (expr_errors [])) rows ++ (flat_map (store_errors columns numbers) rows ++ [])) (Error WrongKind)
rows_stop columns numbers rows index fits end exprs stored unfit =
    let none : flat_map (flat_map (expr_errors [])) rows ≡ [] =
    sym exprs ∙ at_drop_all (flat_map (flat_map (expr_errors []))) rows index end in
    let some : is_empty (flat_map (store_errors columns numbers) rows) ≡ false =
    sym stored ∙ ap (λ b. b && is_empty (flat_map (store_errors columns numbers) (drop index rows))) unfit in
    stops_behind (flat_map (flat_map (expr_errors [])) rows) (flat_map (store_errors columns numbers) rows ++ []) (Error WrongKind)
    none
    (stops_before (flat_map (store_errors columns numbers) rows) [] (Error WrongKind)
    (inr (stops_last columns numbers rows some)))
