-- No evaluation fails with a deadlock: only a wait that would close a cycle does.
use Rattle.std.proofs.Common.{◌≡◌, ◌<◌, ◌+◌, ◌||◌, ℕ, zero, suc, Bool, true, false, cond, List, [], ◌∷◌, length, get_or, map, Contains, Option, Some, None, subst, arith}
use Rattle.std.specs.Prelude.{Result, Ok, Err, is_none, nat_lt}
use Rattle.std.specs.Option.{option_map_or}
use Rattle.pg_lists.specs.Numbered.{item_at}
use Rattle.pg_multi.specs.declared.strength.Strength.{Strength}
use Rattle.pg_multi.specs.Locks.{blocker}
use Rattle.pg_values.specs.declared.number.NumberFault.{NumberFault}
use Rattle.pg_values.specs.declared.number.NumberFault.TheVariants as number_fault
use Rattle.pg_values.specs.declared.value.Kind.{Kind}
use Rattle.pg_values.specs.declared.value.Value.{Value}
use Rattle.pg_values.specs.Fit.{fit_value}
use Rattle.pg_exprs.specs.declared.evaluate.EvalFault.{EvalFault}
use Rattle.pg_exprs.specs.declared.evaluate.EvalFault.TheVariants as eval_fault
use Rattle.pg_exprs.specs.Environment.{Environment}
use Rattle.pg_exprs.specs.Evaluation.{eval}
use Rattle.pg_exprs.specs.Tree.{Tree}
use Rattle.pg_xacts.specs.declared.me.Me.{Me}
use Rattle.pg_xacts.specs.Transactions.{Transactions}
use Rattle.pg_heap.specs.Current.{current_values, newest}
use Rattle.pg_model.specs.declared.catalogue.Column.{Column}
use Rattle.pg_model.specs.declared.error.SqlError.{SqlError}
use Rattle.pg_model.specs.declared.error.SqlError.TheVariants.{Deadlock}
use Rattle.pg_model.specs.declared.journal.EntryAct.TheVariants as entry
use Rattle.pg_model.specs.declared.statement.Action.{Action}
use Rattle.pg_model.specs.declared.statement.Action.TheVariants as action
use Rattle.pg_model.specs.declared.statement.Assignment.{Assignment}
use Rattle.pg_model.specs.declared.statement.Change.{Change}
use Rattle.pg_model.specs.declared.statement.Insert.{Insert}
use Rattle.pg_model.specs.declared.statement.Statement.{Statement}
use Rattle.pg_model.specs.declared.statement.Statement.TheVariants as statement
use Rattle.pg_model.specs.Statements.{column_kind}
use Rattle.pg_world.specs.declared.candidate.Candidate.{Candidate}
use Rattle.pg_world.specs.declared.candidate.SeenRow.{SeenRow}
use Rattle.pg_world.specs.declared.session.Running.{Running}
use Rattle.pg_world.specs.declared.session.Stage.{Stage}
use Rattle.pg_world.specs.declared.session.Stage.TheVariants.{Between as between, Found as found, Locked as locked, Placed as placed}
use Rattle.pg_world.specs.declared.table.TableView.{TableView}
use Rattle.pg_world.specs.Candidates.{candidates_over, column_values, combinations, environment_of, fitted_for, insert_candidates, listed_values, no_sources, output_row, passes, passing_before, passing_combinations, proposed_candidate, proposed_row, selected_candidate, unmade_candidate, value_for, value_or_default}
use Rattle.pg_world.specs.Changes.{assigned_value, blocked_or_locked, change_choices_at, changing_choices, is_as_seen, is_of_command, locking_choices, new_values, new_values_by, partners_in, partners_locked, row_at, second_look, table_at, target_row}
use Rattle.pg_world.specs.Tables.{locks_on}
use Rattle.pg_world.specs.Choices.{choices, choices_by, choices_with, insert_choices, placing_choices}
use Rattle.pg_world.specs.Choosing.{Choice, candidate_choices, does, fails, if_made, waits}
use Rattle.pg_world.specs.Evaluation.{all_values, evaluation_error, fitted_value, if_valued, is_true, number_error, value_of, with_error, with_value}

-- an error is no deadlock
abbrev pub IsNoDeadlock : SqlError → Type 0
IsNoDeadlock error = (names : List (List ℕ)) → error ≡ Deadlock names → ⊥

-- what is made has no deadlock for its error
abbrev pub Honest : {X : Type 0} → Result X SqlError → Type 0
Honest (Ok x) = Unit {0}
Honest (Err error) = IsNoDeadlock error

abbrev AllHonest : {X : Type 0} → List (Result X SqlError) → Type 0
AllHonest [] = Unit {0}
AllHonest (one ∷ others) = Honest one × AllHonest others

honest_value : (tree : Tree) (env : Environment) → Honest (value_of tree env)
honest_value tree env = at (eval tree env)
  where
    at : (r : Result Value EvalFault) → Honest (with_error evaluation_error r)
    at (Ok value) = tt
    at (Err eval_fault.IntRange) = λ names is. cc is
    at (Err eval_fault.BigRange) = λ names is. cc is
    at (Err eval_fault.ZeroDivisor) = λ names is. cc is
    at (Err eval_fault.TooLong) = λ names is. cc is
    at (Err eval_fault.Memory) = λ names is. cc is

honest_fitted : (kind : Kind) (value : Value) → Honest (fitted_value kind value)
honest_fitted kind value = at (fit_value value kind)
  where
    at : (r : Result Value NumberFault) → Honest (with_error number_error r)
    at (Ok value) = tt
    at (Err number_fault.IntRange) = λ names is. cc is
    at (Err number_fault.BigRange) = λ names is. cc is
    at (Err number_fault.ZeroDivisor) = λ names is. cc is

honest_with : {X Y : Type 0} (make : X → Y) (r : Result X SqlError) → Honest r → Honest (with_value make r)
honest_with make (Ok x) honest = tt
honest_with make (Err error) honest = honest

honest_if : {X Y : Type 0} (make : X → Result Y SqlError) (r : Result X SqlError) → ((x : X) → Honest (make x)) → Honest r →
    Honest (if_valued make r)
honest_if make (Ok x) makes honest = makes x
honest_if make (Err error) makes honest = honest

honest_all : {X : Type 0} (rs : List (Result X SqlError)) → AllHonest rs → Honest (all_values rs)
honest_all [] all = tt
honest_all (Ok x ∷ others) all = honest_with _ (all_values others) (honest_all others all.1)
honest_all (Err error ∷ others) all = all.0

all_map : {X Y : Type 0} (f : X → Result Y SqlError) (xs : List X) → ((x : X) → Honest (f x)) → AllHonest (map f xs)
all_map f [] each = tt
all_map f (x ∷ xs) each = (each x, all_map f xs each)

honest_fitted_for : (columns : List Column) (number : ℕ) (r : Result Value SqlError) → Honest r → Honest (fitted_for columns number r)
honest_fitted_for columns number r honest = honest_if _ r (λ value. at value (column_kind columns number)) honest
  where
    at : (value : Value) (o : Option Kind) → Honest (option_map_or (λ kind. fitted_value kind value) o (Ok value))
    at value None = tt
    at value (Some kind) = honest_fitted kind value

-- an INSERT
honest_listed : (columns : List Column) (numbers : List ℕ) (trees : List Tree) → AllHonest (listed_values columns numbers trees)
honest_listed columns [] trees = tt
honest_listed columns (number ∷ numbers) [] = tt
honest_listed columns (number ∷ numbers) (tree ∷ trees) = (
  honest_with _ (value_for columns number tree)
      (honest_fitted_for columns number (value_of tree no_sources) (honest_value tree no_sources)),
  honest_listed columns numbers trees,
)

honest_default : (column : Column) (o : Option Value) → Honest (value_or_default column o)
honest_default column (Some value) = tt
honest_default column None = honest_fitted column.kind column.default

honest_columns : (listed : List (ℕ × Value)) (number : ℕ) (columns : List Column) → AllHonest (column_values listed number columns)
honest_columns listed number [] = tt
honest_columns listed number (column ∷ columns) = (honest_default column _, honest_columns listed (suc number) columns)

honest_proposed : (insert : Insert) (trees : List Tree) → Honest (proposed_row insert trees)
honest_proposed insert trees =
    honest_if _ (all_values (listed_values insert.target.shape.columns insert.columns trees))
    (λ listed. honest_all (column_values listed 0 insert.target.shape.columns) (honest_columns listed 0 insert.target.shape.columns))
    (honest_all (listed_values insert.target.shape.columns insert.columns trees)
    (honest_listed insert.target.shape.columns insert.columns trees))

honest_insert : (insert : Insert) → Honest (insert_candidates insert)
honest_insert insert =
    honest_all _ (all_map _ insert.rows (λ trees. honest_with proposed_candidate (proposed_row insert trees) (honest_proposed insert trees)))

-- a SELECT, and the candidates of an UPDATE or DELETE
honest_passes : (condition : Option Tree) (partners : List SeenRow) → Honest (passes condition partners)
honest_passes None partners = tt
honest_passes (Some tree) partners = honest_with is_true (value_of tree (environment_of partners)) (honest_value tree (environment_of partners))

honest_passing : (condition : Option Tree) (all : List (List SeenRow)) → Honest (passing_combinations condition all)
honest_passing condition [] = tt
honest_passing condition (partners ∷ others) =
    at (passes condition partners) (honest_passes condition partners) (honest_passing condition others)
  where
    at : (r : Result Bool SqlError) → Honest r → Honest (passing_combinations condition others) →
        Honest (passing_before partners r (passing_combinations condition others))
    at (Err error) honest rest = honest
    at (Ok false) honest rest = rest
    at (Ok true) honest rest = honest_with _ (passing_combinations condition others) rest

honest_selected : (items : List Tree) (partners : List SeenRow) → Honest (selected_candidate items partners)
honest_selected items partners =
    honest_with _ (output_row items partners)
    (honest_all _ (all_map _ items (λ item. honest_value item (environment_of partners))))

pub honest_candidates : (own : Statement) (seen : List (List SeenRow)) → Honest (candidates_over own seen)
unfolding candidates_over
honest_candidates (statement.Select select) seen =
    honest_if _ (passing_combinations select.condition (combinations seen))
    (λ passed. honest_all _ (all_map (selected_candidate select.items) passed (honest_selected select.items)))
    (honest_passing select.condition (combinations seen))
honest_candidates (statement.Insert insert) seen = honest_insert insert
honest_candidates (statement.Change change) seen =
    honest_with (map unmade_candidate) (passing_combinations change.condition (combinations seen))
    (honest_passing change.condition (combinations seen))
honest_candidates statement.Begin seen = tt
honest_candidates statement.Commit seen = tt
honest_candidates statement.Rollback seen = tt

honest_assigned : (columns : List Column) (partners : List SeenRow) (assignment : Assignment) → Honest (assigned_value columns partners assignment)
honest_assigned columns partners assignment =
    honest_with _ (fitted_for columns assignment.column (value_of assignment.value (environment_of partners)))
    (honest_fitted_for columns assignment.column (value_of assignment.value (environment_of partners))
    (honest_value assignment.value (environment_of partners)))

honest_new : (given : Action) (columns : List Column) (partners : List SeenRow) → Honest (new_values_by given columns partners)
honest_new (action.Set assignments) columns partners =
    honest_with _ (all_values (map (assigned_value columns partners) assignments))
    (honest_all _ (all_map (assigned_value columns partners) assignments (honest_assigned columns partners)))
honest_new action.Delete columns partners = tt

-- a choice that is no deadlock
abbrev HonestChoice : Choice → Type 0
HonestChoice (does act) = Unit {0}
HonestChoice (waits other) = Unit {0}
HonestChoice (fails error) = IsNoDeadlock error

abbrev HonestChoices : List Choice → Type 0
HonestChoices [] = Unit {0}
HonestChoices (choice ∷ others) = HonestChoice choice × HonestChoices others

contained_honest : (cs : List Choice) (choice : Choice) → Contains cs choice → HonestChoices cs → HonestChoice choice
contained_honest cs choice contained all = at cs contained.0 contained.1 contained.2 all
  where
    at : (cs : List Choice) (k : ℕ) → k < length cs → get_or cs k choice ≡ choice → HonestChoices cs → HonestChoice choice
    at [] k within is all = absurd (omega (arith, within))
    at (one ∷ others) zero within is all = subst HonestChoice is all.0
    at (one ∷ others) (suc k) within is all = at others k (omega (arith, within)) is all.1

made_honest : {X : Type 0} (made : Result X SqlError) (behind : X → List Choice) → Honest made → ((x : X) → HonestChoices (behind x)) →
    HonestChoices (if_made made behind)
made_honest (Ok x) behind honest each = each x
made_honest (Err error) behind honest each = (honest, tt)

candidate_honest : (taken count : ℕ) → HonestChoices (candidate_choices taken count)
candidate_honest taken count = at (nat_lt taken count)
  where
    at : (b : Bool) → HonestChoices (cond b (does (entry.Found (taken + 1)) ∷ []) [])
    at true = (tt, tt)
    at false = tt

locking_honest : (number : ℕ) (table : TableView) (transactions : Transactions) (me : Me) (strength : Strength) (row : ℕ) →
    HonestChoices (locking_choices number table transactions me strength row)
locking_honest number table transactions me strength row =
    at (is_of_command me (newest (row_at table row)) || is_none (current_values transactions me.xact (row_at table row)))
    (blocker (locks_on table row) me.xact strength)
  where
    at : (b : Bool) (holder : Option ℕ) →
        HonestChoices (cond b (does entry.Passed ∷ []) (blocked_or_locked transactions number row strength holder))
    at true holder = (tt, tt)
    at false None = (tt, tt)
    at false (Some xact) = (tt, tt)

changing_honest : (change : Change) (partners : List SeenRow) → HonestChoices (changing_choices change partners)
changing_honest change partners =
    made_honest (new_values change partners) _ (honest_new change.action change.target.shape.columns partners) (λ values. (tt, tt))

second_honest : (change : Change) (partners : List SeenRow) → HonestChoices (second_look change partners)
second_honest change partners =
    made_honest (passes change.condition partners) _ (honest_passes change.condition partners) at
  where
    at : (passed : Bool) → HonestChoices (cond passed (changing_choices change partners) (does entry.Passed ∷ []))
    at true = changing_honest change partners
    at false = (tt, tt)

change_honest : (change : Change) (tables : List TableView) (transactions : Transactions) (running : Running) (count : ℕ) (stage : Stage) →
    HonestChoices (change_choices_at change tables transactions running count stage)
change_honest change tables transactions running count between = candidate_honest running.candidate count
change_honest change tables transactions running count found =
    made_honest (new_values change (partners_in running)) _
    (honest_new change.action change.target.shape.columns (partners_in running))
    (λ values. locking_honest change.target.table (table_at tables change.target.table) transactions running.me _ (target_row (partners_in running)))
change_honest change tables transactions running count (locked name) =
    at (is_as_seen name (partners_in running))
    (partners_locked (row_at (table_at tables change.target.table) (target_row (partners_in running))) name (partners_in running))
  where
    at : (b : Bool) (partners : List SeenRow) → HonestChoices (cond b (changing_choices change partners) (second_look change partners))
    at true partners = changing_honest change partners
    at false partners = second_honest change partners
change_honest change tables transactions running count (placed row) = tt

insert_honest : (number : ℕ) (tables : List TableView) (running : Running) (count : ℕ) (stage : Stage) →
    HonestChoices (insert_choices number tables running count stage)
insert_honest number tables running count between = candidate_honest running.candidate count
insert_honest number tables running count found = at (item_at tables number)
  where
    at : (o : Option TableView) → HonestChoices (placing_choices number o)
    at None = tt
    at (Some table) = (tt, tt)
insert_honest number tables running count (locked name) = tt
insert_honest number tables running count (placed row) = (tt, tt)

-- the error of a choice to fail is no deadlock
pub choice_honest : (own : Statement) (tables : List TableView) (transactions : Transactions) (running : Running) (error : SqlError) →
    Honest running.candidates → Contains (choices own tables transactions running) (fails error) → IsNoDeadlock error
choice_honest own tables transactions running error honest contained =
    contained_honest (choices own tables transactions running) (fails error) contained (by own running.candidates honest)
  where
    of_kind : (given : Statement) (candidates : List Candidate) → HonestChoices (choices_with given tables transactions running candidates)
    of_kind (statement.Insert insert) candidates = insert_honest insert.target.table tables running (length candidates) running.stage
    of_kind (statement.Change change) candidates = change_honest change tables transactions running (length candidates) running.stage
    of_kind (statement.Select select) candidates = tt
    of_kind statement.Begin candidates = tt
    of_kind statement.Commit candidates = tt
    of_kind statement.Rollback candidates = tt

    by : (given : Statement) (candidates : Result (List Candidate) SqlError) → Honest candidates →
        HonestChoices (choices_by given tables transactions running candidates)
    by given (Err error) honest = (honest, tt)
    by given (Ok candidates) honest = of_kind given candidates
