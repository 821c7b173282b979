-- UPDATE and DELETE: what the target's row is to hold, and what is done with a candidate.
use Rattle.std.specs.Prelude.{ℕ, suc, nat_eq, ◌&&◌, ◌||◌, Bool, true, false, if◌then◌else◌, List, [], ◌∷◌, map, Option, None, Some, Ok, Err, is_none, unwrap_or}
use Rattle.std.specs.Map.{lookup}
use Rattle.std.specs.Option.{option_map_or}
use Rattle.pg_lists.specs.Numbered.{item_at, nth_item}
use Rattle.pg_multi.specs.declared.strength.Strength.{Strength}
use Rattle.pg_multi.specs.declared.strength.Strength.TheVariants.{NoKeyUpdate, Update}
use Rattle.pg_multi.specs.Locks.{blocker}
use Rattle.pg_values.specs.declared.value.Value.{Value}
use Rattle.pg_xacts.specs.declared.me.Me.{Me}
use Rattle.pg_xacts.specs.Transactions.{Transactions, beginner_of}
use Rattle.pg_heap.specs.declared.row.Row.{Row}
use Rattle.pg_heap.specs.declared.version.Version.{Version}
use Rattle.pg_heap.specs.Current.{current, current_values, newest}
use Rattle.pg_heap.specs.Rows.{row_of, is_written_by, version_by}
use Rattle.pg_model.specs.declared.catalogue.Column.{Column}
use Rattle.pg_model.specs.declared.journal.EntryAct.{EntryAct}
use Rattle.pg_model.specs.declared.journal.EntryAct.TheVariants as entry
use Rattle.pg_model.specs.declared.statement.Action.{Action}
use Rattle.pg_model.specs.declared.statement.Action.TheVariants as action
use Rattle.pg_model.specs.declared.statement.Assignment.{Assignment}
use Rattle.pg_model.specs.declared.statement.Change.{Change}
use Rattle.pg_world.specs.declared.candidate.SeenRow.{SeenRow}
use Rattle.pg_world.specs.declared.session.Running.{Running}
use Rattle.pg_world.specs.declared.session.Stage.{Stage}
use Rattle.pg_world.specs.declared.session.Stage.TheVariants.{Between as between, Found as found, Locked as locked, Placed as placed}
use Rattle.pg_world.specs.declared.session.VersionName.{VersionName}
use Rattle.pg_world.specs.declared.table.TableView.{TableView}
use Rattle.pg_world.specs.Candidates.{environment_of, fitted_for, passes, row_values}
use Rattle.pg_world.specs.Choosing.{Choice, candidate_choices, does, if_made, waits}
use Rattle.pg_world.specs.Evaluation.{OrError, all_values, value_of, with_value}
use Rattle.pg_world.specs.Replies.{candidate_list}
use Rattle.pg_world.specs.Tables.{empty_table, locks_on}

-- the target's row

-- the row of the target of which a candidate is made: the first
abbrev pub target_row : List SeenRow → ℕ
target_row [] = 0
target_row (target ∷ sources) = target.row

-- the values of the target's version
abbrev pub target_values : List SeenRow → List Value
target_values [] = []
target_values (target ∷ sources) = row_values target

-- the target's row with another of its versions; the rows of the sources stay
abbrev pub with_target_version : Version → List SeenRow → List SeenRow
with_target_version version [] = []
with_target_version version (target ∷ sources) = record target { version = version } ∷ sources

-- what the row is to hold

-- the value of a SET, fitted to its column, with the number of that
abbrev pub assigned_value : List Column → List SeenRow → Assignment → OrError (ℕ × Value)
assigned_value columns partners assignment =
    with_value (λ value. (assignment.column, value))
    (fitted_for columns assignment.column (value_of assignment.value (environment_of partners)))

-- the values of a row, of which the first is of the column of that number, with those that are
-- assigned
abbrev pub with_assigned : List (ℕ × Value) → ℕ → List Value → List Value
with_assigned assigned number [] = []
with_assigned assigned number (value ∷ values) =
    unwrap_or (lookup (nat_eq number) assigned) value ∷ with_assigned assigned (suc number) values

-- what the target's row is to hold: for an UPDATE the values that SET gives, evaluated in the order
-- written, and the others as they were; for a DELETE none
abbrev pub new_values_by : Action → List Column → List SeenRow → OrError (Option (List Value))
new_values_by (action.Set assignments) columns partners =
    with_value (λ assigned. Some (with_assigned assigned 0 (target_values partners)))
    (all_values (map (assigned_value columns partners) assignments))
new_values_by action.Delete columns partners = Ok None

-- the same, for the statement over these rows of its target and its sources
abbrev pub new_values : Change → List SeenRow → OrError (Option (List Value))
new_values change partners = new_values_by change.action change.target.shape.columns partners

-- the strength at which a row is locked: a DELETE takes the strongest, and an UPDATE, which changes
-- no column of a unique index, leaves room for KEY SHARE
abbrev pub change_strength : Action → Strength
change_strength (action.Set assignments) = NoKeyUpdate
change_strength action.Delete = Update

-- what a candidate stands on

-- the table of that number; where there is none it has no rows
abbrev pub table_at : List TableView → ℕ → TableView
table_at tables number = unwrap_or (item_at tables number) empty_table

-- the row of that number; one that was not drawn is gone
abbrev pub row_at : TableView → ℕ → Row
row_at table number = unwrap_or (row_of table.rows number) (record { number = number; versions = [] })

-- the rows of which the candidate is made that a statement has taken up last
abbrev pub partners_in : Running → List SeenRow
partners_in running =
    option_map_or (λ candidate. candidate.partners)
    (nth_item (candidate_list running.candidates) running.candidate) []

-- the name of a version
abbrev pub name_of : Version → VersionName
name_of version = record { writer = version.writer; command = version.command }

-- the rows of which a candidate is made, with the version of its target's row that has that name
abbrev pub partners_locked : Row → VersionName → List SeenRow → List SeenRow
partners_locked row name partners =
    option_map_or (λ version. with_target_version version partners)
    (version_by name.writer name.command row) partners

-- and those on which the candidate taken up last is decided: with the version that was current when
-- its row was locked, and before that as they were seen
abbrev pub partners_at : Stage → Row → List SeenRow → List SeenRow
partners_at (locked name) row partners = partners_locked row name partners
partners_at between row partners = partners
partners_at found row partners = partners
partners_at (placed number) row partners = partners

-- what is done with a candidate

-- whether that command wrote the version
abbrev pub is_of_command : Me → Option Version → Bool
is_of_command me None = false
is_of_command me (Some version) =
    is_written_by me.xact version && nat_eq version.command me.command

-- a row on which another transaction holds a lock that conflicts is waited for, and else it is locked
abbrev pub blocked_or_locked : Transactions → ℕ → ℕ → Strength → Option ℕ → List Choice
blocked_or_locked transactions table row strength (Some xact) =
    waits (unwrap_or (beginner_of transactions xact) 0) ∷ []
blocked_or_locked transactions table row strength None =
    does (entry.Locked table row strength) ∷ []

-- the candidate is passed where this command has changed the row already, or the row is gone
abbrev pub locking_choices : ℕ → TableView → Transactions → Me → Strength → ℕ → List Choice
locking_choices number table transactions me strength row =
    if is_of_command me (newest (row_at table row))
    || is_none (current_values transactions me.xact (row_at table row)) then does entry.Passed ∷ []
    else
    blocked_or_locked transactions number row strength
    (blocker (locks_on table row) me.xact strength)

-- a candidate that is found: what the row would hold is evaluated on the version seen, and its error
-- comes before any lock
abbrev pub found_choices : Change → List TableView → Transactions → Me → List SeenRow → List Choice
found_choices change tables transactions me partners =
    if_made (new_values change partners)
    (λ values.
    locking_choices change.target.table (table_at tables change.target.table) transactions me
    (change_strength change.action) (target_row partners))

-- the act on a row by what it is to hold
abbrev pub act_on : ℕ → ℕ → Option (List Value) → EntryAct
act_on table row (Some values) = entry.Updated table row
act_on table row None = entry.Deleted table row

-- the row is changed, on these versions
abbrev pub changing_choices : Change → List SeenRow → List Choice
changing_choices change partners =
    if_made (new_values change partners)
    (λ values. does (act_on change.target.table (target_row partners) values) ∷ [])

-- the condition is looked at again, on these versions: where it is not true the candidate is passed,
-- and the row stays locked
abbrev pub second_look : Change → List SeenRow → List Choice
second_look change partners =
    if_made (passes change.condition partners)
    (λ passed. if passed then changing_choices change partners else does entry.Passed ∷ [])

-- whether the version of that name is the one that was seen of the target's row
abbrev pub is_as_seen : VersionName → List SeenRow → Bool
is_as_seen name [] = true
is_as_seen name (target ∷ sources) =
    nat_eq name.writer target.version.writer && nat_eq name.command target.version.command

-- a candidate whose row is locked: it is looked at again where the version locked is not the one seen
abbrev pub locked_choices : Change → Row → VersionName → List SeenRow → List Choice
locked_choices change row name partners =
    if is_as_seen name partners then changing_choices change (partners_locked row name partners)
    else second_look change (partners_locked row name partners)

-- an UPDATE or DELETE takes up each candidate, locks its row, and changes it
abbrev pub change_choices_at : Change → List TableView → Transactions → Running → ℕ → Stage →
    List Choice
change_choices_at change tables transactions running count between =
    candidate_choices running.candidate count
change_choices_at change tables transactions running count found =
    found_choices change tables transactions running.me (partners_in running)
change_choices_at change tables transactions running count (locked name) =
    locked_choices change
    (row_at (table_at tables change.target.table) (target_row (partners_in running))) name
    (partners_in running)
change_choices_at change tables transactions running count (placed row) = []

-- what the row of the candidate taken up last is to hold now
abbrev pub values_to_hold : Change → List TableView → Running → OrError (Option (List Value))
values_to_hold change tables running =
    new_values change
    (partners_at running.stage
    (row_at (table_at tables change.target.table) (target_row (partners_in running)))
    (partners_in running))

-- the version of a row that is current for a transaction, by its name; where there is none the row
-- is gone, and is not locked
abbrev pub current_name : Transactions → ℕ → Row → VersionName
current_name transactions xact row =
    option_map_or name_of (current transactions xact row) (record { writer = 0; command = 0 })
