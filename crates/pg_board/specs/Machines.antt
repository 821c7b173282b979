-- What a step of a machine comes to.
use Rattle.std.specs.Prelude.{ℕ, ◌≡◌, ◌<◌, ◌≤◌, ◌⊎◌, Bool, true, false, List, [], ◌∷◌, map, None}
use Rattle.pg_xacts.specs.Transactions.{Transactions}
use Rattle.pg_model.specs.declared.journal.EntryAct.{EntryAct}
use Rattle.pg_model.specs.declared.statement.Statement.{Statement}
use Rattle.pg_model.specs.declared.statement.Statement.TheVariants as statement
use Rattle.pg_world.specs.Candidates.{candidates_of}
use Rattle.pg_world.specs.Choices.{choices}
use Rattle.pg_world.specs.Choosing.{Choice, does, fails, waits}
use Rattle.pg_world.specs.Worlds.{until_end}
use Rattle.pg_world.specs.declared.session.Running.{Running}
use Rattle.pg_plans.specs.declared.act.Act.{Act}
use Rattle.pg_plans.specs.declared.act.Act.TheVariants as act_of
use Rattle.pg_table.specs.States.{TableState, table_shown}
use Rattle.pg_relation.specs.Running.{running_after_act}
use Rattle.pg_scans.specs.Readings.{HaveVersions}
use Rattle.pg_insert.specs.Steps.{tables_after_act as tables_after_insert}
use Rattle.pg_select.specs.Steps.{quiet_left as select_quiet}
use Rattle.pg_update.specs.Steps.{HasStaged, IsStagedFor, quiet_left as change_quiet, staged_after_act, tables_after_act as tables_after_change}
use Rattle.pg_board.specs.declared.session.Machine.{Machine}
use Rattle.pg_board.specs.declared.session.Machine.TheVariants as machine_of
use Rattle.pg_board.specs.Counts.{machine_draws}
use Rattle.pg_board.specs.Servers.{IsMachineOf, IsOfKind, has_staged, reading_of, running_of}

-- the machine holds its candidates, or their first error
abbrev pub IsPlanned : Machine → Type 0
IsPlanned machine = reading_of machine ≡ None

-- what a machine may do next in the world that the tables show
abbrev pub machine_choices : Statement → List TableState → Transactions → Machine → List Choice
machine_choices given tables transactions machine =
    choices given (map table_shown tables) transactions (running_of machine)

-- the tables behind an act of a machine
abbrev pub tables_behind : Machine → EntryAct → List TableState → List TableState
tables_behind (machine_of.Insert insert) act tables = tables_after_insert act insert tables
tables_behind (machine_of.Select select) act tables = tables
tables_behind (machine_of.Change change) act tables =
    tables_after_change change.running.me act tables

-- the machine has done its only choice
pub record DoesEntry (given : Statement) (transactions : Transactions) (tables after : List TableState)
    (machine behind : Machine) (act : EntryAct) : Type 0 where
  pub planned : IsPlanned machine
  pub choice : machine_choices given tables transactions machine ≡ does act ∷ []
  pub kind : IsOfKind behind given
  pub stays : IsPlanned behind
  pub running : running_of behind
      ≡ running_after_act (map table_shown tables) transactions act (running_of machine)
  pub staged : has_staged behind ≡ staged_after_act act (has_staged machine)
  pub written : IsStagedFor act (has_staged machine)
  pub tables_are : after ≡ tables_behind machine act tables

-- how many steps without an entry a machine may still make before its next entry, where no table has
-- more than so many versions
abbrev pub machine_quiet : ℕ → Machine → ℕ
machine_quiet most (machine_of.Insert insert) = 0
machine_quiet most (machine_of.Select select) = select_quiet most select
machine_quiet most (machine_of.Change change) = change_quiet most change

-- an UPDATE has staged the new values of the row that it has locked
abbrev pub IsStaging : Statement → List TableState → Transactions → Machine → Machine →
    List TableState → Type 0
IsStaging (statement.Change change) tables transactions (machine_of.Change machine)
    (machine_of.Change behind) after =
    (machine.reading ≡ None) × HasStaged change tables transactions machine behind after
IsStaging _ tables transactions machine behind after = ⊥

-- a machine that reads its tables has read on, or has its candidates: no table has changed, nothing is
-- staged, and it may draw no more versions than before
pub record HasRead (tables after : List TableState) (machine behind : Machine) : Type 0 where
  pub reads : IsPlanned machine → ⊥
  pub tables_are : after ≡ tables
  pub staged : has_staged behind ≡ has_staged machine
  pub draws : machine_draws behind ≤ machine_draws machine

-- the machine has come nearer to its next entry, whatever candidates its statement will have
pub record GoesOn (given : Statement) (transactions : Transactions) (tables after : List TableState)
    (machine behind : Machine) : Type 0 where
  pub stands : (shown : Running) →
      candidates_of given (map table_shown tables) transactions shown.snapshot shown.me
      ≡ shown.candidates →
      IsMachineOf tables transactions given machine shown →
      IsMachineOf after transactions given behind shown
  pub fewer : (most : ℕ) → HaveVersions most tables →
      machine_quiet most behind < machine_quiet most machine
  pub reached : HasRead tables after machine behind
      ⊎ IsStaging given tables transactions machine behind after

-- with these answers nothing has changed
abbrev pub is_still : Act → Bool
is_still (act_of.Entry act) = false
is_still act_of.Quiet = false
is_still (act_of.Blocked on) = true
is_still (act_of.Failed error) = true
is_still act_of.Done = true
is_still act_of.Memory = true

-- the machine and the tables behind its step
abbrev pub IsMachineStep : Statement → Transactions → List TableState → List TableState →
    Machine → Machine → Act → Type 0
IsMachineStep given transactions tables after machine behind (act_of.Entry act) =
    DoesEntry given transactions tables after machine behind act
IsMachineStep given transactions tables after machine behind act_of.Quiet =
    GoesOn given transactions tables after machine behind
IsMachineStep given transactions tables after machine behind (act_of.Blocked on) =
    (after ≡ tables) × (behind ≡ machine) × IsPlanned machine
    × (machine_choices given tables transactions machine ≡ waits on.session ∷ [])
    × (on ≡ until_end on.session)
IsMachineStep given transactions tables after machine behind (act_of.Failed error) =
    (after ≡ tables) × (behind ≡ machine) × IsPlanned machine
    × (machine_choices given tables transactions machine ≡ fails error ∷ [])
IsMachineStep given transactions tables after machine behind act_of.Done =
    (after ≡ tables) × (behind ≡ machine) × IsPlanned machine
    × (machine_choices given tables transactions machine ≡ [])
IsMachineStep given transactions tables after machine behind act_of.Memory =
    (after ≡ tables) × (behind ≡ machine)
