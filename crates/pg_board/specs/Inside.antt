-- What a step of a session inside a statement comes to.
use Rattle.std.specs.Prelude.{ℕ, ◌≡◌, ◌≢◌, ◌<◌, ◌∷◌, ◌⊎◌, Bool, true, false, [], length, Option, None, Some, Ok}
use Rattle.pg_lists.specs.Numbered.{item_at}
use Rattle.pg_model.specs.declared.error.SqlError.{SqlError}
use Rattle.pg_model.specs.declared.journal.EntryAct.{EntryAct}
use Rattle.pg_model.specs.declared.journal.EntryAct.TheVariants as entry
use Rattle.pg_model.specs.declared.statement.Statement.{Statement}
use Rattle.pg_model.specs.declared.script.Script.{Script}
use Rattle.pg_relation.specs.Moves.{done_moves, waiting_act}
use Rattle.pg_relation.specs.Stepped.{first_of_list}
use Rattle.pg_waits.specs.Chains.{ring_of}
use Rattle.pg_waits.specs.Slots.{waits_for}
use Rattle.pg_xacts.specs.declared.on.On.{On}
use Rattle.pg_world.specs.Choosing.{fails, waits}
use Rattle.pg_world.specs.Worlds.{until_end}
use Rattle.pg_world.specs.Evaluation.{OrError}
use Rattle.pg_world.specs.Replies.{reply_of}
use Rattle.pg_world.specs.declared.session.Block.{Block}
use Rattle.pg_world.specs.declared.session.Block.TheVariants.{NoBlock as no_block}
use Rattle.pg_plans.specs.declared.act.Act.{Act}
use Rattle.pg_plans.specs.declared.act.Act.TheVariants as act_of
use Rattle.pg_board.specs.declared.server.Server.{Server}
use Rattle.pg_board.specs.declared.session.Machine.{Machine}
use Rattle.pg_board.specs.declared.session.Place.{Place}
use Rattle.pg_board.specs.declared.session.Place.TheVariants as place_of
use Rattle.pg_board.specs.declared.session.Session.{Session}
use Rattle.pg_board.specs.Kept.{act_kept, server_failed, with_kept}
use Rattle.pg_board.specs.Machines.{IsMachineStep, IsPlanned, machine_choices}
use Rattle.pg_board.specs.Servers.{IsReady, running_of}

-- the session is inside a statement
abbrev pub IsInside : Place → Type 0
IsInside (place_of.Inside machine) = Unit {0}
IsInside _ = ⊥

-- so is the session of that number
abbrev pub IsInsideAt : Server → ℕ → Type 0
IsInsideAt server number =
    (session : Session) → item_at server.sessions number ≡ Some session → IsInside session.place

-- the machine of the session of that number can make a step for the statement
abbrev pub CanRunAt : Server → ℕ → Statement → Type 0
CanRunAt server number own =
    (session : Session) (machine : Machine) → item_at server.sessions number ≡ Some session →
    session.place ≡ place_of.Inside machine → IsReady server.tables server.xacts own machine

-- the session can ask for that wait, for the end of a transaction: both are sessions, and it waits for
-- none
pub record CanWait (server : Server) (number : ℕ) (on : On) : Type 0 where
  pub mine : number < length server.waits
  pub other : on.session < length server.waits
  pub free : waits_for server.waits number ≡ None
  pub apart : number ≢ on.session
  pub until_is : on ≡ until_end on.session

-- so it can where its machine would wait
abbrev pub CanWaitAt : Server → ℕ → Statement → Type 0
CanWaitAt server number own =
    (session : Session) (machine : Machine) (other : ℕ) →
    item_at server.sessions number ≡ Some session →
    session.place ≡ place_of.Inside machine → IsPlanned machine →
    machine_choices own server.tables server.xacts machine ≡ waits other ∷ [] →
    CanWait server number (until_end other)

-- the machine of the session has made its step
pub record HasRun (old new : Server) (number : ℕ) (own : Statement) (session : Session) (act : Act) :
    Type 0 where
  pub machine : Machine
  pub behind : Machine
  pub inside : session.place ≡ place_of.Inside machine
  pub step : IsMachineStep own old.xacts old.tables new.tables machine behind act
  pub new_is : new ≡ with_kept (record old { tables = new.tables }) number
      (record session { place = place_of.Inside behind })

-- the statement is done, and its transaction has committed or it has its reply
pub record HasFinished (old new : Server) (number : ℕ) (own : Statement) (session : Session)
    (act : EntryAct) : Type 0 where
  pub machine : Machine
  pub inside : session.place ≡ place_of.Inside machine
  pub planned : IsPlanned machine
  pub done : machine_choices own old.tables old.xacts machine ≡ []
  pub first : first_of_list (done_moves session.block session.transaction
      (reply_of own (running_of machine))) ≡ Some act
  pub new_is : new ≡ act_kept old number (Some (Ok own)) session act

-- the statement has failed with the first error of its candidates
pub record HasFailed (old new : Server) (number : ℕ) (own : Statement) (session : Session)
    (act : EntryAct) : Type 0 where
  pub machine : Machine
  pub error : SqlError
  pub inside : session.place ≡ place_of.Inside machine
  pub planned : IsPlanned machine
  pub choice : machine_choices own old.tables old.xacts machine ≡ fails error ∷ []
  pub act_is : act ≡ entry.Failed error
  pub new_is : new ≡ server_failed old number session

-- the statement had to wait for a session: it waits, or has failed with the cycle of waits that this
-- one would close
pub record HasBlocked (script : Script) (old new : Server) (number : ℕ) (own : Statement)
    (session : Session) (act : EntryAct) : Type 0 where
  pub machine : Machine
  pub other : ℕ
  pub inside : session.place ≡ place_of.Inside machine
  pub planned : IsPlanned machine
  pub choice : machine_choices own old.tables old.xacts machine ≡ waits other ∷ []
  pub act_is : act ≡ waiting_act script other (ring_of old.waits number other)
  pub new_is : new ≡ act_kept old number (Some (Ok own)) session act

-- the statement is done, has failed, or had to wait
abbrev pub HasStopped : Script → Server → Server → ℕ → Statement → Session → EntryAct → Type 0
HasStopped script old new number own session act =
    HasFinished old new number own session act
    ⊎ (HasFailed old new number own session act
    ⊎ HasBlocked script old new number own session act)

-- the session has made an act, or a step without an entry
abbrev pub IsInsideStep : Script → Server → Server → ℕ → Statement → Session →
    Option EntryAct → Type 0
IsInsideStep script old new number own session None =
    HasRun old new number own session act_of.Quiet
IsInsideStep script old new number own session (Some act) =
    HasRun old new number own session (act_of.Entry act)
    ⊎ HasStopped script old new number own session act

-- a statement that is done commits before its reply outside a block, where a transaction is open
abbrev pub commits_first : Block → Option ℕ → Bool
commits_first no_block (Some xact) = true
commits_first _ _ = false

-- whether that is so
abbrev pub is_place_inside : Place → Bool
is_place_inside (place_of.Inside machine) = true
is_place_inside _ = false

-- a statement is given, and no error
abbrev pub GivesStatement : Option (OrError Statement) → Type 0
GivesStatement given = (own : Statement) × (given ≡ Some (Ok own))

-- the session is inside the statement that is given, and its machine can make a step
pub record CanRunGiven (server : Server) (number : ℕ) (given : Option (OrError Statement)) :
    Type 0 where
  pub gives : GivesStatement given
  pub inside : IsInsideAt server number
  pub runs : CanRunAt server number gives.0
  pub waits : CanWaitAt server number gives.0
