-- What a step of a session makes of a server that stands for the world of a journal.
use Rattle.std.specs.Prelude.{ℕ, ◌≡◌, ◌+◌, ◌<◌, Bool, false, List, Option, None, Some}
use Rattle.std.specs.Option.{option_map_or}
use Rattle.pg_lists.specs.Numbered.{item_at}
use Rattle.pg_model.specs.declared.journal.Entry.{Entry}
use Rattle.pg_model.specs.declared.journal.EntryAct.{EntryAct}
use Rattle.pg_model.specs.declared.script.Script.{Script}
use Rattle.pg_world.specs.Worlds.{World}
use Rattle.pg_relation.specs.Effect.{effect}
use Rattle.pg_relation.specs.Journals.{IsLegal, world_after}
use Rattle.pg_relation.specs.Moves.{moves_of}
use Rattle.pg_relation.specs.Schedules.{is_closed}
use Rattle.pg_relation.specs.Stepped.{first_of_list}
use Rattle.pg_scans.specs.Readings.{HaveVersions}
use Rattle.pg_board.specs.declared.server.Server.{Server}
use Rattle.pg_board.specs.declared.session.Place.{Place}
use Rattle.pg_board.specs.declared.session.Place.TheVariants as place_of
use Rattle.pg_board.specs.Counts.{HasFew}
use Rattle.pg_board.specs.Machines.{machine_quiet}
use Rattle.pg_board.specs.Servers.{IsServerOf, kept_progress}

-- how many steps without an entry a session may still make before its next entry, where no table has
-- more than so many versions
abbrev pub place_quiet : ℕ → Place → ℕ
place_quiet most place_of.Idle = 0
place_quiet most (place_of.Inside machine) = machine_quiet most machine
place_quiet most (place_of.Ending tag) = 0
place_quiet most place_of.Closed = 0

-- for the session of that number
abbrev pub quiet_in : ℕ → Server → ℕ → ℕ
quiet_in most server number =
    option_map_or (λ session. place_quiet most session.place)
    (item_at server.sessions number) 0

-- the server stands for the world that a legal journal leaves
pub record IsServing (script : Script) (server : Server) : Type 0 where
  pub journal : List Entry
  pub legal : IsLegal script journal
  pub serves : IsServerOf script server (world_after script journal)

-- the session has made the first of its moves, which draws no more than one version
pub record HasActed (script : Script) (number : ℕ) (world : World) (old new : Server)
    (act : EntryAct) : Type 0 where
  pub first : first_of_list (moves_of script world number) ≡ Some act
  pub serves : IsServerOf script new
      (effect script world (record { session = number; act = act }))
  pub few : (most : ℕ) → HasFew most old → HasFew (most + 1) new

-- the session has come nearer to its next entry, and nothing of the world has changed
pub record HasReadOn (script : Script) (number : ℕ) (world : World) (old new : Server) :
    Type 0 where
  pub serves : IsServerOf script new world
  pub fewer : (most : ℕ) → HaveVersions most old.tables →
      quiet_in most new number < quiet_in most old number
  pub others : (most other : ℕ) → (other ≡ number → ⊥) →
      quiet_in most new other ≡ quiet_in most old other
  pub few : (most : ℕ) → HasFew most old → HasFew most new

-- what a step comes to in the world that the server stands for
abbrev pub IsStepIn : Script → ℕ → World → Server → Server → Option EntryAct → Type 0
IsStepIn script number world old new None = HasReadOn script number world old new
IsStepIn script number world old new (Some act) = HasActed script number world old new act

-- the session of that number has ended
abbrev pub stands_at_end : Server → ℕ → Bool
stands_at_end server number =
    option_map_or (λ session. is_closed (kept_progress session.place))
    (item_at server.sessions number) false
