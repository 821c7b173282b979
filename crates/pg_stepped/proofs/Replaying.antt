-- The loop that replays a script: it makes one entry of the stepped order after the other.
use Rattle.std.proofs.Common.{◌≡◌, ◌<◌, ℕ, List, Some, None, refl, subst, sym}
use Rattle.pg_model.specs.declared.script.Script.{Script}
use Rattle.pg_model.specs.declared.journal.Entry.{Entry}
use Rattle.pg_world.specs.Worlds.{World}
use Rattle.pg_relation.specs.Journals.{IsComplete, IsLegal, world_after}
use Rattle.pg_relation.specs.Stepped.{IsStepped}
use Rattle.pg_relation.specs.Schedules.{next_session, settled_schedule}
use Rattle.pg_relation.specs.Runs.{StepsTo}
use Rattle.pg_relation.proofs.Runs.{entries_left, entries_fall, steps_to_first, steps_to_more, steps_stepped, steps_world, legal_stepped}
use Rattle.pg_relation.proofs.Complete.{steps_complete}
use Rattle.pg_board.specs.Board.{BoardView, HasMoved, first_board}

-- the board keeps the script, and has come so far by the stepped order
pub record IsOnWay (script : Script) (board : BoardView) : Type 0 where
  pub keeps : board.script ≡ script
  pub steps : StepsTo board.script board.journal board.world board.schedule

pub on_way_first : (script : Script) → IsOnWay script (first_board script)
on_way_first script = record { keeps = refl; steps = steps_to_first script }

-- how many entries are to come
abbrev pub turns_left : BoardView → ℕ
turns_left board = entries_left board.script board.world board.schedule

-- the board once lines were taken up to the next move
abbrev pub settled_board : BoardView → BoardView
settled_board board = record board { schedule = settled_schedule board.script board.world board.schedule }

-- one turn of the loop: the next entry is made
pub on_way_more : (script : Script) (old between new : BoardView) (session : ℕ) → IsOnWay script old →
    next_session old.script old.world old.schedule ≡ Some session → between ≡ settled_board old →
    HasMoved session between new → IsOnWay script new
on_way_more script old between new session way next is moved =
    let m = subst (λ b. HasMoved session b new) is moved in
    record {
      keeps = rw m.script way.keeps;
      steps = rw (m.script, m.journal) (steps_to_more old.script old.journal old.world new.world old.schedule new.schedule session m.act
          next m.first m.world m.schedule way.steps);
    }

-- and fewer are to come
pub turns_fall : (old between new : BoardView) (session : ℕ) →
    next_session old.script old.world old.schedule ≡ Some session → between ≡ settled_board old →
    HasMoved session between new → turns_left new < turns_left old
turns_fall old between new session next is moved =
    let m = subst (λ b. HasMoved session b new) is moved in
    rw m.script (entries_fall old.script old.world new.world old.schedule new.schedule session m.act next m.first m.world m.schedule)

-- a run of the script: its journal, and the world that it leaves
pub record IsRunTo (script : Script) (journal : List Entry) (world : World) : Type 0 where
  pub legal : IsLegal script journal
  pub complete : IsComplete script journal
  pub stepped : IsStepped script journal
  pub leaves : world ≡ world_after script journal

-- where no session moves next, the run is at its end
pub on_way_end : (script : Script) (old between : BoardView) → IsOnWay script old →
    next_session old.script old.world old.schedule ≡ None → between ≡ settled_board old →
    IsRunTo script between.journal between.world
on_way_end script old between way none is =
    subst (λ s. IsRunTo s between.journal between.world) way.keeps
    (subst (λ b. IsRunTo old.script b.journal b.world) (sym is)
    (let stepped = steps_stepped old.script old.journal old.world old.schedule way.steps in
    record {
      legal = legal_stepped old.script old.journal stepped;
      complete = steps_complete old.script old.journal old.world old.schedule way.steps none;
      stepped = stepped;
      leaves = steps_world old.script old.journal old.world old.schedule way.steps;
    }))
