-- What holds of the parts of a board.
use Rattle.std.specs.Prelude.{ℕ, ◌≤◌, List, length}
use Rattle.pg_model.specs.declared.script.Script.{Script}
use Rattle.pg_model.specs.declared.journal.Entry.{Entry}
use Rattle.pg_relation.specs.Journals.{IsLegal, world_after}
use Rattle.pg_board.specs.declared.queues.Queue.{Queue}
use Rattle.pg_board.specs.declared.server.Server.{Server}
use Rattle.pg_board.specs.Counts.{HasFew, most_versions}
use Rattle.pg_board.specs.Faults.{IsSetUp}
use Rattle.pg_board.specs.Queues.{AreQueues}
use Rattle.pg_board.specs.Servers.{IsServerOf}

-- setup raised no error, the journal is legal, the server stands for the world that it leaves, and
-- the queues are those of the script
pub record IsTied (script : Script) (journal : List Entry) (server : Server) (waiting : List Queue)
    (count : ℕ) : Type 0 where
  pub set_up : IsSetUp script
  pub legal : IsLegal script journal
  pub serves : IsServerOf script server (world_after script journal)
  pub queues : AreQueues script count waiting
  pub taken : count ≤ length script.lines
  pub few : HasFew (most_versions script journal) server
