-- A session: its block, its open transaction, and how far its statement has come.
use Rattle.std.specs.Prelude.{ℕ, List, [], Option, None}
use Rattle.pg_xacts.specs.declared.me.Me.{Me}
use Rattle.pg_world.specs.declared.candidate.Candidate.{Candidate}
use Rattle.pg_world.specs.declared.session.Block.TheVariants.{NoBlock as no_block}
use Rattle.pg_world.specs.declared.session.Stage.TheVariants.{Between as between}
use Rattle.pg_world.specs.declared.session.Running.{Running}
use Rattle.pg_world.specs.declared.session.Progress.TheVariants.{Idle as idle}
use Rattle.pg_world.specs.declared.session.SessionView.{SessionView}
use Rattle.pg_world.specs.Evaluation.{OrError}

-- a session before its first line
abbrev pub fresh_session : SessionView
fresh_session =
    record { answered = 0; block = no_block; transaction = None; command = 0; progress = idle }

-- a statement that has just taken its snapshot
abbrev pub first_running : Me → ℕ → OrError (List Candidate) → Running
first_running me commits candidates =
    record {
      me = me;
      snapshot = commits;
      candidates = candidates;
      candidate = 0;
      stage = between;
      acts = 0;
      output = [];
    }
