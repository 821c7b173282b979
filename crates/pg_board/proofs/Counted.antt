-- The counts of the sessions are bounded in each world that a legal journal leaves, and so have room.
use Rattle.std.proofs.Common.{◌≡◌, ◌≤◌, ℕ, List, length, Option, Some, None, slice_get, slice_set, refl, sym, ap, ◌∙◌, arith}
use Rattle.std.specs.Prelude.{option_map}
use Rattle.std.proofs.lemmas.Option.{slice_get_within, slice_get-map}
use Rattle.pg_model.specs.declared.journal.Entry.{Entry}
use Rattle.pg_model.specs.declared.journal.EntryAct.{EntryAct}
use Rattle.pg_model.specs.declared.journal.EntryAct.TheVariants as entry
use Rattle.pg_model.specs.declared.script.Script.{Script}
use Rattle.pg_world.specs.declared.session.Progress.{Progress}
use Rattle.pg_world.specs.declared.session.Progress.TheVariants.{Idle as idle, Inside as inside, Ending as ending, Closed as closed}
use Rattle.pg_world.specs.declared.session.Running.{Running}
use Rattle.pg_world.specs.declared.session.SessionView.{SessionView}
use Rattle.pg_world.specs.Sessions.{fresh_session}
use Rattle.pg_world.specs.Worlds.{World}
use Rattle.pg_relation.specs.Effect.{act_effect, effect, with_running}
use Rattle.pg_relation.specs.Lines.{given_to, statement_at, statements_of}
use Rattle.pg_relation.specs.Moves.{IsPermitted}
use Rattle.pg_relation.specs.Needs.{Needs}
use Rattle.pg_relation.specs.Journals.{IsLegal, world_after}
use Rattle.pg_relation.specs.Setup.{first_world}
use Rattle.pg_relation.specs.Sound.{CanStand, IsSound}
use Rattle.pg_relation.specs.Weight.{statements_begun}
use Rattle.pg_relation.proofs.Acted.{acted, sessions_acted}
use Rattle.pg_relation.proofs.Journals.{holds_from}
use Rattle.pg_relation.proofs.Lists.{each_set}
use Rattle.pg_relation.proofs.Needs.{move_of}
use Rattle.pg_relation.proofs.Spares.{IsStable}
use Rattle.pg_board.specs.Counts.{AreCounted, IsCounted, Runs, RunsIn}
use Rattle.pg_board.proofs.Taken.{kept_bound}

-- after setup
pub counted_first : (script : Script) → AreCounted (first_world script)
counted_first script = record {
  each = λ session x is. fresh x (slice_get script.sessions session) (sym (slice_get-map (λ name. fresh_session) script.sessions session) ∙ is);
}
  where
    fresh : (x : SessionView) (name : Option (List ℕ)) → option_map (λ n. fresh_session) name ≡ Some x → IsCounted x
    fresh x None is = absurd (cc is)
    fresh x (Some name) is =
        let e : fresh_session ≡ x = cc is in
        rw (← e) (record { commands = omega arith })

-- a world in which one session stands otherwise
counted_step : (world new : World) (number : ℕ) (other : SessionView) → AreCounted world →
    new.sessions ≡ slice_set world.sessions number other → IsCounted other → AreCounted new
counted_step world new number other counted sessions own = record {
  each = rw sessions (each_set (λ j z. IsCounted z) world.sessions number other counted.each own);
}

pub begun_most : (progress : Progress) → statements_begun progress ≤ 1
begun_most idle = omega arith
begun_most (inside running) = omega arith
begun_most (ending given) = omega arith
begun_most closed = omega arith

module _ (script : Script) (world : World) (number : ℕ) (session : SessionView) (is : slice_get world.sessions number ≡ Some session) (counted : AreCounted world) where
  pub own : IsCounted session
  own = counted.each number session is

  -- a statement that goes on
  counted_on : (change : Running → Running) → IsCounted (with_running change session session.progress)
  counted_on change = at session.progress refl
    where
      at : (progress : Progress) → session.progress ≡ progress → IsCounted (with_running change session progress)
      at idle e = own
      at (inside running) e = let b = ap statements_begun e in record { commands = omega (arith, own.commands, b) }
      at (ending given) e = own
      at closed e = own

  -- the session behind each of its acts
  counted_acted : (act : EntryAct) → Needs script world number (statement_at script number session) session act →
      IsCounted (acted world number (statement_at script number session) session act)
  counted_acted (entry.Snapped commits) needs =
      let b = ap statements_begun needs.0.idle_is in record { commands = omega (arith, own.commands, b) }
  counted_acted (entry.Found candidate) needs = counted_on _
  counted_acted (entry.Placed table row) needs = counted_on _
  counted_acted (entry.Locked table row strength) needs = counted_on _
  counted_acted (entry.Inserted table row) needs = counted_on _
  counted_acted (entry.Updated table row) needs = counted_on _
  counted_acted (entry.Deleted table row) needs = counted_on _
  counted_acted entry.Passed needs = counted_on _
  counted_acted (entry.Waits other) needs = own
  counted_acted entry.Committed needs = record { commands = omega arith }
  counted_acted entry.RolledBack needs = record { commands = omega arith }
  counted_acted (entry.Replied reply) needs = record { commands = omega (arith, own.commands, begun_most session.progress) }
  counted_acted (entry.Failed error) needs = record { commands = omega arith }
  counted_acted entry.Closed needs = record { commands = omega arith }

  counted_act : (act : EntryAct) → Needs script world number (statement_at script number session) session act →
      AreCounted (act_effect world number (statement_at script number session) session act)
  counted_act act needs =
      counted_step world _ number (acted world number (statement_at script number session) session act) counted
      (sessions_acted world number (statement_at script number session) session act is) (counted_acted act needs)

  -- no more are answered than the script has lines
  pub answered_bound : IsSound script world → session.answered ≤ 1048576
  answered_bound sound =
      omega (
        arith,
        at session.progress (sound.standing number session is),
        kept_bound (λ line. given_to number line.content) script.lines,
        script.valid.few_lines,
      )
    where
      at : (progress : Progress) → CanStand (statements_of script number) session.answered progress →
          session.answered ≤ length (statements_of script number)
      at idle stands = stands
      at (inside running) stands = omega (arith, slice_get_within (statements_of script number) session.answered _ stands.1)
      at (ending given) stands = omega (arith, stands)
      at closed stands = omega (arith, stands)

  -- the open transaction runs
  pub runs : IsStable script world → Runs world session
  runs stable = at session.transaction refl
    where
      at : (transaction : Option ℕ) → session.transaction ≡ transaction → RunsIn world.transactions transaction
      at None e = tt
      at (Some xact) e = let h = ((stable.each number session is).owner xact e).0 in rw h refl

-- each permitted entry keeps the counts
pub counted_kept : (script : Script) (world : World) (entry : Entry) → AreCounted world → IsPermitted script world entry →
    AreCounted (effect script world entry)
counted_kept script world entry counted move =
    let m = move_of script world entry move in
    rw m.is (counted_act script world entry.session m.session m.is counted entry.act m.needs)

-- so they are in each world that a legal journal leaves
pub counted_after : (script : Script) (journal : List Entry) → IsLegal script journal → AreCounted (world_after script journal)
counted_after script journal legal =
    holds_from script (λ world. AreCounted world) (λ world entry counted move. counted_kept script world entry counted move)
    (first_world script) journal (counted_first script) legal
