-- A session that has not ended and does not wait has a move.
use Rattle.std.proofs.Common.{◌≡◌, ◌<◌, ℕ, Bool, true, false, List, [], ◌∷◌, length, Option, Some, None, slice_get, refl, sym, ap, ◌∙◌, arith}
use Rattle.std.specs.Prelude.{Result, Ok, Err}
use Rattle.std.specs.Option.{option_map_or}
use Rattle.std.proofs.lemmas.Option.{slice_get_within}
use Rattle.pg_xacts.specs.declared.on.On.{On}
use Rattle.pg_waits.specs.Slots.{wait_of}
use Rattle.pg_model.specs.declared.error.SqlError.{SqlError}
use Rattle.pg_model.specs.declared.journal.EntryAct.{EntryAct}
use Rattle.pg_model.specs.declared.journal.Reply.{Reply}
use Rattle.pg_model.specs.declared.script.Script.{Script}
use Rattle.pg_model.specs.declared.statement.Statement.{Statement}
use Rattle.pg_model.specs.declared.statement.Statement.TheVariants as statement
use Rattle.pg_world.specs.Choices.{choices}
use Rattle.pg_world.specs.Choosing.{Choice}
use Rattle.pg_world.specs.Replies.{reply_of}
use Rattle.pg_world.specs.declared.session.Block.{Block}
use Rattle.pg_world.specs.declared.session.Progress.{Progress}
use Rattle.pg_world.specs.declared.session.SessionView.{SessionView}
use Rattle.pg_world.specs.declared.session.Block.TheVariants.{NoBlock as no_block, OpenBlock as open_block, FailedBlock as failed_block}
use Rattle.pg_world.specs.declared.session.Progress.TheVariants.{Idle as idle, Inside as inside, Ending as ending, Closed as closed}
use Rattle.pg_world.specs.Worlds.{World}
use Rattle.pg_relation.specs.Lines.{statements_of, statement_at}
use Rattle.pg_relation.specs.Moves.{act_of, ends_block, commit_moves, rollback_moves, beginning_moves, block_moves, done_moves, chosen_or_done, session_moves, moves_of}
use Rattle.pg_relation.specs.Stepped.{first_of_list}
use Rattle.pg_relation.specs.Sound.{CanStand, IsSound}
use Rattle.pg_relation.proofs.Lists.{slice_get_some}

-- a list of moves that is not empty
pub record HasFirst (moves : List EntryAct) : Type 0 where
  pub act : EntryAct
  pub first : first_of_list moves ≡ Some act

one_first : (act : EntryAct) → HasFirst (act ∷ [])
one_first act = record { act = act; first = refl }

commit_first : (block : Block) (transaction : Option ℕ) → HasFirst (commit_moves block transaction)
commit_first block (Some xact) = one_first _
commit_first block None = one_first _

rollback_first : (transaction : Option ℕ) → HasFirst (rollback_moves transaction)
rollback_first (Some xact) = one_first _
rollback_first None = one_first _

beginning_first : (world : World) (session : SessionView) (given : Result Statement SqlError) →
    HasFirst (beginning_moves world session given)
beginning_first world session (Ok statement.Begin) = one_first _
beginning_first world session (Ok statement.Commit) = commit_first session.block session.transaction
beginning_first world session (Ok statement.Rollback) = rollback_first session.transaction
beginning_first world session (Ok (statement.Select select)) = one_first _
beginning_first world session (Ok (statement.Insert insert)) = one_first _
beginning_first world session (Ok (statement.Change change)) = one_first _
beginning_first world session (Err error) = one_first _

block_first : (world : World) (session : SessionView) (given : Result Statement SqlError) (block : Block) (ends : Bool) →
    HasFirst (block_moves world session given block ends)
block_first world session given failed_block false = one_first _
block_first world session given failed_block true = beginning_first world session given
block_first world session given no_block ends = beginning_first world session given
block_first world session given open_block ends = beginning_first world session given

done_first : (block : Block) (transaction : Option ℕ) (reply : Reply) → HasFirst (done_moves block transaction reply)
done_first no_block (Some xact) reply = one_first _
done_first no_block None reply = one_first _
done_first open_block transaction reply = one_first _
done_first failed_block transaction reply = one_first _

chosen_first : (act : Choice → EntryAct) (given : List Choice) (done : List EntryAct) → HasFirst done →
    HasFirst (chosen_or_done act given done)
chosen_first act [] done first = first
chosen_first act (choice ∷ others) done first = record { act = _; first = refl }

-- a session whose wait does not stand has an empty slot, where there are as many slots as sessions
pub free_slot : (slots : List (Option On)) (number : ℕ) → number < length slots → wait_of slots number ≡ None →
    slice_get slots number ≡ Some None
free_slot slots number within free = let slot = slice_get_some slots number within in at slot.0 slot.1
  where
    at : (slot : Option On) → slice_get slots number ≡ Some slot → slice_get slots number ≡ Some None
    at None is = is
    at (Some on) is = absurd (let e : Some on ≡ None = sym (ap (λ o. option_map_or (λ x. x) o None) is) ∙ free in cc e)

-- a session that has not ended and whose wait does not stand has a move
pub first_move : (script : Script) (world : World) (number : ℕ) (session : SessionView) → IsSound script world →
    slice_get world.sessions number ≡ Some session → (session.progress ≡ closed → ⊥) → wait_of world.waits number ≡ None →
    HasFirst (moves_of script world number)
first_move script world number session sound is unended free =
    rw is (rw (free_slot world.waits number (omega (arith, sound.sessions, sound.waits, slice_get_within world.sessions number session is)) free)
    (at (statement_at script number session) refl session.progress refl (sound.standing number session is)))
  where
    at : (given : Option (Result Statement SqlError)) → statement_at script number session ≡ given →
        (progress : Progress) → session.progress ≡ progress →
        CanStand (statements_of script number) session.answered progress →
        HasFirst (session_moves script world number session given progress)
    at (Some given) given_is idle p stands = block_first world session given session.block (ends_block given)
    at None given_is idle p stands = one_first _
    at given given_is (inside running) p stands =
        rw (sym given_is ∙ stands.1)
        (chosen_first (act_of script world number) (choices stands.0 world.tables world.transactions running) _
        (done_first session.block session.transaction (reply_of stands.0 running)))
    at (Some given) given_is (ending tag) p stands = one_first _
    at None given_is (ending tag) p stands =
        let l = slice_get_some (statements_of script number) session.answered stands in
        absurd (let e : None ≡ Some l.0 = sym given_is ∙ l.1 in cc)
    at given given_is closed p stands = absurd (unended p)
