-- A session that is in no statement with a snapshot does not begin to wait.
use Rattle.std.proofs.Common.{◌≡◌, ℕ, Bool, true, false, List, [], ◌∷◌, Option, Some, None, refl, ap, sym, ◌∙◌}
use Rattle.std.specs.Prelude.{Result, Ok, Err}
use Rattle.pg_model.specs.declared.error.SqlError.{SqlError}
use Rattle.pg_model.specs.declared.journal.EntryAct.{EntryAct}
use Rattle.pg_model.specs.declared.journal.Tag.{Tag}
use Rattle.pg_model.specs.declared.statement.Statement.{Statement}
use Rattle.pg_model.specs.declared.statement.Statement.TheVariants as statement
use Rattle.pg_world.specs.declared.session.Block.{Block}
use Rattle.pg_world.specs.declared.session.Block.TheVariants.{NoBlock as no_block, OpenBlock as open_block, FailedBlock as failed_block}
use Rattle.pg_world.specs.declared.session.SessionView.{SessionView}
use Rattle.pg_world.specs.Worlds.{World}
use Rattle.pg_relation.specs.Moves.{beginning_moves, block_moves, commit_moves, ending_moves, ends_block, idle_moves, rollback_moves}
use Rattle.pg_relation.specs.Stepped.{first_of_list}
use Rattle.pg_board.specs.declared.session.Place.{Place}
use Rattle.pg_board.specs.declared.session.Place.TheVariants as place_of
use Rattle.pg_board.specs.Kept.{begins_wait, outside_moves}

-- the first of a list that has one item
only : (one act : EntryAct) → begins_wait one ≡ false → first_of_list (one ∷ []) ≡ Some act → begins_wait act ≡ false
only one act free is = let e : one ≡ act = cc is in rw (← e) free

commit_free : (block : Block) (transaction : Option ℕ) (act : EntryAct) → first_of_list (commit_moves block transaction) ≡ Some act →
    begins_wait act ≡ false
commit_free block (Some xact) act is = only _ act refl is
commit_free block None act is = only _ act refl is

rollback_free : (transaction : Option ℕ) (act : EntryAct) → first_of_list (rollback_moves transaction) ≡ Some act → begins_wait act ≡ false
rollback_free (Some xact) act is = only _ act refl is
rollback_free None act is = only _ act refl is

beginning_free : (world : World) (session : SessionView) (given : Result Statement SqlError) (act : EntryAct) →
    first_of_list (beginning_moves world session given) ≡ Some act → begins_wait act ≡ false
beginning_free world session (Ok statement.Begin) act is = only _ act refl is
beginning_free world session (Ok statement.Commit) act is = commit_free session.block session.transaction act is
beginning_free world session (Ok statement.Rollback) act is = rollback_free session.transaction act is
beginning_free world session (Ok (statement.Select select)) act is = only _ act refl is
beginning_free world session (Ok (statement.Insert insert)) act is = only _ act refl is
beginning_free world session (Ok (statement.Change change)) act is = only _ act refl is
beginning_free world session (Err error) act is = only _ act refl is

block_free : (world : World) (session : SessionView) (given : Result Statement SqlError) (block : Block) (ends : Bool) (act : EntryAct) →
    first_of_list (block_moves world session given block ends) ≡ Some act → begins_wait act ≡ false
block_free world session given failed_block false act is = only _ act refl is
block_free world session given failed_block true act is = beginning_free world session given act is
block_free world session given no_block ends act is = beginning_free world session given act is
block_free world session given open_block ends act is = beginning_free world session given act is

pub outside_free : (world : World) (session : SessionView) (given : Option (Result Statement SqlError)) (place : Place) (act : EntryAct) →
    first_of_list (outside_moves world session given place) ≡ Some act → begins_wait act ≡ false
outside_free world session (Some given) place_of.Idle act is = block_free world session given session.block (ends_block given) act is
outside_free world session None place_of.Idle act is = only _ act refl is
outside_free world session given (place_of.Inside machine) act is = absurd (cc is)
outside_free world session (Some given) (place_of.Ending tag) act is = only _ act refl is
outside_free world session None (place_of.Ending tag) act is = absurd (cc is)
outside_free world session given place_of.Closed act is = absurd (cc is)
