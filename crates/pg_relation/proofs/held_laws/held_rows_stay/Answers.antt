use Rattle.pg_model.specs.declared.journal.Entry.{Entry}
use Rattle.pg_model.specs.declared.script.Script.{Script}
use Rattle.pg_relation.proofs.HeldStays.{held_on, held_stays}
use Rattle.pg_relation.proofs.LockingKept.{steady_after}
use Rattle.pg_relation.proofs.held_laws.held_rows_stay.Goals as goal
use Rattle.pg_relation.specs.Effect.{effect}
use Rattle.pg_relation.specs.Holds.{HoldsRow, StaysHeld}
use Rattle.pg_relation.specs.Journals.{IsLegal, world_after}
use Rattle.pg_relation.specs.Moves.{IsPermitted}
use Rattle.std.proofs.Common.{◌≢◌, List, ℕ}

stays : (script : Script) (journal : List Entry) (entry : Entry) (number table row : ℕ) → IsLegal script journal →
    (held : HoldsRow script (world_after script journal) number table row) → IsPermitted script (world_after script journal) entry →
    entry.session ≢ number →
    StaysHeld script (world_after script journal) (effect script (world_after script journal) entry) number table row held
stays script journal entry number table row legal held move apart =
    held_stays script (world_after script journal) entry (steady_after script journal legal) move number table row held apart

pub returns : goal.returns
returns c = record {
  versions = λ script journal entry number table row legal held move apart.
      (stays script journal entry number table row legal held move apart).same_row;
  held = λ script journal entry number table row legal held move apart.
      held_on script (world_after script journal) (effect script (world_after script journal) entry) number table row held
      (stays script journal entry number table row legal held move apart).is;
  named = λ script journal entry number table row legal held move apart.
      (stays script journal entry number table row legal held move apart).holding;
}
