use Rattle.pg_relation.proofs.LockingKept.{steady_after}
use Rattle.pg_relation.proofs.OfRows.{each_contained, guard_after, same_place}
use Rattle.pg_relation.proofs.row_laws.versions_are_named.Goals as goal
use Rattle.pg_relation.specs.Journals.{world_after}
use Rattle.pg_relation.specs.Locking.{RunsOrCommitted}
use Rattle.std.proofs.Common.{◌≡◌, ◌≤◌, refl}

pub returns : goal.returns
returns c = record {
  named = λ script journal number row_number row locks one other version same legal of is also writer command.
      same_place row.versions one other version same (guard_after script journal number row_number row locks legal of).rising
      is also writer command;
  rising = λ script journal number row_number row locks legal of.
      (guard_after script journal number row_number row locks legal of).rising;
  writers = λ script journal number row_number row locks version legal of has.
      each_contained (λ version. RunsOrCommitted (world_after script journal).transactions version.writer) row.versions version
      (guard_after script journal number row_number row locks legal of).written has;
  commands = λ script journal number row_number row locks version by session legal of has is open_is.
      each_contained (λ one. one.writer ≡ version.writer → one.command ≤ session.command) row.versions version
      (((steady_after script journal legal).locking.sessions by session is).commanding.within version.writer open_is
      number of.table of.table_is row_number row of.row_is) has refl;
}
