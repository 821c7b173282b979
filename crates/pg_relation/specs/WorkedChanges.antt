-- Examples of UPDATE and DELETE worked by hand: two sessions that raise a value, a row that is no
-- longer the one that was looked for, a row that is as it was, two sessions that wait for one, and
-- a deadlock.
use Rattle.std.specs.Prelude.{ℕ, List, [], ◌∷◌, ◌++◌, codes, Some}
use Rattle.pg_exprs.specs.declared.operator.BinaryOp.TheVariants.{Compare}
use Rattle.pg_exprs.specs.declared.operator.Comparison.TheVariants.{Equal}
use Rattle.pg_exprs.specs.Tree.{Tree, binary, column, literal}
use Rattle.pg_multi.specs.declared.strength.Strength.TheVariants.{NoKeyUpdate, Update}
use Rattle.pg_model.specs.declared.error.SqlError.TheVariants.{Deadlock}
use Rattle.pg_model.specs.declared.journal.Entry.{Entry}
use Rattle.pg_model.specs.declared.journal.EntryAct.{EntryAct}
use Rattle.pg_model.specs.declared.journal.EntryAct.TheVariants.{Snapped, Found, Locked, Updated, Passed, Waits, Committed, RolledBack, Failed, Closed}
use Rattle.pg_model.specs.declared.journal.Tag.TheVariants as tag
use Rattle.pg_model.specs.declared.script.Line.{Line}
use Rattle.pg_model.specs.declared.script.SetupInsert.{SetupInsert}
use Rattle.pg_model.specs.declared.statement.Change.{Change}
use Rattle.pg_model.specs.declared.statement.Statement.TheVariants as statement
use Rattle.pg_world.specs.Worked.{delete_all, insert_of, int, raise_all, update_of}
use Rattle.pg_relation.specs.Worked.{Draft, answer, by, line_of}

-- a setup INSERT of a row of t
abbrev pub setup_row : ℕ → ℕ → ℕ → SetupInsert
setup_row number key value =
    record { number = number; insert = insert_of (literal (int key)) (literal (int value)) }

-- whether the column of that number is equal to an integer
abbrev pub is_equal : ℕ → ℕ → Tree
is_equal number value = binary (Compare Equal) (column 0 number) (literal (int value))

-- DELETE FROM t WHERE v = 10
abbrev pub delete_ten : Change
delete_ten = record delete_all { condition = Some (is_equal 1 10) }

-- UPDATE t SET v = value WHERE k = key
abbrev pub update_key : ℕ → ℕ → Change
update_key key value = update_of (literal (int value)) (Some (is_equal 0 key))

-- a block that raises v, while another session changes the row too
abbrev pub beside_block : Change → List Line
beside_block change =
    line_of 4 0 statement.Begin
    ∷ line_of 5 0 (statement.Change raise_all)
    ∷ line_of 6 1 (statement.Change change) ∷ []

-- two sessions over the row (1, 10)
abbrev pub two_sessions : List Line → Draft
two_sessions lines =
    record {
      sessions = codes "a" ∷ codes "b" ∷ [];
      setup = setup_row 3 1 10 ∷ [];
      lines = lines;
    }

-- an UPDATE of the row of that number, from its snapshot on
abbrev pub update_acts : ℕ → List EntryAct
update_acts row = Snapped 0 ∷ Found 1 ∷ Locked 0 row NoKeyUpdate ∷ Updated 0 row ∷ []

-- the block has raised v, and the other session waits for it
abbrev pub other_waits : List Entry
other_waits =
    by 0 (answer tag.Begin [] ∷ update_acts 1 ++ answer (tag.Update 1) [] ∷ [])
    ++ by 1 (Snapped 0 ∷ Found 1 ∷ Waits 0 ∷ [])

-- both sessions have ended
abbrev pub both_closed : List Entry
both_closed = by 0 (Closed ∷ []) ++ by 1 (Closed ∷ [])

-- Two sessions raise v: no update is lost.
abbrev pub both_raise : Draft
both_raise = two_sessions (beside_block raise_all ++ line_of 7 0 statement.Commit ∷ [])

-- the second waits for the end of the first, and then works on what that has written
abbrev pub both_raise_journal : List Entry
both_raise_journal =
    other_waits
    ++ (by 0 (Committed ∷ answer tag.Commit [] ∷ [])
    ++ (by 1 (Locked 0 1 NoKeyUpdate ∷ Updated 0 1 ∷ Committed ∷ answer (tag.Update 1) [] ∷ [])
    ++ both_closed))

-- what is printed
abbrev pub both_raise_lines : List (List ℕ)
both_raise_lines =
    codes "a: BEGIN" ∷ codes "a: UPDATE 1" ∷ codes "a: COMMIT" ∷ codes "b: UPDATE 1"
    ∷ codes "table t" ∷ codes "1|12" ∷ []

-- A DELETE whose condition is no longer true of the row that it has waited for.
abbrev pub raised_away : Draft
raised_away = two_sessions (beside_block delete_ten ++ line_of 7 0 statement.Commit ∷ [])

-- the row is locked and looked at again, and the candidate is passed
abbrev pub raised_away_journal : List Entry
raised_away_journal =
    other_waits
    ++ (by 0 (Committed ∷ answer tag.Commit [] ∷ [])
    ++ (by 1 (Locked 0 1 Update ∷ Passed ∷ Committed ∷ answer (tag.Delete 0) [] ∷ [])
    ++ both_closed))

-- what is printed
abbrev pub raised_away_lines : List (List ℕ)
raised_away_lines =
    codes "a: BEGIN" ∷ codes "a: UPDATE 1" ∷ codes "a: COMMIT" ∷ codes "b: DELETE 0"
    ∷ codes "table t" ∷ codes "1|11" ∷ []

-- The first of two sessions that raise v is rolled back.
abbrev pub undone_raise : Draft
undone_raise = two_sessions (beside_block raise_all ++ line_of 7 0 statement.Rollback ∷ [])

-- the second has waited, and works on the row as it was
abbrev pub undone_raise_journal : List Entry
undone_raise_journal =
    other_waits
    ++ (by 0 (RolledBack ∷ answer tag.Rollback [] ∷ [])
    ++ (by 1 (Locked 0 1 NoKeyUpdate ∷ Updated 0 1 ∷ Committed ∷ answer (tag.Update 1) [] ∷ [])
    ++ both_closed))

-- what is printed
abbrev pub undone_raise_lines : List (List ℕ)
undone_raise_lines =
    codes "a: BEGIN" ∷ codes "a: UPDATE 1" ∷ codes "a: ROLLBACK" ∷ codes "b: UPDATE 1"
    ∷ codes "table t" ∷ codes "1|11" ∷ []

-- Two sessions wait for the same block.
abbrev pub two_wait : Draft
two_wait =
    record {
      sessions = codes "a" ∷ codes "b" ∷ codes "c" ∷ [];
      setup = setup_row 3 1 10 ∷ [];
      lines =
          beside_block raise_all
          ++ line_of 7 2 (statement.Change raise_all) ∷ line_of 8 0 statement.Commit ∷ [];
    }

-- both are woken by the commit, and the one whose wait began first goes on first
abbrev pub two_wait_journal : List Entry
two_wait_journal =
    other_waits
    ++ (by 2 (Snapped 0 ∷ Found 1 ∷ Waits 0 ∷ [])
    ++ (by 0 (Committed ∷ answer tag.Commit [] ∷ [])
    ++ (by 1 (Locked 0 1 NoKeyUpdate ∷ Updated 0 1 ∷ Committed ∷ answer (tag.Update 1) [] ∷ [])
    ++ (by 2 (Locked 0 1 NoKeyUpdate ∷ Updated 0 1 ∷ Committed ∷ answer (tag.Update 1) [] ∷ [])
    ++ (both_closed ++ by 2 (Closed ∷ []))))))

-- what is printed
abbrev pub two_wait_lines : List (List ℕ)
two_wait_lines =
    codes "a: BEGIN" ∷ codes "a: UPDATE 1" ∷ codes "a: COMMIT" ∷ codes "b: UPDATE 1"
    ∷ codes "c: UPDATE 1" ∷ codes "table t" ∷ codes "1|13" ∷ []

-- A deadlock: each session updates the row that the other has locked.
abbrev pub crossed_updates : Draft
crossed_updates =
    record {
      sessions = codes "a" ∷ codes "b" ∷ [];
      setup = setup_row 3 1 10 ∷ setup_row 4 2 20 ∷ [];
      lines =
          line_of 5 0 statement.Begin
          ∷ line_of 6 1 statement.Begin
          ∷ line_of 7 0 (statement.Change (update_key 1 11))
          ∷ line_of 8 1 (statement.Change (update_key 2 21))
          ∷ line_of 9 0 (statement.Change (update_key 2 12))
          ∷ line_of 10 1 (statement.Change (update_key 1 22))
          ∷ line_of 11 0 statement.Commit
          ∷ line_of 12 1 statement.Commit ∷ [];
    }

-- the second that would wait fails with the cycle, and its row is as it was; the first goes on
abbrev pub crossed_updates_journal : List Entry
crossed_updates_journal =
    by 0 (answer tag.Begin [] ∷ [])
    ++ (by 1 (answer tag.Begin [] ∷ [])
    ++ (by 0 (update_acts 1 ++ answer (tag.Update 1) [] ∷ [])
    ++ (by 1 (update_acts 2 ++ answer (tag.Update 1) [] ∷ [])
    ++ (by 0 (Snapped 0 ∷ Found 1 ∷ Waits 1 ∷ [])
    ++ (by 1 (Snapped 0 ∷ Found 1 ∷ Failed (Deadlock (codes "b" ∷ codes "a" ∷ [])) ∷ [])
    ++ (by 0
    (Locked 0 2 NoKeyUpdate ∷ Updated 0 2 ∷ answer (tag.Update 1) []
    ∷ Committed ∷ answer tag.Commit [] ∷ [])
    ++ (by 1 (answer tag.Rollback [] ∷ []) ++ both_closed)))))))

-- what is printed
abbrev pub crossed_updates_lines : List (List ℕ)
crossed_updates_lines =
    codes "a: BEGIN" ∷ codes "b: BEGIN" ∷ codes "a: UPDATE 1" ∷ codes "b: UPDATE 1"
    ∷ (codes "b: ERROR 40P01: deadlock detected, "
    ++ codes "cycle b waits for a, a waits for b")
    ∷ codes "a: UPDATE 1" ∷ codes "a: COMMIT" ∷ codes "b: ROLLBACK"
    ∷ codes "table t" ∷ codes "1|11" ∷ codes "2|12" ∷ []
