-- The table t with some rows, statements over it, and what comes of them, worked by hand.
use Rattle.std.specs.Prelude.{ℕ, false, List, [], ◌∷◌, codes, Option, None, Some, Ok, pos}
use Rattle.pg_values.specs.declared.value.Kind.TheVariants as kind
use Rattle.pg_values.specs.declared.value.Value.{Value}
use Rattle.pg_values.specs.declared.value.Value.TheVariants.{Big, Int, Null}
use Rattle.pg_exprs.specs.declared.operator.Arithmetic.TheVariants.{Add, Divide}
use Rattle.pg_exprs.specs.declared.operator.BinaryOp.TheVariants.{Compare, Compute}
use Rattle.pg_exprs.specs.declared.operator.Comparison.TheVariants.{Equal, Greater}
use Rattle.pg_exprs.specs.Tree.{Tree, binary, column, literal}
use Rattle.pg_multi.specs.declared.row_lock.RowLock.{RowLock}
use Rattle.pg_multi.specs.declared.strength.Strength.TheVariants.{NoKeyUpdate}
use Rattle.pg_xacts.specs.declared.me.Me.{Me}
use Rattle.pg_xacts.specs.declared.transaction.XStatus.{XStatus}
use Rattle.pg_xacts.specs.declared.transaction.XStatus.TheVariants.{Committed, RolledBack, Running as IsRunning}
use Rattle.pg_xacts.specs.Transactions.{Transactions}
use Rattle.pg_heap.specs.declared.version.Version.{Version}
use Rattle.pg_model.specs.declared.catalogue.TableShape.{TableShape}
use Rattle.pg_model.specs.declared.statement.Action.TheVariants.{Delete, Set}
use Rattle.pg_model.specs.declared.statement.Change.{Change}
use Rattle.pg_model.specs.declared.statement.Insert.{Insert}
use Rattle.pg_model.specs.declared.statement.NamedTable.{NamedTable}
use Rattle.pg_model.specs.declared.statement.Select.{Select}
use Rattle.pg_model.specs.declared.statement.Source.TheVariants.{Table}
use Rattle.pg_world.specs.declared.candidate.Candidate.{Candidate}
use Rattle.pg_world.specs.declared.candidate.SeenRow.{SeenRow}
use Rattle.pg_world.specs.declared.placed.PlacedRow.{PlacedRow}
use Rattle.pg_world.specs.declared.session.Running.{Running}
use Rattle.pg_world.specs.declared.session.VersionName.{VersionName}
use Rattle.pg_world.specs.declared.session.Stage.{Stage}
use Rattle.pg_world.specs.declared.session.Stage.TheVariants.{Between as between}
use Rattle.pg_world.specs.declared.table.TableView.{TableView}
use Rattle.pg_world.specs.Candidates.{proposed_candidate, unmade_candidate}
use Rattle.pg_world.specs.Sessions.{first_running, fresh_session}
use Rattle.pg_world.specs.Tables.{empty_table, version_by}
use Rattle.pg_world.specs.Worlds.{World}

-- The table t, and statements over it.

-- an integer
abbrev pub int : ℕ → Value
int number = Int (pos number)

-- CREATE TABLE t (k integer, v integer DEFAULT 7)
abbrev pub table_t : TableShape
table_t =
    record {
      name = codes "t";
      columns =
          record { name = codes "k"; kind = kind.Int; not_null = false; default = Null }
          ∷ record { name = codes "v"; kind = kind.Int; not_null = false; default = int 7 } ∷ [];
      checks = [];
    }

-- the table t, as a statement names it
abbrev pub named_t : NamedTable
named_t = record { table = 0; shape = table_t }

-- the sum of two integer literals
abbrev pub sum_of : ℕ → ℕ → Tree
sum_of left right = binary (Compute Add) (literal (int left)) (literal (int right))

-- 1 / 0
abbrev pub one_by_zero : Tree
one_by_zero = binary (Compute Divide) (literal (int 1)) (literal (int 0))

-- INSERT INTO t VALUES (key, value)
abbrev pub insert_of : Tree → Tree → Insert
insert_of key value =
    record { target = named_t; columns = 0 ∷ 1 ∷ []; rows = (key ∷ value ∷ []) ∷ [] }

-- INSERT INTO t (k) VALUES (1)
abbrev pub insert_key : Insert
insert_key =
    record { target = named_t; columns = 0 ∷ []; rows = (literal (int 1) ∷ []) ∷ [] }

-- SELECT * FROM t
abbrev pub select_all : Select
select_all =
    record { items = column 0 0 ∷ column 0 1 ∷ []; sources = Table named_t ∷ []; condition = None }

-- SELECT v + 1 AS w FROM t WHERE k = 1
abbrev pub select_next : Select
select_next =
    record {
      items = binary (Compute Add) (column 0 1) (literal (int 1)) ∷ [];
      sources = Table named_t ∷ [];
      condition = Some (binary (Compare Equal) (column 0 0) (literal (int 1)));
    }

-- What INSERTs propose.

-- INSERT INTO t (v, k) VALUES (10, 1), (20, 2), where 20 is a bigint
abbrev pub insert_swapped : Insert
insert_swapped =
    record {
      target = named_t;
      columns = 1 ∷ 0 ∷ [];
      rows =
          (literal (int 10) ∷ literal (int 1) ∷ [])
          ∷ (literal (Big (pos 20)) ∷ literal (int 2) ∷ []) ∷ [];
    }

-- a row of t
abbrev pub row_t : ℕ → ℕ → List Value
row_t key value = int key ∷ int value ∷ []

-- the two rows, their values in the order of the columns and as these store them
abbrev pub swapped_candidates : List Candidate
swapped_candidates = proposed_candidate (row_t 1 10) ∷ proposed_candidate (row_t 2 20) ∷ []

-- INSERT INTO t (v, k) VALUES (1 / 0, 2147483647 + 1)
abbrev pub insert_failing : Insert
insert_failing =
    record {
      target = named_t;
      columns = 1 ∷ 0 ∷ [];
      rows = (one_by_zero ∷ sum_of 2147483647 1 ∷ []) ∷ [];
    }

-- CREATE TABLE u (k integer, v integer DEFAULT 2147483648)
abbrev pub table_u : TableShape
table_u =
    record {
      name = codes "u";
      columns =
          record { name = codes "k"; kind = kind.Int; not_null = false; default = Null }
          ∷ record {
            name = codes "v";
            kind = kind.Int;
            not_null = false;
            default = Big (pos 2147483648);
          }
          ∷ [];
      checks = [];
    }

-- INSERT INTO u (k) VALUES (one), (other)
abbrev pub insert_keys : Tree → Tree → Insert
insert_keys one other =
    record {
      target = record { table = 0; shape = table_u };
      columns = 0 ∷ [];
      rows = (one ∷ []) ∷ (other ∷ []) ∷ [];
    }

-- What statements see.

-- transactions 1 and 4 have committed, in this order, 2 runs, and 3 was rolled back
abbrev pub four_transactions : Transactions
four_transactions =
    record {
      list =
          record { session = 0; status = Committed 1 } ∷ record { session = 1; status = IsRunning }
          ∷ record { session = 0; status = RolledBack }
          ∷ record { session = 2; status = Committed 2 } ∷ [];
      commits = 2;
    }

-- session 1 acts in its transaction 2, by the command of that number
abbrev pub second : ℕ → Me
second command = record { session = 1; xact = 2; command = command }

-- session 3 acts in transaction 5
abbrev pub fifth : Me
fifth = record { session = 3; xact = 5; command = 1 }

-- a version by the first command of a transaction
abbrev pub by_first : ℕ → List Value → Version
by_first xact values = record { values = Some values; writer = xact; command = 1 }

-- transaction 4 has deleted a row
abbrev pub deleted_by_fourth : Version
deleted_by_fourth = record { values = None; writer = 4; command = 1 }

-- row 4 as setup has written it: its v is NULL
abbrev pub written_by_setup : Version
written_by_setup = record { values = Some (int 4 ∷ Null ∷ []); writer = 0; command = 0 }

-- row 5, as transaction 2 proposes it
abbrev pub proposed_fifth : PlacedRow
proposed_fifth = record { row = 5; me = second 2; values = row_t 5 50 }

-- nobody holds a lock on one of five rows
abbrev pub five_unlocked : List (List RowLock)
five_unlocked = [] ∷ [] ∷ [] ∷ [] ∷ [] ∷ []

-- row 1 has committed, row 2 has not, row 3 is gone, row 4 was deleted, and row 5 is placed
abbrev pub five_rows : TableView
five_rows =
    record {
      rows =
          record { number = 1; versions = by_first 1 (row_t 1 10) ∷ [] }
          ∷ record { number = 2; versions = by_first 2 (row_t 2 20) ∷ [] }
          ∷ record { number = 3; versions = [] }
          ∷ record { number = 4; versions = written_by_setup ∷ deleted_by_fourth ∷ [] }
          ∷ record { number = 5; versions = [] } ∷ [];
      placed = proposed_fifth ∷ [];
      locks = five_unlocked;
    }

-- row 1 as it is seen
abbrev pub first_seen : SeenRow
first_seen = record { row = 1; version = by_first 1 (row_t 1 10) }

-- row 2 as its own transaction sees it
abbrev pub second_seen : SeenRow
second_seen = record { row = 2; version = by_first 2 (row_t 2 20) }

-- row 4 as it is seen before transaction 4 has committed
abbrev pub fourth_seen : SeenRow
fourth_seen = record { row = 4; version = written_by_setup }

-- What SELECTs return.

-- SELECT * FROM t WHERE v > 5, which is NULL of row 4
abbrev pub select_greater : Select
select_greater =
    record select_all {
      condition = Some (binary (Compare Greater) (column 0 1) (literal (int 5)));
    }

-- SELECT 1 / 0 FROM t WHERE k + 2147483644 > 0, out of range for row 4
abbrev pub select_failing : Select
select_failing =
    record {
      items = one_by_zero ∷ [];
      sources = Table named_t ∷ [];
      condition =
          Some
          (binary (Compare Greater)
          (binary (Compute Add) (column 0 0) (literal (int 2147483644))) (literal (int 0)));
    }

-- SELECT a.k, b.k FROM t AS a, t AS b
abbrev pub select_pairs : Select
select_pairs =
    record {
      items = column 0 0 ∷ column 1 0 ∷ [];
      sources = Table named_t ∷ Table named_t ∷ [];
      condition = None;
    }

-- row 1 as select_all returns it
abbrev pub first_candidate : Candidate
first_candidate = record { partners = first_seen ∷ []; made = row_t 1 10 }

-- and row 4
abbrev pub fourth_candidate : Candidate
fourth_candidate = record { partners = fourth_seen ∷ []; made = int 4 ∷ Null ∷ [] }

-- two rows as select_pairs returns them
abbrev pub pair_of : SeenRow → ℕ → SeenRow → ℕ → Candidate
pair_of one key other value =
    record { partners = one ∷ other ∷ []; made = row_t key value }

-- rows 1 and 4 in all pairs: the second runs fastest
abbrev pub four_pairs : List Candidate
four_pairs =
    pair_of first_seen 1 first_seen 1 ∷ pair_of first_seen 1 fourth_seen 4
    ∷ pair_of fourth_seen 4 first_seen 1 ∷ pair_of fourth_seen 4 fourth_seen 4 ∷ []

-- UPDATE and DELETE.

-- UPDATE t SET v = value WHERE condition
abbrev pub update_of : Tree → Option Tree → Change
update_of value condition =
    record {
      target = named_t;
      action = Set (record { column = 1; value = value } ∷ []);
      sources = [];
      condition = condition;
    }

-- v + 1
abbrev pub one_more : Tree
one_more = binary (Compute Add) (column 0 1) (literal (int 1))

-- UPDATE t SET v = v + 1
abbrev pub raise_all : Change
raise_all = update_of one_more None

-- UPDATE t SET v = v + 1 WHERE v = 10
abbrev pub raise_ten : Change
raise_ten = update_of one_more (Some (binary (Compare Equal) (column 0 1) (literal (int 10))))

-- UPDATE t SET v = 1 / 0
abbrev pub divide_all : Change
divide_all = update_of one_by_zero None

-- DELETE FROM t
abbrev pub delete_all : Change
delete_all = record { target = named_t; action = Delete; sources = []; condition = None }

-- a row as a candidate of which nothing is made yet
abbrev pub unmade : SeenRow → Candidate
unmade row = unmade_candidate (row ∷ [])

-- an UPDATE or DELETE that has taken up its only candidate, which has come so far
abbrev pub changing : Me → SeenRow → Stage → Running
changing me row stage =
    record (first_running me 1 (Ok (unmade row ∷ []))) { candidate = 1; stage = stage }

-- the version that the first command of a transaction wrote
abbrev pub written_by : ℕ → VersionName
written_by xact = record { writer = xact; command = 1 }

-- the five rows, of which transaction 2 has locked the first as for an UPDATE
abbrev pub locked_rows : TableView
locked_rows =
    record five_rows {
      locks = (record { xact = 2; strength = NoKeyUpdate } ∷ []) ∷ [] ∷ [] ∷ [] ∷ [] ∷ [];
    }

-- a table whose only row transaction 4 has changed: its v is now 12
abbrev pub changed_rows : TableView
changed_rows =
    record {
      rows =
          record {
            number = 1;
            versions = by_first 1 (row_t 1 10) ∷ by_first 4 (row_t 1 12) ∷ [];
          }
          ∷ [];
      placed = [];
      locks = [] ∷ [];
    }

-- What a statement does next, and its reply.

-- an INSERT of two rows with so many taken up, the last of which has come so far
abbrev pub with_taken_up : ℕ → Stage → Running
with_taken_up candidate stage =
    record (first_running (second 2) 1 (Ok swapped_candidates)) {
      candidate = candidate;
      stage = stage;
    }

-- an INSERT that has inserted its two rows
abbrev pub with_both : Running
with_both = record (with_taken_up 2 between) { acts = 2 }

-- a SELECT that returns rows 1 and 4
abbrev pub with_selected : Running
with_selected = first_running fifth 1 (Ok (first_candidate ∷ fourth_candidate ∷ []))

-- the rows of its reply, in which integers are bigints
abbrev pub replied_rows : List (List Value)
replied_rows =
    (Big (pos 1) ∷ Big (pos 10) ∷ []) ∷ (Big (pos 4) ∷ Null ∷ []) ∷ []

-- What a table and a world become.

-- two sessions over two tables, of which the second has no row
abbrev pub small_world : World
small_world =
    record {
      tables = five_rows ∷ empty_table ∷ [];
      transactions = four_transactions;
      sessions = fresh_session ∷ fresh_session ∷ [];
      waits = None ∷ None ∷ [];
    }

-- the table with row 5 stored by a later command of transaction 2
abbrev pub five_stored : TableView
five_stored =
    record {
      rows =
          record { number = 1; versions = by_first 1 (row_t 1 10) ∷ [] }
          ∷ record { number = 2; versions = by_first 2 (row_t 2 20) ∷ [] }
          ∷ record { number = 3; versions = [] }
          ∷ record { number = 4; versions = written_by_setup ∷ deleted_by_fourth ∷ [] }
          ∷ record { number = 5; versions = version_by (second 3) (row_t 5 50) ∷ [] } ∷ [];
      placed = [];
      locks = five_unlocked;
    }

-- the table once transaction 2 is rolled back: its version and what it has placed are gone
abbrev pub without_second : TableView
without_second =
    record {
      rows =
          record { number = 1; versions = by_first 1 (row_t 1 10) ∷ [] }
          ∷ record { number = 2; versions = [] }
          ∷ record { number = 3; versions = [] }
          ∷ record { number = 4; versions = written_by_setup ∷ deleted_by_fourth ∷ [] }
          ∷ record { number = 5; versions = [] } ∷ [];
      placed = [];
      locks = five_unlocked;
    }

-- the transactions once transaction 2 has this status, and so many have committed
abbrev pub with_second : XStatus → ℕ → Transactions
with_second status commits =
    record {
      list =
          record { session = 0; status = Committed 1 } ∷ record { session = 1; status = status }
          ∷ record { session = 0; status = RolledBack }
          ∷ record { session = 2; status = Committed 2 } ∷ [];
      commits = commits;
    }
