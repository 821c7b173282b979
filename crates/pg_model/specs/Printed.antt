-- The text of a run, and the text of a journal.
use Rattle.std.specs.Prelude.{ℕ, List, [], ◌∷◌, ◌++◌, codes, decimal, flat_map, map, unwrap_or}
use Rattle.pg_lists.specs.Numbered.{item_at}
use Rattle.pg_values.specs.declared.value.Value.{Value}
use Rattle.pg_model.specs.declared.catalogue.TableShape.{TableShape}
use Rattle.pg_model.specs.declared.error.SqlError.{SqlError}
use Rattle.pg_model.specs.declared.journal.Entry.{Entry}
use Rattle.pg_model.specs.declared.journal.EntryAct.{EntryAct}
use Rattle.pg_model.specs.declared.journal.EntryAct.TheVariants as act
use Rattle.pg_model.specs.declared.journal.Reply.{Reply}
use Rattle.pg_model.specs.declared.script.Script.{Script}
use Rattle.pg_model.specs.Errors.{error_state, error_text}
use Rattle.pg_model.specs.Texts.{with_line_end, row_text, strength_text, tag_text}

-- the name of the session of that number, and of the table; a number that names none has the empty name
abbrev pub session_name : Script → ℕ → List ℕ
session_name script session = unwrap_or (item_at script.sessions session) []

-- the name of the table of that number
abbrev pub table_name : Script → ℕ → List ℕ
table_name script table = unwrap_or (item_at (map (λ shape. shape.name) script.catalogue) table) []

-- a reply: `name> VALUES` for each returned row, then `name: TAG`
abbrev pub reply_text : List ℕ → Reply → List ℕ
reply_text name reply =
    flat_map (λ row. with_line_end (name ++ codes "> " ++ row_text row)) reply.rows
    ++ with_line_end (name ++ codes ": " ++ tag_text reply.tag)

-- a failure: `name: ERROR STATE: TEXT`
abbrev pub failure_text : List ℕ → SqlError → List ℕ
failure_text name error = with_line_end (name ++ codes ": ERROR " ++ error_state error ++ codes ": " ++ error_text error)

-- what an entry prints: a reply or a failure its lines, and any other entry nothing
abbrev pub act_text : List ℕ → EntryAct → List ℕ
act_text name (act.Snapped commits) = []
act_text name (act.Found number) = []
act_text name (act.Placed table row) = []
act_text name (act.Locked table row strength) = []
act_text name (act.Inserted table row) = []
act_text name (act.Updated table row) = []
act_text name (act.Deleted table row) = []
act_text name act.Passed = []
act_text name (act.Waits other) = []
act_text name act.Committed = []
act_text name act.RolledBack = []
act_text name (act.Replied reply) = reply_text name reply
act_text name (act.Failed error) = failure_text name error
act_text name act.Closed = []

-- the lines that an entry prints
abbrev pub entry_text : Script → Entry → List ℕ
entry_text script entry = act_text (session_name script entry.session) entry.act

-- a table: `table NAME`, then a line for each row
abbrev pub table_text : TableShape → List (List Value) → List ℕ
table_text shape rows = with_line_end (codes "table " ++ shape.name) ++ flat_map (λ row. with_line_end (row_text row)) rows

-- the tables of a catalogue, with these rows, in order of declaration
abbrev pub tables_text : List TableShape → List (List (List Value)) → List ℕ
tables_text [] tables = []
tables_text (shape ∷ shapes) [] = []
tables_text (shape ∷ shapes) (rows ∷ tables) = table_text shape rows ++ tables_text shapes tables

-- the text of a journal with these tables: replies and failures in the order of the journal, then the tables
abbrev pub run_text : Script → List Entry → List (List (List Value)) → List ℕ
run_text script journal tables = flat_map (entry_text script) journal ++ tables_text script.catalogue tables

-- an act on a row: what was done, the table and the row's number
abbrev pub row_words : Script → List ℕ → ℕ → ℕ → List ℕ
row_words script done table row = done ++ codes " " ++ table_name script table ++ codes " " ++ decimal row

-- what an act reads as in the text of a journal
abbrev pub act_words : Script → EntryAct → List ℕ
act_words script (act.Snapped commits) = codes "snapped " ++ decimal commits
act_words script (act.Found number) = codes "found " ++ decimal number
act_words script (act.Locked table row strength) =
    row_words script (codes "locked") table row ++ codes " " ++ strength_text strength
act_words script (act.Placed table row) = row_words script (codes "placed") table row
act_words script (act.Inserted table row) = row_words script (codes "inserted") table row
act_words script (act.Updated table row) = row_words script (codes "updated") table row
act_words script (act.Deleted table row) = row_words script (codes "deleted") table row
act_words script act.Passed = codes "passed"
act_words script (act.Waits other) = codes "waits " ++ session_name script other
act_words script act.Committed = codes "committed"
act_words script act.RolledBack = codes "rolled back"
act_words script (act.Replied reply) =
    codes "replied " ++ tag_text reply.tag ++ flat_map (λ row. codes " (" ++ row_text row ++ codes ")") reply.rows
act_words script (act.Failed error) = codes "failed " ++ error_state error ++ codes " " ++ error_text error
act_words script act.Closed = codes "closed"

-- a line of a journal: the session's name and what it did
abbrev pub entry_line : Script → Entry → List ℕ
entry_line script entry = with_line_end (session_name script entry.session ++ codes " " ++ act_words script entry.act)

-- the text of a journal: a line for each entry
abbrev pub journal_text : Script → List Entry → List ℕ
journal_text script journal = flat_map (entry_line script) journal
