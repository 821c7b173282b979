-- The worked examples, by computation.
use Rattle.std.proofs.Common.{◌≡◌, ◌<◌, ℕ, zero, suc, List, [], ◌∷◌, Some, slice_get, refl, arith}
use Rattle.std.specs.Prelude.{Ok}
use Rattle.std.specs.List.{All}
use Rattle.std.specs.Fmt.{digits}
use Rattle.std.proofs.lemmas.List.Elements.{All-cons, All-nil}
use Rattle.pg_model.specs.declared.script.Line.{Line}
use Rattle.pg_model.specs.declared.script.SetupInsert.{SetupInsert}
use Rattle.pg_exprs.specs.Tree.{literal}
use Rattle.pg_model.specs.declared.statement.Insert.{Insert}
use Rattle.pg_model.specs.declared.statement.Source.TheVariants.{Table}
use Rattle.pg_model.specs.declared.script.Content.TheVariants.{Given}
use Rattle.pg_model.specs.declared.statement.Statement.{Statement}
use Rattle.pg_model.specs.declared.statement.Statement.TheVariants as statement
use Rattle.pg_model.specs.Scripts.{IsContent}
use Rattle.pg_model.specs.Statements.{IsInsert, IsSelect, IsSource, IsStatement}
use Rattle.pg_world.specs.Candidates.{candidates_over}
use Rattle.pg_world.specs.declared.session.SessionView.{SessionView}
use Rattle.pg_world.specs.declared.session.Progress.TheVariants.{Closed as closed}
use Rattle.pg_relation.specs.Journals.{world_from, world_after}
use Rattle.pg_relation.specs.Stepped.{IsSteppedFrom, IsStepped}
use Rattle.pg_relation.specs.Setup.{setup_outcome}
use Rattle.pg_world.specs.Worked.{table_t, named_t, int, sum_of, insert_of, select_all, insert_key, select_next}
use Rattle.pg_relation.specs.Worked.{listed_columns, listed_columns_journal, listed_columns_lines, IsDraft, script_of, IsWorked, own_block, own_block_journal, own_block_lines, failing_block, failing_block_journal, failing_block_lines, failing_block_tables, failing_block_transactions, uncommitted_row, uncommitted_row_journal, uncommitted_row_lines, undone_blocks, undone_blocks_journal, undone_blocks_lines, undone_blocks_tables, undone_blocks_transactions, IsLeft}
use Rattle.pg_relation.proofs.Runs.{legal_stepped}
use Rattle.pg_relation.proofs.Replies.{complete_when_closed}

-- statements that fit the table
pub fits_begin : IsStatement (table_t ∷ []) statement.Begin
fits_begin = record { selects = λ s is. absurd (cc is); inserts = λ i is. absurd (cc is); changes = λ c is. absurd (cc is) }

pub fits_commit : IsStatement (table_t ∷ []) statement.Commit
fits_commit = record { selects = λ s is. absurd (cc is); inserts = λ i is. absurd (cc is); changes = λ c is. absurd (cc is) }

pub fits_rollback : IsStatement (table_t ∷ []) statement.Rollback
fits_rollback = record { selects = λ s is. absurd (cc is); inserts = λ i is. absurd (cc is); changes = λ c is. absurd (cc is) }

fits_insert : (insert : Insert) → IsInsert (table_t ∷ []) insert → IsStatement (table_t ∷ []) (statement.Insert insert)
fits_insert insert fits = record {
  selects = λ s is. absurd (cc is);
  inserts = λ i is. let e : insert ≡ i = cc is in rw (← e) fits;
  changes = λ c is. absurd (cc is);
}

fits_source : IsSource (table_t ∷ []) (Table named_t)
fits_source = λ named is. let e : named_t ≡ named = cc is in rw (← e) refl

fits_select : IsStatement (table_t ∷ []) (statement.Select select_all)
fits_select = record {
  selects = λ s is. let e : select_all ≡ s = cc is in rw (← e) fits;
  inserts = λ i is. absurd (cc is);
  changes = λ c is. absurd (cc is);
}
  where
    fits : IsSelect (table_t ∷ []) select_all
    fits = record {
      sources = All-cons (IsSource (table_t ∷ [])) (Table named_t) [] fits_source (All-nil (IsSource (table_t ∷ [])));
      items = refl;
      condition = refl;
    }

-- lines whose statements fit
abbrev pub Fit : ℕ → List Line → Type 0
Fit sessions [] = Unit {0}
Fit sessions (line ∷ lines) = IsContent sessions (table_t ∷ []) line.content × Fit sessions lines

pub fit_all : (sessions : ℕ) (lines : List Line) → Fit sessions lines →
    All (λ line. IsContent sessions (table_t ∷ []) line.content) lines
fit_all sessions [] fits = All-nil (λ line. IsContent sessions (table_t ∷ []) line.content)
fit_all sessions (line ∷ lines) fits =
    All-cons (λ line. IsContent sessions (table_t ∷ []) line.content) line lines fits.0 (fit_all sessions lines fits.1)

pub fits_line : (sessions session : ℕ) (given : Statement) → session < sessions → IsStatement (table_t ∷ []) given →
    IsContent sessions (table_t ∷ []) (Given session (Ok given))
fits_line sessions session given within fits = record {
  session = within;
  statement = λ s is. let e : given ≡ s = cc is in rw (← e) fits;
}

fits_one : IsStatement (table_t ∷ []) (statement.Insert (insert_of (literal (int 1)) (literal (int 10))))
fits_one = fits_insert _ (record { target = refl; columns = refl; rows = refl })

fits_two : IsStatement (table_t ∷ []) (statement.Insert (insert_of (literal (int 2)) (literal (int 20))))
fits_two = fits_insert _ (record { target = refl; columns = refl; rows = refl })

fits_sum : IsStatement (table_t ∷ [])
    (statement.Insert (insert_of (sum_of 2147483647 1) (literal (int 1))))
fits_sum = fits_insert _ (record { target = refl; columns = refl; rows = refl })

own_block_valid : IsDraft own_block
own_block_valid = record {
  few_sessions = omega arith;
  distinct = refl;
  written = refl;
  tables = refl;
  inserts = All-nil (λ s. IsInsert (table_t ∷ []) s.insert);
  contents = fit_all 1 own_block.lines (
    fits_line 1 0 _ (omega arith) fits_begin,
    (
      fits_line 1 0 _ (omega arith) fits_one,
      (fits_line 1 0 _ (omega arith) fits_commit, tt),
    ),
  );
  few_lines = omega arith;
}

failing_block_valid : IsDraft failing_block
failing_block_valid = record {
  few_sessions = omega arith;
  distinct = refl;
  written = refl;
  tables = refl;
  inserts = All-nil (λ s. IsInsert (table_t ∷ []) s.insert);
  contents = fit_all 1 failing_block.lines (
    fits_line 1 0 _ (omega arith) fits_begin,
    (
      fits_line 1 0 _ (omega arith) fits_one,
      (
        fits_line 1 0 _ (omega arith) fits_sum,
        (
          fits_line 1 0 _ (omega arith) fits_select,
          (fits_line 1 0 _ (omega arith) fits_commit, tt),
        ),
      ),
    ),
  );
  few_lines = omega arith;
}

uncommitted_row_valid : IsDraft uncommitted_row
uncommitted_row_valid = record {
  few_sessions = omega arith;
  distinct = refl;
  written = refl;
  tables = refl;
  inserts = All-cons (λ s. IsInsert (table_t ∷ []) s.insert) first [] (record { target = refl; columns = refl; rows = refl })
      (All-nil (λ s. IsInsert (table_t ∷ []) s.insert));
  contents = fit_all 2 uncommitted_row.lines (
    fits_line 2 0 _ (omega arith) fits_begin,
    (
      fits_line 2 0 _ (omega arith) fits_two,
      (
        fits_line 2 1 _ (omega arith) fits_select,
        (
          fits_line 2 0 _ (omega arith) fits_commit,
          (fits_line 2 1 _ (omega arith) fits_select, tt),
        ),
      ),
    ),
  );
  few_lines = omega arith;
}
  where
    first : SetupInsert
    first = record { number = 3; insert = insert_of (literal (int 1)) (literal (int 10)) }

fits_key : IsStatement (table_t ∷ []) (statement.Insert insert_key)
fits_key = fits_insert _ (record { target = refl; columns = refl; rows = refl })

fits_next : IsStatement (table_t ∷ []) (statement.Select select_next)
fits_next = record {
  selects = λ s is. let e : select_next ≡ s = cc is in rw (← e) fits;
  inserts = λ i is. absurd (cc is);
  changes = λ c is. absurd (cc is);
}
  where
    fits : IsSelect (table_t ∷ []) select_next
    fits = record {
      sources = All-cons (IsSource (table_t ∷ [])) (Table named_t) [] fits_source (All-nil (IsSource (table_t ∷ [])));
      items = refl;
      condition = refl;
    }

listed_columns_valid : IsDraft listed_columns
listed_columns_valid = record {
  few_sessions = omega arith;
  distinct = refl;
  written = refl;
  tables = refl;
  inserts = All-cons (λ s. IsInsert (table_t ∷ []) s.insert) first [] (record { target = refl; columns = refl; rows = refl })
      (All-nil (λ s. IsInsert (table_t ∷ []) s.insert));
  contents = fit_all 1 listed_columns.lines
      (fits_line 1 0 _ (omega arith) fits_key, (fits_line 1 0 _ (omega arith) fits_next, tt));
  few_lines = omega arith;
}
  where
    first : SetupInsert
    first = record { number = 3; insert = insert_of (literal (int 2)) (literal (int 20)) }

-- the one record at a place
pub same_closed : (session other : SessionView) → Some session ≡ Some other → session.progress ≡ closed → other.progress ≡ closed
same_closed session other is ended = let e : session ≡ other = cc is in rw (← e) ended

own_block_stepped : IsStepped (script_of own_block own_block_valid) own_block_journal
unfolding IsSteppedFrom candidates_over setup_outcome
own_block_stepped =
    (refl, refl, (refl, refl, (refl, refl, (refl, refl, (refl, refl, (refl, refl, (refl, refl, (refl, refl, (refl, refl, tt)))))))))

own_block_closed : (number : ℕ) (session : SessionView) →
    slice_get (world_after (script_of own_block own_block_valid) own_block_journal).sessions number ≡ Some session →
    session.progress ≡ closed
unfolding world_from candidates_over setup_outcome
own_block_closed zero session is = same_closed _ session is refl
own_block_closed (suc number) session is = absurd (cc is)

pub own_block_worked : IsWorked own_block own_block_journal own_block_lines
unfolding world_from digits candidates_over setup_outcome
own_block_worked =
    let legal = legal_stepped (script_of own_block own_block_valid) own_block_journal own_block_stepped in
    record {
      valid = own_block_valid;
      legal = legal;
      complete = complete_when_closed (script_of own_block own_block_valid) own_block_journal legal own_block_closed;
      stepped = own_block_stepped;
      text = refl;
    }

failing_block_stepped : IsStepped (script_of failing_block failing_block_valid) failing_block_journal
unfolding IsSteppedFrom candidates_over setup_outcome
failing_block_stepped =
    (refl, refl, (refl, refl, (refl, refl, (refl, refl, (refl, refl, (refl, refl, (refl, refl, (refl, refl, (refl, refl, (refl, refl, (refl, refl, tt)))))))))))

failing_block_closed : (number : ℕ) (session : SessionView) →
    slice_get (world_after (script_of failing_block failing_block_valid) failing_block_journal).sessions number ≡ Some session →
    session.progress ≡ closed
unfolding world_from candidates_over setup_outcome
failing_block_closed zero session is = same_closed _ session is refl
failing_block_closed (suc number) session is = absurd (cc is)

pub failing_block_worked : IsWorked failing_block failing_block_journal failing_block_lines
unfolding world_from digits candidates_over setup_outcome
failing_block_worked =
    let legal = legal_stepped (script_of failing_block failing_block_valid) failing_block_journal failing_block_stepped in
    record {
      valid = failing_block_valid;
      legal = legal;
      complete = complete_when_closed (script_of failing_block failing_block_valid) failing_block_journal legal failing_block_closed;
      stepped = failing_block_stepped;
      text = refl;
    }

pub failing_block_left : IsLeft failing_block failing_block_journal failing_block_tables failing_block_transactions
unfolding world_from candidates_over setup_outcome
failing_block_left = record { valid = failing_block_valid; tables_are = refl; transactions_are = refl }

uncommitted_row_stepped : IsStepped (script_of uncommitted_row uncommitted_row_valid) uncommitted_row_journal
unfolding IsSteppedFrom candidates_over setup_outcome
uncommitted_row_stepped =
    (refl, refl, (refl, refl, (refl, refl, (refl, refl, (refl, refl, (refl, refl, (refl, refl, (refl, refl, (refl, refl, (refl, refl, (refl, refl, (refl, refl, (refl, refl, (refl, refl, (refl, refl, (refl, refl, tt))))))))))))))))

uncommitted_row_closed : (number : ℕ) (session : SessionView) →
    slice_get (world_after (script_of uncommitted_row uncommitted_row_valid) uncommitted_row_journal).sessions number ≡ Some session →
    session.progress ≡ closed
unfolding world_from candidates_over setup_outcome
uncommitted_row_closed zero session is = same_closed _ session is refl
uncommitted_row_closed (suc zero) session is = same_closed _ session is refl
uncommitted_row_closed (suc (suc number)) session is = absurd (cc is)

pub uncommitted_row_worked : IsWorked uncommitted_row uncommitted_row_journal uncommitted_row_lines
unfolding world_from digits candidates_over setup_outcome
uncommitted_row_worked =
    let legal = legal_stepped (script_of uncommitted_row uncommitted_row_valid) uncommitted_row_journal uncommitted_row_stepped in
    record {
      valid = uncommitted_row_valid;
      legal = legal;
      complete = complete_when_closed (script_of uncommitted_row uncommitted_row_valid) uncommitted_row_journal legal uncommitted_row_closed;
      stepped = uncommitted_row_stepped;
      text = refl;
    }

listed_columns_stepped : IsStepped (script_of listed_columns listed_columns_valid) listed_columns_journal
unfolding IsSteppedFrom candidates_over setup_outcome
listed_columns_stepped =
    (refl, refl, (refl, refl, (refl, refl, (refl, refl, (refl, refl, (refl, refl, (refl, refl, (refl, refl, (refl, refl, (refl, refl, tt))))))))))

listed_columns_closed : (number : ℕ) (session : SessionView) →
    slice_get (world_after (script_of listed_columns listed_columns_valid) listed_columns_journal).sessions number ≡ Some session →
    session.progress ≡ closed
unfolding world_from candidates_over setup_outcome
listed_columns_closed zero session is = same_closed _ session is refl
listed_columns_closed (suc number) session is = absurd (cc is)

pub listed_columns_worked : IsWorked listed_columns listed_columns_journal listed_columns_lines
unfolding world_from digits candidates_over setup_outcome
listed_columns_worked =
    let legal = legal_stepped (script_of listed_columns listed_columns_valid) listed_columns_journal listed_columns_stepped in
    record {
      valid = listed_columns_valid;
      legal = legal;
      complete = complete_when_closed (script_of listed_columns listed_columns_valid) listed_columns_journal legal listed_columns_closed;
      stepped = listed_columns_stepped;
      text = refl;
    }

undone_blocks_valid : IsDraft undone_blocks
undone_blocks_valid = record {
  few_sessions = omega arith;
  distinct = refl;
  written = refl;
  tables = refl;
  inserts = All-nil (λ s. IsInsert (table_t ∷ []) s.insert);
  contents = fit_all 1 undone_blocks.lines (
    fits_line 1 0 _ (omega arith) fits_begin,
    (
      fits_line 1 0 _ (omega arith) fits_one,
      (
        fits_line 1 0 _ (omega arith) fits_rollback,
        (
          fits_line 1 0 _ (omega arith) fits_begin,
          (fits_line 1 0 _ (omega arith) fits_two, tt),
        ),
      ),
    ),
  );
  few_lines = omega arith;
}

undone_blocks_stepped : IsStepped (script_of undone_blocks undone_blocks_valid) undone_blocks_journal
unfolding IsSteppedFrom candidates_over setup_outcome
undone_blocks_stepped =
    (refl, refl, (refl, refl, (refl, refl, (refl, refl, (refl, refl, (refl, refl, (refl, refl, (refl, refl, (refl, refl, (refl, refl, (refl, refl, (refl, refl, (refl, refl, (refl, refl, (refl, refl, tt)))))))))))))))

undone_blocks_closed : (number : ℕ) (session : SessionView) →
    slice_get (world_after (script_of undone_blocks undone_blocks_valid) undone_blocks_journal).sessions number ≡ Some session →
    session.progress ≡ closed
unfolding world_from candidates_over setup_outcome
undone_blocks_closed zero session is = same_closed _ session is refl
undone_blocks_closed (suc number) session is = absurd (cc is)

pub undone_blocks_worked : IsWorked undone_blocks undone_blocks_journal undone_blocks_lines
unfolding world_from digits candidates_over setup_outcome
undone_blocks_worked =
    let legal = legal_stepped (script_of undone_blocks undone_blocks_valid) undone_blocks_journal undone_blocks_stepped in
    record {
      valid = undone_blocks_valid;
      legal = legal;
      complete = complete_when_closed (script_of undone_blocks undone_blocks_valid) undone_blocks_journal legal undone_blocks_closed;
      stepped = undone_blocks_stepped;
      text = refl;
    }

pub undone_blocks_left : IsLeft undone_blocks undone_blocks_journal undone_blocks_tables undone_blocks_transactions
unfolding world_from candidates_over setup_outcome
undone_blocks_left = record { valid = undone_blocks_valid; tables_are = refl; transactions_are = refl }
