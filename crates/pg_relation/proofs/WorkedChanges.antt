-- The worked examples of UPDATE and DELETE, by computation.
use Rattle.std.proofs.Common.{◌≡◌, ℕ, zero, suc, List, [], ◌∷◌, Some, slice_get, refl, arith}
use Rattle.std.specs.Fmt.{digits}
use Rattle.std.specs.List.{All}
use Rattle.std.proofs.lemmas.List.Elements.{All-cons, All-nil}
use Rattle.pg_model.specs.declared.script.SetupInsert.{SetupInsert}
use Rattle.pg_model.specs.declared.statement.Change.{Change}
use Rattle.pg_model.specs.declared.statement.Statement.TheVariants as statement
use Rattle.pg_model.specs.Statements.{IsChange, IsInsert, IsSource, IsStatement}
use Rattle.pg_world.specs.Candidates.{candidates_over}
use Rattle.pg_world.specs.declared.session.SessionView.{SessionView}
use Rattle.pg_world.specs.declared.session.Progress.TheVariants.{Closed as closed}
use Rattle.pg_world.specs.Worked.{raise_all, table_t}
use Rattle.pg_relation.specs.Journals.{world_after, world_from}
use Rattle.pg_relation.specs.Setup.{setup_outcome}
use Rattle.pg_relation.specs.Stepped.{IsStepped, IsSteppedFrom}
use Rattle.pg_relation.specs.Worked.{IsDraft, IsWorked, script_of}
use Rattle.pg_relation.specs.WorkedChanges.{setup_row, delete_ten, update_key, both_raise, both_raise_journal, both_raise_lines, raised_away, raised_away_journal, raised_away_lines, undone_raise, undone_raise_journal, undone_raise_lines, two_wait, two_wait_journal, two_wait_lines, crossed_updates, crossed_updates_journal, crossed_updates_lines}
use Rattle.pg_relation.proofs.Replies.{complete_when_closed}
use Rattle.pg_relation.proofs.Runs.{legal_stepped}
use Rattle.pg_relation.proofs.Worked.{fit_all, fits_begin, fits_commit, fits_line, fits_rollback, same_closed}

-- statements that fit the table
fits_change : (change : Change) → IsChange (table_t ∷ []) change → IsStatement (table_t ∷ []) (statement.Change change)
fits_change change fits = record {
  selects = λ s is. absurd (cc is);
  inserts = λ i is. absurd (cc is);
  changes = λ c is. let e : change ≡ c = cc is in rw (← e) fits;
}

no_sources : All (IsSource (table_t ∷ [])) []
no_sources = All-nil (IsSource (table_t ∷ []))

fits_raise : IsStatement (table_t ∷ []) (statement.Change raise_all)
fits_raise = fits_change raise_all (record { target = refl; sources = no_sources; action = refl; condition = refl })

fits_delete : IsStatement (table_t ∷ []) (statement.Change delete_ten)
fits_delete = fits_change delete_ten (record { target = refl; sources = no_sources; action = refl; condition = refl })

-- rows of setup fit it
abbrev FitsRow : SetupInsert → Type 0
FitsRow row = IsInsert (table_t ∷ []) row.insert

no_rows : All FitsRow []
no_rows = All-nil FitsRow

row_before : (row : SetupInsert) (rows : List SetupInsert) → FitsRow row → All FitsRow rows → All FitsRow (row ∷ rows)
row_before row rows first others = All-cons FitsRow row rows first others

both_raise_valid : IsDraft both_raise
both_raise_valid = record {
  few_sessions = omega arith;
  distinct = refl;
  written = refl;
  tables = refl;
  inserts = row_before (setup_row 3 1 10) [] (record { target = refl; columns = refl; rows = refl }) no_rows;
  contents = fit_all 2 both_raise.lines (
    fits_line 2 0 _ (omega arith) fits_begin,
    (
      fits_line 2 0 _ (omega arith) fits_raise,
      (
        fits_line 2 1 _ (omega arith) fits_raise,
        (
          fits_line 2 0 _ (omega arith) fits_commit,
          tt,
        ),
      ),
    ),
  );
  few_lines = omega arith;
}

both_raise_stepped : IsStepped (script_of both_raise both_raise_valid) both_raise_journal
unfolding IsSteppedFrom candidates_over setup_outcome
both_raise_stepped =
    (refl, refl, (refl, refl, (refl, refl, (refl, refl, (refl, refl, (refl, refl, (refl, refl, (refl, refl, (refl, refl, (refl, refl, (refl, refl, (refl, refl, (refl, refl, (refl, refl, (refl, refl, (refl, refl, (refl, refl, tt)))))))))))))))))

both_raise_closed : (number : ℕ) (session : SessionView) →
    slice_get (world_after (script_of both_raise both_raise_valid) both_raise_journal).sessions number ≡ Some session →
    session.progress ≡ closed
unfolding world_from candidates_over setup_outcome
both_raise_closed zero session is = same_closed _ session is refl
both_raise_closed (suc zero) session is = same_closed _ session is refl
both_raise_closed (suc (suc number)) session is = absurd (cc is)

pub both_raise_worked : IsWorked both_raise both_raise_journal both_raise_lines
unfolding world_from digits candidates_over setup_outcome
both_raise_worked =
    let legal = legal_stepped (script_of both_raise both_raise_valid) both_raise_journal both_raise_stepped in
    record {
      valid = both_raise_valid;
      legal = legal;
      complete = complete_when_closed (script_of both_raise both_raise_valid) both_raise_journal legal both_raise_closed;
      stepped = both_raise_stepped;
      text = refl;
    }

raised_away_valid : IsDraft raised_away
raised_away_valid = record {
  few_sessions = omega arith;
  distinct = refl;
  written = refl;
  tables = refl;
  inserts = row_before (setup_row 3 1 10) [] (record { target = refl; columns = refl; rows = refl }) no_rows;
  contents = fit_all 2 raised_away.lines (
    fits_line 2 0 _ (omega arith) fits_begin,
    (
      fits_line 2 0 _ (omega arith) fits_raise,
      (
        fits_line 2 1 _ (omega arith) fits_delete,
        (
          fits_line 2 0 _ (omega arith) fits_commit,
          tt,
        ),
      ),
    ),
  );
  few_lines = omega arith;
}

raised_away_stepped : IsStepped (script_of raised_away raised_away_valid) raised_away_journal
unfolding IsSteppedFrom candidates_over setup_outcome
raised_away_stepped =
    (refl, refl, (refl, refl, (refl, refl, (refl, refl, (refl, refl, (refl, refl, (refl, refl, (refl, refl, (refl, refl, (refl, refl, (refl, refl, (refl, refl, (refl, refl, (refl, refl, (refl, refl, (refl, refl, (refl, refl, tt)))))))))))))))))

raised_away_closed : (number : ℕ) (session : SessionView) →
    slice_get (world_after (script_of raised_away raised_away_valid) raised_away_journal).sessions number ≡ Some session →
    session.progress ≡ closed
unfolding world_from candidates_over setup_outcome
raised_away_closed zero session is = same_closed _ session is refl
raised_away_closed (suc zero) session is = same_closed _ session is refl
raised_away_closed (suc (suc number)) session is = absurd (cc is)

pub raised_away_worked : IsWorked raised_away raised_away_journal raised_away_lines
unfolding world_from digits candidates_over setup_outcome
raised_away_worked =
    let legal = legal_stepped (script_of raised_away raised_away_valid) raised_away_journal raised_away_stepped in
    record {
      valid = raised_away_valid;
      legal = legal;
      complete = complete_when_closed (script_of raised_away raised_away_valid) raised_away_journal legal raised_away_closed;
      stepped = raised_away_stepped;
      text = refl;
    }

undone_raise_valid : IsDraft undone_raise
undone_raise_valid = record {
  few_sessions = omega arith;
  distinct = refl;
  written = refl;
  tables = refl;
  inserts = row_before (setup_row 3 1 10) [] (record { target = refl; columns = refl; rows = refl }) no_rows;
  contents = fit_all 2 undone_raise.lines (
    fits_line 2 0 _ (omega arith) fits_begin,
    (
      fits_line 2 0 _ (omega arith) fits_raise,
      (
        fits_line 2 1 _ (omega arith) fits_raise,
        (
          fits_line 2 0 _ (omega arith) fits_rollback,
          tt,
        ),
      ),
    ),
  );
  few_lines = omega arith;
}

undone_raise_stepped : IsStepped (script_of undone_raise undone_raise_valid) undone_raise_journal
unfolding IsSteppedFrom candidates_over setup_outcome
undone_raise_stepped =
    (refl, refl, (refl, refl, (refl, refl, (refl, refl, (refl, refl, (refl, refl, (refl, refl, (refl, refl, (refl, refl, (refl, refl, (refl, refl, (refl, refl, (refl, refl, (refl, refl, (refl, refl, (refl, refl, (refl, refl, tt)))))))))))))))))

undone_raise_closed : (number : ℕ) (session : SessionView) →
    slice_get (world_after (script_of undone_raise undone_raise_valid) undone_raise_journal).sessions number ≡ Some session →
    session.progress ≡ closed
unfolding world_from candidates_over setup_outcome
undone_raise_closed zero session is = same_closed _ session is refl
undone_raise_closed (suc zero) session is = same_closed _ session is refl
undone_raise_closed (suc (suc number)) session is = absurd (cc is)

pub undone_raise_worked : IsWorked undone_raise undone_raise_journal undone_raise_lines
unfolding world_from digits candidates_over setup_outcome
undone_raise_worked =
    let legal = legal_stepped (script_of undone_raise undone_raise_valid) undone_raise_journal undone_raise_stepped in
    record {
      valid = undone_raise_valid;
      legal = legal;
      complete = complete_when_closed (script_of undone_raise undone_raise_valid) undone_raise_journal legal undone_raise_closed;
      stepped = undone_raise_stepped;
      text = refl;
    }

two_wait_valid : IsDraft two_wait
two_wait_valid = record {
  few_sessions = omega arith;
  distinct = refl;
  written = refl;
  tables = refl;
  inserts = row_before (setup_row 3 1 10) [] (record { target = refl; columns = refl; rows = refl }) no_rows;
  contents = fit_all 3 two_wait.lines (
    fits_line 3 0 _ (omega arith) fits_begin,
    (
      fits_line 3 0 _ (omega arith) fits_raise,
      (
        fits_line 3 1 _ (omega arith) fits_raise,
        (
          fits_line 3 2 _ (omega arith) fits_raise,
          (
            fits_line 3 0 _ (omega arith) fits_commit,
            tt,
          ),
        ),
      ),
    ),
  );
  few_lines = omega arith;
}

two_wait_stepped : IsStepped (script_of two_wait two_wait_valid) two_wait_journal
unfolding IsSteppedFrom candidates_over setup_outcome
two_wait_stepped =
    (refl, refl, (refl, refl, (refl, refl, (refl, refl, (refl, refl, (refl, refl, (refl, refl, (refl, refl, (refl, refl, (refl, refl, (refl, refl, (refl, refl, (refl, refl, (refl, refl, (refl, refl, (refl, refl, (refl, refl, (refl, refl, (refl, refl, (refl, refl, (refl, refl, (refl, refl, (refl, refl, (refl, refl, (refl, refl, tt)))))))))))))))))))))))))

two_wait_closed : (number : ℕ) (session : SessionView) →
    slice_get (world_after (script_of two_wait two_wait_valid) two_wait_journal).sessions number ≡ Some session →
    session.progress ≡ closed
unfolding world_from candidates_over setup_outcome
two_wait_closed zero session is = same_closed _ session is refl
two_wait_closed (suc zero) session is = same_closed _ session is refl
two_wait_closed (suc (suc zero)) session is = same_closed _ session is refl
two_wait_closed (suc (suc (suc number))) session is = absurd (cc is)

pub two_wait_worked : IsWorked two_wait two_wait_journal two_wait_lines
unfolding world_from digits candidates_over setup_outcome
two_wait_worked =
    let legal = legal_stepped (script_of two_wait two_wait_valid) two_wait_journal two_wait_stepped in
    record {
      valid = two_wait_valid;
      legal = legal;
      complete = complete_when_closed (script_of two_wait two_wait_valid) two_wait_journal legal two_wait_closed;
      stepped = two_wait_stepped;
      text = refl;
    }

crossed_updates_valid : IsDraft crossed_updates
crossed_updates_valid = record {
  few_sessions = omega arith;
  distinct = refl;
  written = refl;
  tables = refl;
  inserts = row_before (setup_row 3 1 10) (setup_row 4 2 20 ∷ []) (record { target = refl; columns = refl; rows = refl })
      (row_before (setup_row 4 2 20) [] (record { target = refl; columns = refl; rows = refl }) no_rows);
  contents = fit_all 2 crossed_updates.lines (
    fits_line 2 0 _ (omega arith) fits_begin,
    (
      fits_line 2 1 _ (omega arith) fits_begin,
      (
        fits_line 2 0 _ (omega arith) (fits_change (update_key 1 11) (record { target = refl; sources = no_sources; action = refl; condition = refl })),
        (
          fits_line 2 1 _ (omega arith) (fits_change (update_key 2 21) (record { target = refl; sources = no_sources; action = refl; condition = refl })),
          (
            fits_line 2 0 _ (omega arith) (fits_change (update_key 2 12) (record { target = refl; sources = no_sources; action = refl; condition = refl })),
            (
              fits_line 2 1 _ (omega arith) (fits_change (update_key 1 22) (record { target = refl; sources = no_sources; action = refl; condition = refl })),
              (
                fits_line 2 0 _ (omega arith) fits_commit,
                (
                  fits_line 2 1 _ (omega arith) fits_commit,
                  tt,
                ),
              ),
            ),
          ),
        ),
      ),
    ),
  );
  few_lines = omega arith;
}

crossed_updates_stepped : IsStepped (script_of crossed_updates crossed_updates_valid) crossed_updates_journal
unfolding IsSteppedFrom candidates_over setup_outcome
crossed_updates_stepped =
    (refl, refl, (refl, refl, (refl, refl, (refl, refl, (refl, refl, (refl, refl, (refl, refl, (refl, refl, (refl, refl, (refl, refl, (refl, refl, (refl, refl, (refl, refl, (refl, refl, (refl, refl, (refl, refl, (refl, refl, (refl, refl, (refl, refl, (refl, refl, (refl, refl, (refl, refl, (refl, refl, (refl, refl, (refl, refl, (refl, refl, tt))))))))))))))))))))))))))

crossed_updates_closed : (number : ℕ) (session : SessionView) →
    slice_get (world_after (script_of crossed_updates crossed_updates_valid) crossed_updates_journal).sessions number ≡ Some session →
    session.progress ≡ closed
unfolding world_from candidates_over setup_outcome
crossed_updates_closed zero session is = same_closed _ session is refl
crossed_updates_closed (suc zero) session is = same_closed _ session is refl
crossed_updates_closed (suc (suc number)) session is = absurd (cc is)

pub crossed_updates_worked : IsWorked crossed_updates crossed_updates_journal crossed_updates_lines
unfolding world_from digits candidates_over setup_outcome
crossed_updates_worked =
    let legal = legal_stepped (script_of crossed_updates crossed_updates_valid) crossed_updates_journal crossed_updates_stepped in
    record {
      valid = crossed_updates_valid;
      legal = legal;
      complete = complete_when_closed (script_of crossed_updates crossed_updates_valid) crossed_updates_journal legal crossed_updates_closed;
      stepped = crossed_updates_stepped;
      text = refl;
    }
