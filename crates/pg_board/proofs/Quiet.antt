-- The steps without an entry are bounded: by the tables that the statement reads, and by how many
-- versions a table has at most.
use Rattle.std.proofs.Common.{◌≡◌, ◌≤◌, ◌+◌, ◌*◌, ℕ, List, Bool, true, false, length, Option, Some, None, refl, arith}
use Rattle.std.specs.Prelude.{Result, Ok}
use Rattle.std.specs.Option.{option_map_or}
use Rattle.std.proofs.lemmas.Option.{slice_get_within}
use Rattle.pg_lists.specs.Numbered.{item_at}
use Rattle.pg_xacts.specs.Transactions.{Transactions}
use Rattle.pg_model.specs.declared.error.SqlError.{SqlError}
use Rattle.pg_model.specs.declared.script.Script.{Script}
use Rattle.pg_model.specs.declared.statement.Statement.{Statement}
use Rattle.pg_world.specs.Candidates.{tables_read}
use Rattle.pg_world.specs.declared.session.Progress.{Progress}
use Rattle.pg_world.specs.declared.session.Progress.TheVariants.{Inside as inside}
use Rattle.pg_world.specs.declared.session.Running.{Running}
use Rattle.pg_world.specs.declared.session.SessionView.{SessionView}
use Rattle.pg_world.specs.declared.session.Stage.{Stage}
use Rattle.pg_world.specs.declared.session.Stage.TheVariants.{Between as between, Found as found, Locked as locked, Placed as placed}
use Rattle.pg_world.specs.Worlds.{World, session_of}
use Rattle.pg_relation.specs.Lines.{statement_at}
use Rattle.pg_relation.proofs.Lists.{slice_get_none}
use Rattle.pg_table.specs.States.{TableState}
use Rattle.pg_scans.specs.Readings.{ReadingView, pieces_left}
use Rattle.pg_scans.proofs.Bounds.{left_bounded}
use Rattle.pg_update.specs.Steps.{reading_left, stagings_at}
use Rattle.pg_board.specs.Board.{tables_of_statement}
use Rattle.pg_board.specs.declared.server.Server.{Server}
use Rattle.pg_board.specs.declared.session.Machine.{Machine}
use Rattle.pg_board.specs.declared.session.Machine.TheVariants as machine_of
use Rattle.pg_board.specs.declared.session.Place.{Place}
use Rattle.pg_board.specs.declared.session.Place.TheVariants as place_of
use Rattle.pg_board.specs.declared.session.Session.{Session}
use Rattle.pg_board.specs.Machines.{machine_quiet}
use Rattle.pg_board.specs.Servers.{IsMachineOf, IsProgressOf, IsRunningOf, IsServerOf, reading_of, running_of}
use Rattle.pg_board.specs.Steps.{place_quiet, quiet_in}

-- new values are staged in one step
staging_bounded : (stage : Stage) (staged : Bool) → stagings_at stage staged ≤ 1
staging_bounded between staged = omega arith
staging_bounded found staged = omega arith
staging_bounded (locked name) true = omega arith
staging_bounded (locked name) false = omega arith
staging_bounded (placed row) staged = omega arith

module _ (tables : List TableState) (transactions : Transactions) (most : ℕ) where
  -- what a statement has still to read is bounded by the tables that it reads
  reading_bounded : (reading : Option ReadingView) (given : Statement) →
      ((one : ReadingView) → reading ≡ Some one → one.tables ≡ tables_read given) →
      reading_left most reading ≤ 1 + length (tables_read given) * (1 + most)
  reading_bounded None given are = omega arith
  reading_bounded (Some one) given are =
      let h = left_bounded most one in rw (← are one refl) (omega (arith, h))

  machine_bounded : (machine : Machine) (given : Statement) →
      ((one : ReadingView) → reading_of machine ≡ Some one → one.tables ≡ tables_read given) →
      machine_quiet most machine ≤ 16 + length (tables_read given) * (1 + most)
  machine_bounded (machine_of.Insert insert) given are = omega arith
  machine_bounded (machine_of.Select select) given are = at select.reading (reading_bounded select.reading given are)
    where
      at : (reading : Option ReadingView) → reading_left most reading ≤ 1 + length (tables_read given) * (1 + most) →
          machine_quiet most (machine_of.Select (record select { reading = reading })) ≤ 16 + length (tables_read given) * (1 + most)
      at None h = omega arith
      at (Some one) h = omega (arith, h)
  machine_bounded (machine_of.Change change) given are =
      let h = reading_bounded change.reading given are in
      let k = staging_bounded change.running.stage change.staged in
      omega (arith, h, k)

  -- what a machine reads is what its statement reads
  tables_are : (own : Statement) (kept shown : Running) (reading : Option ReadingView) →
      IsRunningOf tables transactions own kept reading shown → (one : ReadingView) → reading ≡ Some one → one.tables ≡ tables_read own
  tables_are own kept shown None running one is = absurd (cc is)
  tables_are own kept shown (Some reading) running one is =
      let e : reading ≡ one = cc is in rw (← e) running.reads.tables_are

  place_bounded : (given : Option (Result Statement SqlError)) (place : Place) (progress : Progress) →
      IsProgressOf tables transactions given place progress → place_quiet most place ≤ 16 + tables_of_statement given * (1 + most)
  place_bounded given place_of.Idle progress is = omega arith
  place_bounded given (place_of.Inside machine) progress is = at is
    where
      at : ((own : Statement) × (given ≡ Some (Ok own)) × (shown : Running) × (progress ≡ inside shown) × IsMachineOf tables transactions own machine shown) →
          machine_quiet most machine ≤ 16 + tables_of_statement given * (1 + most)
      at (own, given_is, shown, progress_is, stands) =
          rw given_is (machine_bounded machine own (tables_are own (running_of machine) shown (reading_of machine) stands.running))
  place_bounded given (place_of.Ending tag) progress is = omega arith
  place_bounded given place_of.Closed progress is = omega arith

-- no session makes more steps without an entry than its statement allows
pub quiet_bounded : (script : Script) (server : Server) (world : World) (most number : ℕ) → IsServerOf script server world →
    quiet_in most server number
    ≤ 16 + option_map_or (λ session. tables_of_statement (statement_at script number session)) (session_of world number) 0 * (1 + most)
quiet_bounded script server world most number is = kept (item_at server.sessions number) refl
  where
    tables_at : Option SessionView → ℕ
    tables_at view = option_map_or (λ session. tables_of_statement (statement_at script number session)) view 0

    shown : (session : Session) → item_at server.sessions number ≡ Some session → (view : Option SessionView) →
        session_of world number ≡ view → place_quiet most session.place ≤ 16 + tables_at view * (1 + most)
    shown session there None none =
        let h = slice_get_within server.sessions number session there in
        let k = slice_get_none world.sessions number none in
        absurd (omega (arith, h, k, is.count))
    shown session there (Some view) here =
        place_bounded server.tables server.xacts most (statement_at script number view) session.place view.progress
        (is.each number session view there here).progress

    kept : (one : Option Session) → item_at server.sessions number ≡ one →
        option_map_or (λ session. place_quiet most session.place) one 0
        ≤ 16 + tables_at (session_of world number) * (1 + most)
    kept None none = omega arith
    kept (Some session) there = shown session there (session_of world number) refl
