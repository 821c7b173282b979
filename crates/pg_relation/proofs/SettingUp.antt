-- What holds of each table, where one is changed, where all are, and after setup.
use Rattle.std.proofs.Common.{◌≡◌, ℕ, zero, suc, List, [], ◌∷◌, map, Option, Some, None, slice_get, slice_set, refl, subst}
use Rattle.std.specs.Prelude.{Result, Ok, Err}
use Rattle.std.specs.Option.{option_map_or}
use Rattle.pg_lists.specs.Numbered.{with_changed_item}
use Rattle.pg_values.specs.declared.value.Value.{Value}
use Rattle.pg_model.specs.declared.error.SqlError.{SqlError}
use Rattle.pg_model.specs.declared.script.Script.{Script}
use Rattle.pg_model.specs.declared.script.SetupInsert.{SetupInsert}
use Rattle.pg_world.specs.declared.candidate.Candidate.{Candidate}
use Rattle.pg_world.specs.Candidates.{insert_candidates}
use Rattle.pg_world.specs.declared.table.TableView.{TableView}
use Rattle.pg_world.specs.Tables.{empty_table, row_added}
use Rattle.pg_relation.specs.Locking.{Each}
use Rattle.pg_relation.specs.Setup.{OrSetupError, rows_added, setup_me, tables_inserted, tables_or_error, tables_set_up, declared_tables, setup_outcome, tables_after, first_world}

pub each_at : {X : Type 0} (P : X → Type 0) (xs : List X) (number : ℕ) (x : X) → Each P xs → slice_get xs number ≡ Some x → P x
each_at P [] number x all is = absurd (cc is)
each_at P (first ∷ xs) zero x all is = let e : first ≡ x = cc is in subst P e all.0
each_at P (first ∷ xs) (suc number) x all is = each_at P xs number x all.1 is

each_set : {X : Type 0} (P : X → Type 0) (xs : List X) (number : ℕ) (x : X) → Each P xs → P x → Each P (slice_set xs number x)
each_set P [] number x all one = tt
each_set P (first ∷ xs) zero x all one = (one, all.1)
each_set P (first ∷ xs) (suc number) x all one = (all.0, each_set P xs number x all.1 one)

pub each_changed : {X : Type 0} (P : X → Type 0) (change : X → X) → ((x : X) → P x → P (change x)) → (xs : List X) (number : ℕ) →
    Each P xs → Each P (with_changed_item change xs number)
each_changed {X = X} P change keeps xs number all = at (slice_get xs number) refl
  where
    at : (o : Option X) → slice_get xs number ≡ o → Each P (option_map_or (λ x. slice_set xs number (change x)) o xs)
    at None is = all
    at (Some x) is = each_set P xs number (change x) all (keeps x (each_at P xs number x all is))

pub each_mapped : {X Y : Type 0} (P : X → Type 0) (Q : Y → Type 0) (change : X → Y) → ((x : X) → P x → Q (change x)) → (xs : List X) →
    Each P xs → Each Q (map change xs)
each_mapped P Q change keeps [] all = tt
each_mapped P Q change keeps (x ∷ xs) all = (keeps x all.0, each_mapped P Q change keeps xs all.1)

-- what holds of a table without rows, and is kept where setup adds one, holds of each table after setup
module _ (P : TableView → Type 0) (empty : P empty_table)
    (added : (table : TableView) (values : List Value) → P table → P (row_added table setup_me values)) where
  kept_added : (candidates : List Candidate) (table : TableView) → P table → P (rows_added candidates table)
  kept_added [] table holds = holds
  kept_added (candidate ∷ candidates) table holds =
      kept_added candidates (row_added table setup_me candidate.made) (added table candidate.made holds)

  kept_set_up : (setup : List SetupInsert) (tables behind : List TableView) → Each P tables → tables_set_up setup tables ≡ Ok behind →
      Each P behind
  kept_set_up [] tables behind all is = let e : tables ≡ behind = cc is in subst (λ ts. Each P ts) e all
  kept_set_up (first ∷ others) tables behind all is =
      at (insert_candidates first.insert) is (λ t holds i. kept_set_up others t behind holds i)
    where
      at : (candidates : Result (List Candidate) SqlError) →
          tables_or_error (λ t. tables_set_up others t) (tables_inserted tables first candidates) ≡ Ok behind →
          ((t : List TableView) → Each P t → tables_set_up others t ≡ Ok behind → Each P behind) → Each P behind
      at (Err error) is more = absurd (cc is)
      at (Ok candidates) is more =
          more (with_changed_item (rows_added candidates) tables first.insert.target.table)
          (each_changed P (rows_added candidates) (kept_added candidates) tables first.insert.target.table all) is

  kept_empty : {X : Type 0} (xs : List X) → Each P (map (λ x. empty_table) xs)
  kept_empty [] = tt
  kept_empty (x ∷ xs) = (empty, kept_empty xs)

  kept_outcome : (script : Script) (outcome : OrSetupError) → setup_outcome script ≡ outcome → Each P (tables_after script outcome)
  unfolding setup_outcome
  kept_outcome script (Err error) is = kept_empty script.catalogue
  kept_outcome script (Ok tables) is = kept_set_up script.setup (declared_tables script) tables (kept_empty script.catalogue) is

  pub each_first : (script : Script) → Each P (first_world script).tables
  each_first script = kept_outcome script (setup_outcome script) refl
