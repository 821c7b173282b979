-- The first sessions, and the tables after setup.
use Rattle.std.proofs.Common.{◌≡◌, ◌<◌, ◌+◌, ◌++◌, ℕ, zero, suc, List, [], ◌∷◌, length, map, take, refl, ap, arith, add-one}
use Rattle.std.specs.Prelude.{Ok}
use Rattle.pg_model.specs.declared.script.Script.{Script}
use Rattle.pg_board.specs.Servers.{first_session}
use Rattle.pg_world.specs.declared.table.TableView.{TableView}
use Rattle.pg_relation.specs.Setup.{first_world, setup_outcome}

-- one session more
one_more : (names : List (List ℕ)) (n : ℕ) → n < length names →
    map (λ name. first_session) (take n names) ++ first_session ∷ [] ≡ map (λ name. first_session) (take (suc n) names)
one_more [] n within = absurd (omega (arith, within))
one_more (name ∷ names) zero within = refl
one_more (name ∷ names) (suc n) within = ap (λ xs. first_session ∷ xs) (one_more names n (omega (arith, within)))

pub fresh_more : (names : List (List ℕ)) (n : ℕ) → n < length names →
    map (λ name. first_session) (take n names) ++ first_session ∷ [] ≡ map (λ name. first_session) (take (n + 1) names)
fresh_more names n within = rw add-one (one_more names n within)

-- all of them
pub fresh_all : (names : List (List ℕ)) →
    map (λ name. first_session) (take (length names) names) ≡ map (λ name. first_session) names
fresh_all [] = refl
fresh_all (name ∷ names) = ap (λ xs. first_session ∷ xs) (fresh_all names)

-- the tables of the first world, where setup raises no error
pub tables_set : (script : Script) (tables : List TableView) → setup_outcome script ≡ Ok tables →
    (first_world script).tables ≡ tables
tables_set script tables is = rw is refl
