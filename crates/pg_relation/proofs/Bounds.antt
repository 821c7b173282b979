-- How many transactions and commits there can be.
use Rattle.std.proofs.Common.{◌≡◌, ◌≤◌, ◌+◌, ℕ, List, [], ◌∷◌, length, Option, Some, None, slice_get, refl, arith, mul-le-mul}
use Rattle.std.specs.Prelude.{filter_map, Result}
use Rattle.std.proofs.lemmas.List.Sums.{sum_by-le}
use Rattle.std.proofs.lemmas.Option.{slice_get_within}
use Rattle.pg_model.specs.declared.error.SqlError.{SqlError}
use Rattle.pg_model.specs.declared.script.Script.{Script}
use Rattle.pg_model.specs.declared.statement.Statement.{Statement}
use Rattle.pg_world.specs.declared.session.Progress.{Progress}
use Rattle.pg_world.specs.declared.session.SessionView.{SessionView}
use Rattle.pg_world.specs.declared.session.Progress.TheVariants.{Idle as idle, Inside as inside, Ending as ending, Closed as closed}
use Rattle.pg_world.specs.Worlds.{World}
use Rattle.pg_relation.specs.Lines.{given_to, statements_of}
use Rattle.pg_relation.specs.Sound.{CanStand, IsBounded, IsSound, begun_by}
use Rattle.pg_relation.specs.Weight.{statements_begun}
use Rattle.pg_relation.proofs.Lists.{all_each}

-- no more than there are
length_filter_map : {X Y : Type 0} (f : X → Option Y) (xs : List X) → length (filter_map f xs) ≤ length xs
length_filter_map f [] = omega arith
length_filter_map {Y = Y} f (x ∷ xs) = at (f x) refl (length_filter_map f xs)
  where
    at : (o : Option Y) → f x ≡ o → length (filter_map f xs) ≤ length xs → length (filter_map f (x ∷ xs)) ≤ length (x ∷ xs)
    at None is most = rw is (omega (arith, most))
    at (Some y) is most = rw is (omega (arith, most))

-- a session has begun no more statements than it is given
stands_within : (given : List (Result Statement SqlError)) (answered : ℕ) (progress : Progress) →
    CanStand given answered progress → answered + statements_begun progress ≤ length given
stands_within given answered idle stands = omega (arith, stands)
stands_within given answered (inside running) stands = omega (arith, slice_get_within given answered _ stands.1)
stands_within given answered (ending tag) stands = omega (arith, stands)
stands_within given answered closed stands = omega (arith, stands)

pub bounds : (script : Script) (world : World) → IsSound script world → IsBounded world
bounds script world sound =
    let most = sum_by-le begun_by (length script.lines) world.sessions (all_each (λ s. begun_by s ≤ length script.lines) world.sessions each) in
    let few : length world.sessions ≤ 32 = omega (arith, sound.sessions, script.valid.few_sessions) in
    let lines : length script.lines ≤ 1048576 = omega (arith, script.valid.few_lines) in
    let wide = mul-le-mul few lines in
    record {
      transactions = omega (arith, sound.begun, most, wide);
      commits = omega (arith, sound.begun, sound.committed, most, wide);
    }
  where
    each : (number : ℕ) (session : SessionView) → slice_get world.sessions number ≡ Some session →
        begun_by session ≤ length script.lines
    each number session is =
        omega (
          arith,
          stands_within (statements_of script number) session.answered session.progress (sound.standing number session is),
          length_filter_map (λ line. given_to number line.content) script.lines,
        )
