-- How a crate above shows that its runs end, for its `next : S → Option E`, `after : S → E → S` and `weight : S → List ℕ`:
-- 1. weight: `weight w = totals numbers w.parties ++ ..` with `numbers = (λ party x. ..) ∷ ..` (specs/Totals), or any list
-- 2. it falls: a lemma `Falls next after weight`, by totals_fall_at
-- 3. the loop's measure: `decreases-loop-x l = steps_left next after weight l.w`, from proofs.Ending
-- 4. its goal: `steps_fall next after weight old new e new_is next_is (falls old e next_is)`, as an answer or named by using(..)
--    in a lemma of one's own with these premises; invariant `RunsTo next after start l.taken l.w`, kept by runs_to_more
-- 5. at the end runs_to_end gives `IsRunOf next after start taken`; such a list is one (run_is_one), and exists (runs_once)
pub mod Less
pub mod Ending
pub mod Totals
mod Countdown
