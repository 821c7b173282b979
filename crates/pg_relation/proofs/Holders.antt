-- Who holds a row at which strength, where others join and leave.
use Rattle.std.proofs.Common.{◌≡◌, ◌≢◌, ◌≤◌, ◌⊎◌, ℕ, true, List, Option, Some, None, refl, sym, ap, ◌∙◌, inl, inr, arith}
use Rattle.std.proofs.lemmas.Bool.{cases_eq}
use Rattle.pg_multi.specs.declared.row_lock.RowLock.{RowLock}
use Rattle.pg_multi.specs.declared.strength.Strength.{Strength}
use Rattle.pg_multi.specs.declared.strength.Strength.TheVariants.{NoKeyUpdate}
use Rattle.pg_multi.specs.Locks.{lock_joined, locks_left, strength_joined, strongest_of}
use Rattle.pg_multi.specs.Strengths.{conflicts, rank_of, stronger}
use Rattle.pg_multi.proofs.Holders.{joined_other, joined_own, left_other}
use Rattle.pg_multi.proofs.Strengths.{conflicts_both, stronger_rank, with_more}
use Rattle.pg_relation.specs.Locking.{HoldsAtLeast}

-- two who hold a row for a change are one
pub change_conflicts : (a b : Strength) → rank_of NoKeyUpdate ≤ rank_of a → rank_of NoKeyUpdate ≤ rank_of b →
    conflicts a b ≡ true
change_conflicts a b one other =
    with_more NoKeyUpdate a b one
    (conflicts_both NoKeyUpdate b ∙ with_more NoKeyUpdate b NoKeyUpdate other refl)

-- who holds a row holds it on, whoever joins
pub holds_joined : (locks : List RowLock) (xact other : ℕ) (strength asked : Strength) → HoldsAtLeast locks other strength →
    HoldsAtLeast (lock_joined locks xact asked) other strength
holds_joined locks xact other strength asked holds = at (cases_eq other xact)
  where
    own : other ≡ xact → HoldsAtLeast (lock_joined locks xact asked) other strength
    own same =
        let had : strongest_of locks xact ≡ Some holds.0 = ap (λ x. strongest_of locks x) (sym same) ∙ holds.1 in
        let now : strongest_of (lock_joined locks xact asked) other ≡ Some (stronger holds.0 asked) =
        ap (λ x. strongest_of (lock_joined locks xact asked) x) same
        ∙ (joined_own locks xact asked ∙ ap (λ o. Some (strength_joined o asked)) had) in
        (stronger holds.0 asked, now, let r = stronger_rank holds.0 asked in let h = holds.2 in omega (arith, r, h))

    at : (other ≡ xact) ⊎ (other ≡ xact → ⊥) → HoldsAtLeast (lock_joined locks xact asked) other strength
    at (inl same) = own same
    at (inr apart) = (holds.0, joined_other locks xact other asked apart ∙ holds.1, holds.2)

-- who joins holds it
pub holds_own : (locks : List RowLock) (xact : ℕ) (asked : Strength) → HoldsAtLeast (lock_joined locks xact asked) xact asked
holds_own locks xact asked = at (strongest_of locks xact) refl
  where
    at : (o : Option Strength) → strongest_of locks xact ≡ o → HoldsAtLeast (lock_joined locks xact asked) xact asked
    at None is = (asked, joined_own locks xact asked ∙ ap (λ o. Some (strength_joined o asked)) is, omega arith)
    at (Some held) is = (
      stronger held asked,
      joined_own locks xact asked ∙ ap (λ o. Some (strength_joined o asked)) is,
      let r = stronger_rank held asked in omega (arith, r),
    )

-- whoever else leaves
pub holds_left : (locks : List RowLock) (xact other : ℕ) (strength : Strength) → other ≢ xact →
    HoldsAtLeast locks other strength → HoldsAtLeast (locks_left locks xact) other strength
holds_left locks xact other strength apart holds = (holds.0, left_other locks xact other apart ∙ holds.1, holds.2)
