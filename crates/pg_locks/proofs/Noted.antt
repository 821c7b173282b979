-- What is noted for each transaction covers what it holds.
use Rattle.std.proofs.Common.{◌≡◌, ◌⊎◌, inl, inr, ℕ, Bool, true, cond, nat_eq, List, [], ◌∷◌, None, unwrap_or, take, ap, subst, sym, ◌∙◌, ne_eqb}
use Rattle.std.specs.List.{list_any}
use Rattle.std.specs.Map.{lookup}
use Rattle.pg_multi.specs.declared.row_lock.RowLock.{RowLock}
use Rattle.pg_multi.specs.declared.strength.Strength.{Strength}
use Rattle.pg_locks.specs.Locks.{is_held, locks_ended, locks_held, locks_of_row_added}
use Rattle.pg_locks.specs.Notes.{AreNoted, IsNoted, KeepsNotes}
use Rattle.pg_locks.proofs.Held.{added_at, fewer_held, held_before, held_still}

pub noted_added : (rows : List (List RowLock)) (notes : List (ℕ × List ℕ)) → AreNoted rows notes → AreNoted (locks_of_row_added rows) notes
noted_added rows notes noted row xact is = noted row xact (ap (λ locks. is_held_in locks xact) (sym (added_at rows row)) ∙ is)
  where
    is_held_in : List RowLock → ℕ → Bool
    is_held_in locks xact = is_held (locks ∷ []) 1 xact

pub noted_fewer : (count : ℕ) (rows : List (List RowLock)) (notes : List (ℕ × List ℕ)) → AreNoted rows notes → AreNoted (take count rows) notes
noted_fewer count rows notes noted row xact is = noted row xact (fewer_held count rows row xact is)

pub noted_more : (rows : List (List RowLock)) (before after : List (ℕ × List ℕ)) → AreNoted rows before → KeepsNotes before after → AreNoted rows after
noted_more rows before after noted keeps row xact is = keeps xact row (noted row xact is)

pub noted_held : (rows : List (List RowLock)) (notes : List (ℕ × List ℕ)) (xact row : ℕ) (strength : Strength) → AreNoted rows notes → IsNoted notes xact row →
    AreNoted (locks_held rows xact row strength) notes
noted_held rows notes xact row strength noted is other_row other held = at (held_before rows xact row strength other_row other held)
  where
    at : (is_held rows other_row other ≡ true) ⊎ ((other_row ≡ row) × (other ≡ xact)) → IsNoted notes other other_row
    at (inl before) = noted other_row other before
    at (inr new) = rw (new.0, new.1) is

-- a transaction ends, and what is noted for others stays
pub noted_ended : (rows : List (List RowLock)) (before after : List (ℕ × List ℕ)) (xact : ℕ) →
    ((other : ℕ) → lookup (nat_eq other) after ≡ cond (nat_eq xact other) None (lookup (nat_eq other) before)) → AreNoted rows before →
    AreNoted (locks_ended xact rows) after
noted_ended rows before after xact same noted row other is =
    let held = held_still rows xact row other is in
    let stays = same other ∙ ap (λ b. cond b None (lookup (nat_eq other) before)) (ne_eqb xact other (λ e. held.1 (sym e))) in
    subst (λ o. list_any (nat_eq row) (unwrap_or o []) ≡ true) (sym stays) (noted row other held.0)
