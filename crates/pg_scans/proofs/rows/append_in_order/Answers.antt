use Rattle.std.proofs.Common.{rules, subst, sym}
use Rattle.std.proofs.lemmas.List.Sorted.{IsNonDecreasingBy-from_sort_by_key, answers_always}
use Rattle.pg_scans.proofs.Ordered.{sorted_is}
use Rattle.pg_scans.specs.Readings.{AreDrawn}
use Rattle.pg_scans.proofs.rows.append_in_order.Goals as goal

pub returns-in-Ok-clause-ok : goal.returns-in-Ok-clause-ok
returns-in-Ok-clause-ok c =
    λ drawn within.
    rw (← c.in_ok-append_rows.ensures.ok)
    (sorted_is c.append_rows.new.rows.items c.sort_by_key.new.self.items drawn c.sort_by_key.ensures.permutation
    (IsNonDecreasingBy-from_sort_by_key (λ s. s.row) _ c.in-Ok.ensures.sorted (λ a r q k. search rules))
    (c.sort_by_key.ensures.stable (λ s. s.row) (answers_always _ _ _ (λ f a r g h. search rules)))
    (subst (λ rows. AreDrawn drawn rows) (sym c.in_ok-append_rows.ensures.ok) within))
