-- Sources, and what they are seen as in a list.
use Rattle.std.proofs.Common.{◌∷◌, ℕ, []}
use Rattle.pg_parse_stmt.proofs.Common.{more, Spelled, spelled_bind, spelled_more, SourceRule, table_source, one_source, alone, next_source, from_of, from, source, sources_of, spelled_table_source, spelled_source}
use Rattle.pg_parse_stmt.proofs.Froms.{spelled_alone}

pub spelled_from : {S : Type 0} (source : SourceRule S) (count : S → ℕ) (n : ℕ) → Spelled (source n) →
    Spelled (from_of source count n)
unfolding from_of
spelled_from source count n a =
    spelled_bind (alone (source n)) (λ x. more (next_source source count n) (x ∷ [])) (spelled_alone (source n) a)
    (λ x. spelled_more (next_source source count n) (x ∷ []))

pub spelled_tables : (n : ℕ) → Spelled (from_of table_source one_source n)
spelled_tables n = spelled_from table_source one_source n (spelled_table_source n)

pub spelled_sources : Spelled from
unfolding from
spelled_sources = spelled_from source sources_of 0 (spelled_source 0)
