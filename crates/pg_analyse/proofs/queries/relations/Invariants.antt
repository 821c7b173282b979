-- The sources so far, and those left.
use Rattle.std.proofs.Common.{◌≡◌, ◌++◌, [], drop}
use Rattle.pg_analyse.specs.Queries.{relation_errors, scope_of, sources_of, tables_in}
use Rattle.pg_resolve.specs.Scope.{source_names}
use Rattle.pg_analyse.proofs.queries.relations.Given as goal

abbrev pub invariant-loop-joined : goal.invariant-loop-joined
invariant-loop-joined l =
    (l.scope ++ scope_of l.catalogue (tables_in (drop l.joined-index l.list)) ≡ scope_of l.catalogue (tables_in l.list))
    × (l.sources ++ sources_of l.catalogue (tables_in (drop l.joined-index l.list)) ≡ sources_of l.catalogue (tables_in l.list))
    × (relation_errors l.catalogue (source_names l.scope) (tables_in (drop l.joined-index l.list))
    ≡ relation_errors l.catalogue [] (tables_in l.list))
