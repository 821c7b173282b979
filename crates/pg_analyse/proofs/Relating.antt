-- One table more of a FROM list.
use Rattle.std.proofs.Common.{◌≡◌, sym, ap, ◌∙◌, List, ℕ, [], ◌∷◌, ◌++◌, append_assoc, subst, Option}
use Rattle.std.proofs.lemmas.List.{map-append}
use Rattle.std.proofs.lemmas.List.Elements.{filter_map-append}
use Rattle.std.specs.Option.{option_map}
use Rattle.std.specs.Prelude.{IfErr, IsErrAnd, Result}
use Rattle.pg_model.specs.declared.catalogue.TableShape.{TableShape}
use Rattle.pg_model.specs.declared.error.SqlError.{SqlError}
use Rattle.pg_model.specs.declared.statement.Source.{Source}
use Rattle.pg_model.specs.declared.statement.Source.TheVariants as source
use Rattle.pg_parse_stmt.specs.declared.tree.TableRef.{TableRef}
use Rattle.pg_resolve.specs.declared.fault.AnalyseFault.{AnalyseFault}
use Rattle.pg_resolve.specs.declared.scope.Known.{Known}
use Rattle.pg_parse_stmt.specs.declared.tree.Select.{Select as SelectTree}
use Rattle.pg_resolve.specs.Causes.{Stops, in_order}
use Rattle.pg_analyse.specs.Queries.{known_as, known_name, part_errors, reference_errors, relation_errors, scope_of, select_phases, sources_of, table_named, tables_in}
use Rattle.pg_resolve.specs.Scope.{source_names}
use Rattle.pg_resolve.proofs.Stopping.{passed_up, stops_before, stops_behind}

pub step_scope : (catalogue : List TableShape) (before after : List Known) (table : TableRef) (rest : List TableRef) →
    after ≡ before ++ known_as catalogue table ∷ [] →
    after ++ scope_of catalogue rest ≡ before ++ scope_of catalogue (table ∷ rest)
step_scope catalogue before after table rest is =
    ap (λ items. items ++ scope_of catalogue rest) is
    ∙ append_assoc before (known_as catalogue table ∷ []) (scope_of catalogue rest)

abbrev source_at : List TableShape → TableRef → Option Source
source_at catalogue table = option_map source.Table (table_named catalogue table.name)

pub step_sources : (catalogue : List TableShape) (before after : List Source) (table : TableRef) (rest : List TableRef) →
    after ≡ before ++ sources_of catalogue (table ∷ []) →
    after ++ sources_of catalogue rest ≡ before ++ sources_of catalogue (table ∷ rest)
step_sources catalogue before after table rest is =
    ap (λ items. items ++ sources_of catalogue rest) is
    ∙ append_assoc before (sources_of catalogue (table ∷ [])) (sources_of catalogue rest)
    ∙ ap (λ items. before ++ items) (sym (filter_map-append (source_at catalogue) (table ∷ []) rest))

pub step_relations : (catalogue : List TableShape) (before after : List Known) (table : TableRef) (rest : List TableRef) →
    after ≡ before ++ known_as catalogue table ∷ [] → reference_errors catalogue (source_names before) table ≡ [] →
    relation_errors catalogue (source_names after) rest ≡ relation_errors catalogue (source_names before) (table ∷ rest)
step_relations catalogue before after table rest is none =
    ap (λ items. relation_errors catalogue (source_names items) rest) is
    ∙ ap (λ names. relation_errors catalogue names rest)
    (map-append (λ known. known.name) before (known_as catalogue table ∷ []))
    ∙ sym (ap (λ errors. errors ++ relation_errors catalogue (source_names before ++ known_name table ∷ []) rest) none)

pub step_stops : (catalogue : List TableShape) (names : List (List ℕ)) (table : TableRef) (rest : List TableRef)
    (errors : List SqlError) (fault : AnalyseFault) → relation_errors catalogue names (table ∷ rest) ≡ errors →
    Stops (reference_errors catalogue names table) fault → Stops errors fault
step_stops catalogue names table rest errors fault is stops =
    subst (λ all. Stops all fault) is (stops_before (reference_errors catalogue names table) _ fault stops)

-- a fault of the expressions, where the relations have none
pub parts_stop : {V : Type 0} (catalogue : List TableShape) (select : SelectTree) (scope : List Known)
    (fault : AnalyseFault) (result : Result V AnalyseFault) → scope ≡ scope_of catalogue (tables_in select.from) →
    relation_errors catalogue [] (tables_in select.from) ≡ [] → Stops (part_errors scope select) fault →
    IsErrAnd result (λ up. up ≡ fault) → IfErr result (Stops (in_order (select_phases catalogue select)))
parts_stop catalogue select scope fault result is none stops up =
    passed_up result fault (Stops (in_order (select_phases catalogue select))) up
    (stops_behind (relation_errors catalogue [] (tables_in select.from)) _ fault none
    (stops_before (part_errors (scope_of catalogue (tables_in select.from)) select) [] fault
    (subst (λ known. Stops (part_errors known select) fault) is stops)))
