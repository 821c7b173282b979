-- The names that an expression may use: sources, each under a name, with their columns.
use Rattle.std.specs.Prelude.{ℕ, suc, List, [], ◌∷◌, ◌++◌, map, Option}
use Rattle.std.specs.Option.{option_map_or}
use Rattle.pg_values.specs.declared.value.Kind.{Kind}
use Rattle.pg_names.specs.Names.{number_of}
use Rattle.pg_model.specs.declared.catalogue.Column.{Column}
use Rattle.pg_model.specs.Kinds.{kinds_of}
use Rattle.pg_resolve.specs.declared.scope.Found.{Found}
use Rattle.pg_resolve.specs.declared.scope.Found.TheVariants as found
use Rattle.pg_resolve.specs.declared.scope.Known.{Known}

-- the names of the columns
abbrev pub column_names : List Column → List (List ℕ)
column_names columns = map (λ column. column.name) columns

-- where a column of that name stands in a source, if there is one: the numbers of the source and of the column
abbrev pub place_in : ℕ → List Column → List ℕ → List (ℕ × ℕ)
place_in source columns name = option_map_or (λ column. (source, column) ∷ []) (number_of (column_names columns) name) []

-- where columns of that name stand, in order of the sources, which are numbered from the one given
abbrev pub places_from : ℕ → List Known → List ℕ → List (ℕ × ℕ)
places_from source [] name = []
places_from source (known ∷ scope) name = place_in source known.columns name ++ places_from (suc source) scope name

-- where the columns stand that a bare name may mean
abbrev pub places : List Known → List ℕ → List (ℕ × ℕ)
places scope name = places_from 0 scope name

-- the names of the sources
abbrev pub source_names : List Known → List (List ℕ)
source_names scope = map (λ known. known.name) scope

-- the number of the source of that name
abbrev pub source_named : List Known → List ℕ → Option ℕ
source_named scope name = number_of (source_names scope) name

-- the kinds of the columns of each source
abbrev pub scope_kinds : List Known → List (List (Option Kind))
scope_kinds scope = map (λ known. kinds_of known.columns) scope

-- what is found with one place more
abbrev pub found_also : Found → ℕ × ℕ → Found
found_also found.Nowhere place = found.At place.0 place.1
found_also (found.At source column) place = found.Several
found_also found.Several place = found.Several

-- what is found with all these places more
abbrev pub found_in : Found → List (ℕ × ℕ) → Found
found_in before [] = before
found_in before (place ∷ places) = found_in (found_also before place) places
