-- The look at a row that is locked, and what is permitted behind it.
use Rattle.std.proofs.Common.{◌≡◌, ◌&&◌, Bool, true, false, nat_eq, List, [], ◌∷◌, Option, Some, None, refl, ap, eq-eqb}
use Rattle.std.specs.Prelude.{Ok, Err, if◌then◌else◌}
use Rattle.std.specs.Option.{option_map_or}
use Rattle.pg_values.specs.declared.value.Value.{Value}
use Rattle.pg_heap.specs.Current.{newest}
use Rattle.pg_heap.specs.Rows.{is_written_by, version_by}
use Rattle.pg_heap.specs.declared.row.Row.{Row}
use Rattle.pg_heap.specs.declared.version.Version.{Version}
use Rattle.pg_model.specs.declared.journal.EntryAct.TheVariants as entry
use Rattle.pg_model.specs.declared.statement.Change.{Change}
use Rattle.pg_world.specs.Candidates.{passes}
use Rattle.pg_world.specs.Changes.{act_on, changing_choices, is_as_seen, locked_choices, name_of, new_values, partners_locked, second_look, target_row, with_target_version}
use Rattle.pg_world.specs.Choosing.{does, if_made}
use Rattle.pg_world.specs.Evaluation.{OrError, if_valued, with_value}
use Rattle.pg_world.specs.declared.candidate.SeenRow.{SeenRow}
use Rattle.pg_world.specs.declared.session.VersionName.{VersionName}
use Rattle.pg_relation.proofs.Versions.{last_kept}
use Rattle.pg_update.specs.declared.look.Look.TheVariants.{Passed, ToHold}
use Rattle.pg_update.specs.Looks.{change_looked, choices_behind, look_again, look_at}

-- the newest version is the one that its name names
own_named : (version : Version) → (is_written_by version.writer version && nat_eq version.command version.command) ≡ true
own_named version = rw (eq-eqb version.writer version.writer refl, eq-eqb version.command version.command refl) refl

version_named : (row : Row) (name : VersionName) (version : Version) → newest row ≡ Some version → name_of version ≡ name →
    version_by name.writer name.command row ≡ Some version
version_named row name version is named =
    rw (← named)
    (last_kept (λ one. is_written_by version.writer one && nat_eq one.command version.command) row.versions None None version is (own_named version)
    (λ none. none))

-- so it is that of the rows that are changed
pub partners_named : (row : Row) (name : VersionName) (version : Version) (partners : List SeenRow) → newest row ≡ Some version → name_of version ≡ name →
    partners_locked row name partners ≡ with_target_version version partners
partners_named row name version partners is named =
    ap (λ found. option_map_or (λ one. with_target_version one partners) found partners) (version_named row name version is named)

-- which are of the same row of the target
same_row : (partners : List SeenRow) (found : Option Version) →
    target_row (option_map_or (λ version. with_target_version version partners) found partners) ≡ target_row partners
same_row partners None = refl
same_row [] (Some version) = refl
same_row (target ∷ sources) (Some version) = refl

module _ (change : Change) (partners : List SeenRow) where
  changed_looked : (locked : List SeenRow) → target_row locked ≡ target_row partners →
      changing_choices change locked ≡ if_made (change_looked change locked) (choices_behind change partners)
  changed_looked locked same = at (new_values change locked)
    where
      at : (made : OrError (Option (List Value))) →
          if_made made (λ values. does (act_on change.target.table (target_row locked) values) ∷ [])
          ≡ if_made (with_value (λ values. ToHold values) made) (choices_behind change partners)
      at (Ok values) = ap (λ row. does (act_on change.target.table row values) ∷ []) same
      at (Err error) = refl

  again_looked : (locked : List SeenRow) → target_row locked ≡ target_row partners →
      second_look change locked ≡ if_made (look_again change locked) (choices_behind change partners)
  again_looked locked same = at (passes change.condition locked)
    where
      at : (passed : OrError Bool) →
          if_made passed (λ passed. if passed then changing_choices change locked else does entry.Passed ∷ [])
          ≡ if_made (if_valued (λ passed. if passed then change_looked change locked else Ok Passed) passed) (choices_behind change partners)
      at (Ok true) = changed_looked locked same
      at (Ok false) = refl
      at (Err error) = refl

  module _ (row : Row) (name : VersionName) where
    abbrev locked_ones : List SeenRow
    locked_ones = partners_locked row name partners

    same_target : target_row locked_ones ≡ target_row partners
    same_target = same_row partners (version_by name.writer name.command row)

    -- what is permitted is what the look leaves
    pub choices_looked : locked_choices change row name partners ≡ if_made (look_at change row name partners) (choices_behind change partners)
    choices_looked = at (is_as_seen name partners)
      where
        at : (seen : Bool) → (if seen then changing_choices change locked_ones else second_look change locked_ones)
            ≡ if_made (if seen then change_looked change locked_ones else look_again change locked_ones) (choices_behind change partners)
        at true = changed_looked locked_ones same_target
        at false = again_looked locked_ones same_target

    -- and what it says that the row is to hold is what SET makes of the version locked
    pub values_looked : (values : Option (List Value)) → look_at change row name partners ≡ Ok (ToHold values) → new_values change locked_ones ≡ Ok values
    values_looked values = at (is_as_seen name partners)
      where
        of_made : (made : OrError (Option (List Value))) → with_value (λ values. ToHold values) made ≡ Ok (ToHold values) → made ≡ Ok values
        of_made (Ok others) is = cc is
        of_made (Err error) is = absurd (cc is)

        of_passed : (passed : OrError Bool) →
            if_valued (λ passed. if passed then change_looked change locked_ones else Ok Passed) passed ≡ Ok (ToHold values) →
            new_values change locked_ones ≡ Ok values
        of_passed (Ok true) is = of_made (new_values change locked_ones) is
        of_passed (Ok false) is = absurd (cc is)
        of_passed (Err error) is = absurd (cc is)

        at : (seen : Bool) → (if seen then change_looked change locked_ones else look_again change locked_ones) ≡ Ok (ToHold values) →
            new_values change locked_ones ≡ Ok values
        at true is = of_made (new_values change locked_ones) is
        at false is = of_passed (passes change.condition locked_ones) is
