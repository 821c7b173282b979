-- What an INSERT may do once a candidate is taken up, by the table that it writes.
use Rattle.std.proofs.Common.{◌≡◌, ◌+◌, ℕ, List, [], ◌∷◌, Option, Some, None, map, option_map, refl, ap, sym, ◌∙◌}
use Rattle.std.proofs.lemmas.Option.{slice_get-map}
use Rattle.pg_lists.specs.Numbered.{item_at}
use Rattle.pg_model.specs.declared.journal.EntryAct.TheVariants as entry
use Rattle.pg_rows.proofs.Rows.{length_rows}
use Rattle.pg_world.specs.Choices.{placing_choices}
use Rattle.pg_world.specs.Choosing.{does}
use Rattle.pg_table.specs.States.{TableState, table_shown}

-- the number that a table has drawn is the one that is permitted
pub placing_permitted : (tables : List TableState) (number row : ℕ) →
    Some row ≡ option_map (λ state. state.store.drawn + 1) (item_at tables number) →
    placing_choices number (item_at (map table_shown tables) number) ≡ does (entry.Placed number row) ∷ []
placing_permitted tables number row is = ap (placing_choices number) (slice_get-map table_shown tables number) ∙ at (item_at tables number) is
  where
    at : (o : Option TableState) → Some row ≡ option_map (λ state. state.store.drawn + 1) o →
        placing_choices number (option_map table_shown o) ≡ does (entry.Placed number row) ∷ []
    at None is = absurd (cc is)
    at (Some state) is =
        let e : row ≡ state.store.drawn + 1 = cc is in
        ap (λ n. does (entry.Placed number (n + 1)) ∷ []) (length_rows 1 state.store.drawn state.store.versions)
        ∙ ap (λ n. does (entry.Placed number n) ∷ []) (sym e)

-- where there is no such table, nothing is
pub none_permitted : (tables : List TableState) (number : ℕ) → None ≡ option_map (λ state. state.store.drawn + 1) (item_at tables number) →
    placing_choices number (item_at (map table_shown tables) number) ≡ []
none_permitted tables number is = ap (placing_choices number) (slice_get-map table_shown tables number) ∙ at (item_at tables number) is
  where
    at : (o : Option TableState) → None ≡ option_map (λ (state : TableState). state.store.drawn + 1) o → placing_choices number (option_map table_shown o) ≡ []
    at None is = refl
    at (Some state) is = absurd (cc is)
