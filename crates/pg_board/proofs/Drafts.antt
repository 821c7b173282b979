-- What is staged in the tables of a server, behind a change of one of them and behind the end of a transaction.
use Rattle.std.proofs.Common.{◌≡◌, ◌⊎◌, inl, inr, ℕ, Bool, true, false, cond, List, map, Option, Some, None, slice_get, slice_set, nat_eq, option_map, option_and_then, refl, sym, ap, ◌∙◌, eq-eqb, eqb-true, ne_eqb}
use Rattle.std.proofs.lemmas.Bool.{cases_eq}
use Rattle.std.specs.Option.{option_map_or}
use Rattle.std.proofs.lemmas.Option.{slice_get-map}
use Rattle.pg_lists.specs.Numbered.{item_at, nth_item, with_changed_item}
use Rattle.pg_world.specs.declared.placed.PlacedRow.{PlacedRow}
use Rattle.pg_relation.proofs.Lists.{get_set, get_set_other}
use Rattle.pg_table.specs.declared.placing.DraftKind.TheVariants.{Next}
use Rattle.pg_table.specs.declared.placing.Placing.{Placing}
use Rattle.pg_table.specs.States.{TableState, draft_under, of_kind, staged_at, staged_by_others}
use Rattle.pg_table.proofs.Shown.{draft_is}
use Rattle.pg_table.proofs.Waiting.{kind_some}
use Rattle.pg_update.specs.Steps.{staged_in}

-- what is staged for a row is staged under its number
staged_row : (state : TableState) (row : ℕ) (draft : PlacedRow) → staged_at state row ≡ Some draft → draft.row ≡ row
staged_row state row draft = at (nth_item state.placings row)
  where
    at : (o : Option Placing) →
        option_and_then (λ placing. of_kind Next placing.kind (draft_under state.store.versions row placing)) o ≡ Some draft → draft.row ≡ row
    at None is = absurd (cc is)
    at (Some placing) is =
        (draft_is state.store.versions row placing draft
        (kind_some Next placing.kind (draft_under state.store.versions row placing) draft is).1).row_is

pub staged_in_row : (tables : List TableState) (table row : ℕ) (draft : PlacedRow) → staged_in tables table row ≡ Some draft → draft.row ≡ row
staged_in_row tables table row draft = at (item_at tables table)
  where
    at : (o : Option TableState) → option_and_then (λ state. staged_at state row) o ≡ Some draft → draft.row ≡ row
    at None is = absurd (cc is)
    at (Some state) is = staged_row state row draft is

-- One table is changed.
module _ (change : TableState → TableState) (tables : List TableState) (number : ℕ) where
  pub changed_table : (state : TableState) → item_at tables number ≡ Some state →
      item_at (with_changed_item change tables number) number ≡ Some (change state)
  changed_table state there =
      ap (λ o. slice_get (option_map_or (λ one. slice_set tables number (change one)) o tables) number) there
      ∙ get_set tables number state (change state) there

  unchanged : item_at tables number ≡ None → with_changed_item change tables number ≡ tables
  unchanged none = ap (λ o. option_map_or (λ one. slice_set tables number (change one)) o tables) none

  pub other_table : (table : ℕ) → (table ≡ number → ⊥) → item_at (with_changed_item change tables number) table ≡ item_at tables table
  other_table table apart = at (slice_get tables number)
    where
      at : (o : Option TableState) →
          slice_get (option_map_or (λ one. slice_set tables number (change one)) o tables) table ≡ slice_get tables table
      at None = refl
      at (Some state) = get_set_other tables number table (change state) apart

  -- for those rows for which the change leaves what is staged, it stays
  pub staged_where : (P : ℕ → Type 0) →
      ((state : TableState) (row : ℕ) → item_at tables number ≡ Some state → P row → staged_at (change state) row ≡ staged_at state row) →
      (table row : ℕ) → (table ≡ number → P row) →
      staged_in (with_changed_item change tables number) table row ≡ staged_in tables table row
  staged_where P same table row among = at (cases_eq table number)
    where
      here : (o : Option TableState) → slice_get tables number ≡ o → P row →
          staged_in (with_changed_item change tables number) number row ≡ staged_in tables number row
      here None is p = ap (λ all. staged_in all number row) (unchanged is)
      here (Some state) is p =
          ap (λ o. option_and_then (λ one. staged_at one row) o) (changed_table state is)
          ∙ (same state row is p ∙ sym (ap (λ o. option_and_then (λ one. staged_at one row) o) is))

      at : (table ≡ number) ⊎ (table ≡ number → ⊥) →
          staged_in (with_changed_item change tables number) table row ≡ staged_in tables table row
      at (inl e) = rw e (here (slice_get tables number) refl (among e))
      at (inr apart) = ap (λ o. option_and_then (λ one. staged_at one row) o) (other_table table apart)

  pub staged_kept :
      ((state : TableState) (row : ℕ) → item_at tables number ≡ Some state → staged_at (change state) row ≡ staged_at state row) →
      (table row : ℕ) → staged_in (with_changed_item change tables number) table row ≡ staged_in tables table row
  staged_kept same table row = staged_where (λ any. Unit {0}) (λ state one there any. same state one there) table row (λ e. tt)

-- A transaction ends in all of them.
module _ (change : TableState → TableState) (xact : ℕ)
    (filters : (state : TableState) (row : ℕ) → staged_at (change state) row ≡ staged_by_others (staged_at state row) xact) where
  staged_mapped : (tables : List TableState) (table row : ℕ) →
      staged_in (map change tables) table row ≡ staged_by_others (staged_in tables table row) xact
  staged_mapped tables table row =
      ap (λ o. option_and_then (λ state. staged_at state row) o) (slice_get-map change tables table) ∙ at (slice_get tables table)
    where
      at : (o : Option TableState) → option_and_then (λ state. staged_at state row) (option_map change o)
          ≡ staged_by_others (option_and_then (λ state. staged_at state row) o) xact
      at None = refl
      at (Some state) = filters state row

  -- what other transactions have staged stays
  pub others_stay : (tables : List TableState) (table row : ℕ) (draft : PlacedRow) → (draft.me.xact ≡ xact → ⊥) →
      staged_in tables table row ≡ Some draft → staged_in (map change tables) table row ≡ Some draft
  others_stay tables table row draft apart is =
      staged_mapped tables table row
      ∙ (ap (λ o. staged_by_others o xact) is ∙ ap (λ b. cond b None (Some draft)) (ne_eqb draft.me.xact xact apart))

  -- and nothing else
  pub only_others : (tables : List TableState) (table row : ℕ) (draft : PlacedRow) →
      staged_in (map change tables) table row ≡ Some draft →
      (staged_in tables table row ≡ Some draft) × (draft.me.xact ≡ xact → ⊥)
  only_others tables table row draft is = at (staged_in tables table row) (sym (staged_mapped tables table row) ∙ is)
    where
      by_case : (one : PlacedRow) (b : Bool) → nat_eq one.me.xact xact ≡ b → cond b None (Some one) ≡ Some draft →
          (Some one ≡ Some draft) × (draft.me.xact ≡ xact → ⊥)
      by_case one true same e = absurd (cc e)
      by_case one false same e =
          let f : one ≡ draft = cc e in
          (e, λ mine. let g : true ≡ false = sym (eq-eqb one.me.xact xact (ap (λ d. d.me.xact) f ∙ mine)) ∙ same in cc g)

      at : (o : Option PlacedRow) → staged_by_others o xact ≡ Some draft → (o ≡ Some draft) × (draft.me.xact ≡ xact → ⊥)
      at None e = absurd (cc e)
      at (Some one) e = by_case one (nat_eq one.me.xact xact) refl e
