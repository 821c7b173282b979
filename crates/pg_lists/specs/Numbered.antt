-- The items of a list by number. What is numbered from 0 (sessions, tables, lines, columns) and what is
-- numbered from 1 (transactions, the rows of a table, the candidates of a statement) each have their words.
use Rattle.std.specs.Prelude.{ℕ, zero, suc, List, Option, None, slice_get, slice_set}
use Rattle.std.specs.Option.{option_map_or}

-- the item of that number, if there is one
abbrev pub item_at : {X : Type 0} → List X → ℕ → Option X
item_at items number = slice_get items number

-- the same, where the first item has the number 1
abbrev pub nth_item : {X : Type 0} → List X → ℕ → Option X
nth_item items zero = None
nth_item items (suc before) = item_at items before

-- the items, where the one of that number is now as given
abbrev pub with_item : {X : Type 0} → List X → ℕ → X → List X
with_item items number item = slice_set items number item

-- the items, where the one of that number, if there is one, is now as `change` makes it
abbrev pub with_changed_item : {X : Type 0} → (X → X) → List X → ℕ → List X
with_changed_item change items number = option_map_or (λ item. with_item items number (change item)) (item_at items number) items

-- the same, where the first item has the number 1
abbrev pub with_changed_nth_item : {X : Type 0} → (X → X) → List X → ℕ → List X
with_changed_nth_item change items zero = items
with_changed_nth_item change items (suc before) = with_changed_item change items before
