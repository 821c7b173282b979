-- What a list becomes once a `&mut` to one of its items has ended.
use Rattle.std.specs.Prelude.{ℕ, List, Option}
use Rattle.std.specs.Borrow.{Fml, RattleType, MutBor, Lends, LendsIf}
use Rattle.pg_lists.specs.Numbered.{with_item}
use Rattle.pg_lists.specs.contracts.items.Items.{the_row}

module _ (R : RattleType) (list : MutBor (List R.Denot)) where
  -- the item of that number is the last value written through `item`
  abbrev pub LendsItem : ℕ → MutBor R.Denot → Fml
  LendsItem number item = Lends (the_row R) R list item (λ value. with_item list.now number value)

  -- the same where there is such an item, and else the list stays as it was
  abbrev pub LendsItemIf : ℕ → Option (MutBor R.Denot) → Fml
  LendsItemIf number item = LendsIf (the_row R) R list item (λ value. with_item list.now number value) list.now
