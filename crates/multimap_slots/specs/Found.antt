-- What a call that looks for an item or a link, to write it, hands out.
use Rattle.std.specs.Prelude.{ℕ, Option, IfSome, IfNone}
use Rattle.std.specs.Borrow.{MutBor}
use Rattle.multimap_slots.specs.Lists.{IsIn}
use Rattle.multimap_slots.specs.Slots.{Slots, HasItem, HasLink}

module _ {T L : Type 0} (s : Slots T L) (place : ℕ) where
  -- a reference to the item of the place if it is listed, else none
  pub record FindsItem (given : Option (MutBor T)) : Type 0 where
    pub found : IfSome given (λ item. HasItem s place item.now)
    pub absent : IfNone given (¬ IsIn place s.order)

  -- a reference to the link of the place if it is listed, else none
  pub record FindsLink (given : Option (MutBor L)) : Type 0 where
    pub found : IfSome given (λ link. HasLink s place link.now)
    pub absent : IfNone given (¬ IsIn place s.order)
