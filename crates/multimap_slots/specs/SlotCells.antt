-- What a contract sees of the right to write the items of a slot list or of a tape.
use Rattle.std.specs.Prelude.{◌≡◌, ℕ, List, true, false, Some, IsSome, length, get_or}
use Rattle.std.specs.Prelude.{replicate, slice_set}
use Rattle.std.specs.Borrow.{GName, MutBor}
use Rattle.multimap_slots.specs.Lists.{IsIn}
use Rattle.multimap_slots.specs.Slots.{Slots, item_at}
use Rattle.multimap_slots.specs.declared.cells_of.SlotCells.{SlotCells}

module _ {T L A F : Type 0} where
  -- the name of the loan that the list follows
  abbrev pub cells_name : SlotCells T L A F → GName
  cells_name c = c.cells.lender_loan

  -- the list as it was when it was lent
  abbrev pub lent_slots : SlotCells T L A F → Slots T L
  lent_slots c = record {
    order = c.order.order;
    items = c.cells.items;
    links = c.order.links;
    capacity = length c.order.order;
  }

  -- for each place that was taken, the name of the reference to its item
  abbrev pub end_names : SlotCells T L A F → List GName
  end_names c = c.cells.names

  -- the place is in the list, and its item is there and wasn't taken
  pub record IsLeft (c : SlotCells T L A F) (p : ℕ) : Type 0 where
    pub listed : IsIn p (lent_slots c).order
    pub filled : IsSome (item_at (lent_slots c) p)
    pub untaken : get_or c.cells.left p false ≡ true

  -- the reference shows the item of the place, which is no longer left and has the name kept; no
  -- other place changes
  pub record TakesItem (old : SlotCells T L A F) (place : ℕ) (r : MutBor T)
      (new : SlotCells T L A F) : Type 0 where
    pub item_is : item_at (lent_slots old) place ≡ Some r.now
    pub slots : lent_slots new ≡ lent_slots old
    pub left : new.cells.left ≡ slice_set old.cells.left place false
    pub name : cells_name new ≡ cells_name old
    pub ends : end_names new ≡ slice_set (end_names old) place r.ghost_name
    pub lender_context : new.cells.lender_context ≡ old.cells.lender_context

  -- only the capacity differs, no item was taken, listed or not, and each slot has a name
  pub record LendsSlots (s : Slots T L) (c : SlotCells T L A F) : Type 0 where
    pub slots : lent_slots c ≡ record s { capacity = length s.order }
    pub untaken : c.cells.left ≡ replicate (length s.items) true
    pub named : length (end_names c) ≡ length s.items
    pub left : (p : ℕ) → IsIn p s.order → IsLeft c p
