-- What a slot list ends as, where a `&mut` to one of its items or links is returned, or the right
-- to write its items.
use Rattle.std.specs.Prelude.{ℕ, Option}
use Rattle.std.specs.Borrow.{Lends, LendsIf, Fml, RattleType, MutBor, follows}
use Rattle.std.specs.declared.alloc.Allocator.{Ghosts}
use Rattle.multimap_slots.specs.Slots.{Slots, with_item, with_link}
use Rattle.multimap_slots.specs.CellsLends.{with_refilled}
use Rattle.multimap_slots.specs.declared.cells.Cells.{Cells}
use Rattle.multimap_slots.specs.declared.cells_of.SlotCells.{SlotCells}
use Rattle.multimap_slots.specs.declared.link_form.PlainLink.{PlainLink}
use Rattle.multimap_slots.specs.contracts.list.SlotList.{the_row}

module _ (T L A : RattleType) (alloc : Ghosts A.Denot)
    (s : MutBor (Slots T.Denot L.Denot)) (place : ℕ) where
  -- the place ends with the last item written through r
  abbrev pub lent_item : MutBor T.Denot → Fml
  lent_item r = Lends (the_row T L A alloc) T s r (with_item s.now place)

  -- the place ends with the last item written through r; at `None` the list stays as it is
  abbrev pub lends_item : Option (MutBor T.Denot) → Fml
  lends_item r = LendsIf (the_row T L A alloc) T s r (with_item s.now place) s.now

  -- the place ends with the last link written through r
  abbrev pub lent_link : MutBor L.Denot → Fml
  lent_link r = Lends (the_row T L A alloc) L s r (with_link s.now place)

  -- the place ends with the last link written through r; at `None` the list stays as it is
  abbrev pub lends_link : Option (MutBor L.Denot) → Fml
  lends_link r = LendsIf (the_row T L A alloc) L s r (with_link s.now place) s.now

module _ (T L A : RattleType) (alloc : Ghosts A.Denot) (s : MutBor (Slots T.Denot L.Denot)) where
  -- once the loan of the items ends, the list is as before but for them, and an item stands exactly
  -- where one stood
  abbrev pub lends_whole : Cells T.Denot → Fml
  lends_whole c =
      follows (the_row T L A alloc) (the_row T L A alloc) s.ghost_name c.lender_loan
      (λ n. with_refilled s.now n.items)

  -- once the loan of items and order ends, only the items of the list may differ, and they are
  -- where items were
  abbrev pub lends_cells : SlotCells T.Denot L.Denot A.Denot (PlainLink L.Denot) → Fml
  lends_cells c = lends_whole c.cells
