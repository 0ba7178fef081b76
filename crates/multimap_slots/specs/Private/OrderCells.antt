-- The items of a list to be written, beside its order. No public clause cites this module.
use Rattle.std.specs.Prelude.{◌≡◌, List, length}
use Rattle.std.specs.Borrow.{RattleType}
use Rattle.multimap_slots.specs.Private.ListLayout.{Places}
use Rattle.multimap_slots.specs.Private.Runs.{RunLengths}
use Rattle.multimap_slots.specs.Slots.{Slots}
use Rattle.multimap_slots.specs.Tapes.{Taped}
use Rattle.multimap_slots.specs.Taken.{Makes}
use Rattle.multimap_slots.specs.Codes.{EndsSlots, EndsTape}
use Rattle.multimap_slots.specs.declared.cells.Cells.{Cells}

module _ (T L : RattleType) where
  -- every item is there to be taken, the order is the list's, and what the slots end as is what the
  -- list ends as
  pub record ListIsLent (s : Slots T.Denot L.Denot) (cells : Cells T.Denot) (order : Places L.Denot)
      : Type 0 where
    pub made : Makes s.items cells
    pub order_is : order.order ≡ s.order
    pub links_are : order.links ≡ s.links
    pub ends : EndsSlots T L s cells

  -- every item is there to be taken, the order is the tape's, each place in use has a link, and
  -- what the slots end as is what the tape ends as
  pub record TapeIsLent (t : Taped T.Denot L.Denot) (cells : Cells T.Denot) (links : List L.Denot)
      (runs : RunLengths) : Type 0 where
    pub made : Makes t.list.items cells
    pub order_is : runs.order ≡ t.list.order
    pub links_are : links ≡ t.list.links
    pub linked : length links ≡ runs.used
    pub ends : EndsTape T L t cells
