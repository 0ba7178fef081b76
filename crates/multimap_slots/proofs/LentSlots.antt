-- What the right to write the items of a list shows of it before any is taken.
use Rattle.std.proofs.Common.{◌≡◌, ap, ◌∙◌, false, get_or, length}
use Rattle.multimap_slots.specs.Slots.{Slots, IsSound}
use Rattle.multimap_slots.specs.SlotCells.{LendsSlots}
use Rattle.multimap_slots.specs.Taken.{Makes}
use Rattle.multimap_slots.specs.declared.cells_of.SlotCells.{SlotCells}
use Rattle.multimap_slots.proofs.Lending.Refilled.{all_left}

-- a sound list is lent whole, with its order and its links
pub lends_slots : {T L A F : Type 0} (s : Slots T L) (c : SlotCells T L A F) → Makes s.items c.cells → c.order.order ≡ s.order
    → c.order.links ≡ s.links → IsSound s → LendsSlots s c
lends_slots s c made order_is links_are sound = record {
  slots = λ j. record { order = order_is j; items = made.items_are j; links = links_are j; capacity = length (order_is j) };
  untaken = made.left;
  named = made.named;
  left = λ p i. record {
    listed = rw order_is i;
    filled = rw made.items_are (sound.filled p i);
    untaken = ap (λ ls. get_or ls p false) made.left ∙ all_left s.items p (sound.filled p i);
  };
}
