use Rattle.multimap_slots.proofs.Nodes.Linked.{IsOrdered-empty}
use Rattle.multimap_slots.proofs.order.Order.over.Goals as goal

pub invariant_of-result : goal.invariant_of-result
invariant_of-result g c = rw (c.requires, c.none.ensures, c.none-2.ensures, c.none-3.ensures) IsOrdered-empty
