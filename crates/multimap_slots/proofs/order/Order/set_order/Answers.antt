use Rattle.std.proofs.Common.{refl}
use Rattle.multimap_slots.proofs.Nodes.Linked.{walk-order}
use Rattle.multimap_slots.proofs.Callers.Permuted.{permuted_was_in, permuted_distinct}
use Rattle.multimap_slots.proofs.Nodes.Reordered.{IsOrdered-reorder, Places-same, walk-reordered}
use Rattle.multimap_slots.proofs.order.Order.set_order.Goals as goal

pub link_in_order-requires-clause-listed : goal.link_in_order-requires-clause-listed
link_in_order-requires-clause-listed g c = λ p i.
    let same = rw (← c.self.view_is, walk-order c.self.invariant) at c.requires in
    c.self.invariant.listed p (permuted_was_in same p i)

pub link_in_order-requires-clause-distinct : goal.link_in_order-requires-clause-distinct
link_in_order-requires-clause-distinct g c =
    let same = rw (← c.self.view_is, walk-order c.self.invariant) at c.requires in
    permuted_distinct same c.self.invariant.distinct

pub invariant_of-self : goal.invariant_of-self
invariant_of-self g c =
    let same = rw (← c.self.view_is, walk-order c.self.invariant) at c.requires in
    (IsOrdered-reorder c.self.invariant same c.link_in_order.ensures.items).ordered

pub returns : goal.returns
returns g c =
    let same = rw (← c.self.view_is, walk-order c.self.invariant) at c.requires in
    let linked = c.link_in_order.ensures.items in
    let reordered = IsOrdered-reorder c.self.invariant same linked in
    rw (← c.self.view_is)
    (Places-same (walk-reordered reordered) linked.states linked.links c.link_in_order.ensures.capacity refl)
