use Rattle.std.proofs.Common.{ap, sym, ◌∙◌}
use Rattle.multimap_slots.specs.Lists.{last_of}
use Rattle.multimap_slots.proofs.Nodes.Linked.{back-is, walk-order}
use Rattle.multimap_slots.proofs.order.OrderInOrder.back.Goals as goal

pub returns : goal.returns
returns g c =
    rw (← c.self.view_is) (c.get.ensures.place ∙ back-is c.self.invariant ∙ ap last_of (sym (walk-order c.self.invariant)))
