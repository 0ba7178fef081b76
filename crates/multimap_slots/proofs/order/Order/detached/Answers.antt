use Rattle.std.proofs.Common.{arith}
use Rattle.multimap_slots.proofs.Nodes.Detached.{detached_counted}
use Rattle.multimap_slots.proofs.order.Order.detached.Goals as goal

pub returns-clause-counted : goal.returns-clause-counted
returns-clause-counted g c = rw (← c.self.view_is)
    (λ places all. omega (arith, c.self.invariant.apart, detached_counted places _ all.distinct all.each))
