use Rattle.std.proofs.Common.{arith}
use Rattle.std.proofs.lemmas.List.{length-map}
use Rattle.multimap_slots.proofs.Nodes.Linked.{walk-length}
use Rattle.multimap_slots.proofs.order.Order.vacant.Goals as goal

pub returns : goal.returns
returns g c = rw (← c.self.view_is) (record {
  vacant = rw length-map (omega (arith, c.self.invariant.total, c.self.inside.nodes.ok, walk-length c.self.invariant));
  fits = rw length-map (omega (arith, c.self.inside.nodes.ok));
})
