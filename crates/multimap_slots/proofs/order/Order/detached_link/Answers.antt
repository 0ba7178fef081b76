use Rattle.std.proofs.Common.{arith}
use Rattle.multimap_slots.proofs.Nodes.OneField.{link_read}
use Rattle.multimap_slots.proofs.Nodes.Linked.{taken-within}
use Rattle.multimap_slots.proofs.order.Order.detached_link.Goals as goal

pub index-requires : goal.index-requires
index-requires g c =
    let apart = rw (← c.self.view_is) at c.requires in
    omega (arith, c.self.inside.nodes.ok, taken-within c.self.invariant _ apart.not_free)

pub returns : goal.returns
returns g c =
    let apart = rw (← c.self.view_is) at c.requires in
    let within = taken-within c.self.invariant _ apart.not_free in
    rw (← c.self.view_is) (link_read c.self.inside.nodes.items c.args.place c.index.result.now within c.index.ensures)
