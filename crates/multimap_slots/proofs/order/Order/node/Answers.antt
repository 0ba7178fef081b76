use Rattle.std.proofs.Common.{arith}
use Rattle.multimap_slots.proofs.Nodes.OneField.{link_read}
use Rattle.multimap_slots.proofs.Nodes.Linked.{listed-within, next-read, previous-read}
use Rattle.multimap_slots.proofs.order.Order.node.Goals as goal

pub index-requires : goal.index-requires
index-requires g c =
    omega (arith, c.self.inside.nodes.ok, listed-within c.self.invariant c.args.place (rw (← c.self.view_is) at c.requires))

pub returns-clause-next : goal.returns-clause-next
returns-clause-next g c =
    let listed = rw (← c.self.view_is) at c.requires in
    rw (← c.self.view_is) (next-read c.self.invariant c.args.place listed c.index.result.now c.index.ensures)

pub returns-clause-previous : goal.returns-clause-previous
returns-clause-previous g c =
    let listed = rw (← c.self.view_is) at c.requires in
    rw (← c.self.view_is) (previous-read c.self.invariant c.args.place listed c.index.result.now c.index.ensures)

pub returns-clause-link : goal.returns-clause-link
returns-clause-link g c =
    let within = listed-within c.self.invariant c.args.place (rw (← c.self.view_is) at c.requires) in
    rw (← c.self.view_is) (link_read c.self.inside.nodes.items c.args.place c.index.result.now within c.index.ensures)
