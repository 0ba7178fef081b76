use Rattle.std.proofs.Common.{arith, rules}
use Rattle.std.proofs.lemmas.List.{length-map}
use Rattle.multimap_slots.proofs.Nodes.Linked.{taken-within, apart-is, apart-some}
use Rattle.multimap_slots.proofs.Nodes.Unlinked.{IsOrdered-free, walk-kept}
use Rattle.multimap_slots.proofs.order.Order.free_detached.Goals as goal

pub overflow_sub-self : goal.overflow_sub-self
overflow_sub-self g c =
    let apart = rw (← c.self.view_is) at c.requires in
    omega (arith, apart-some c.self.invariant _ apart.not_listed apart.not_free)

pub invariant_of-self : goal.invariant_of-self
invariant_of-self g c =
    let apart = rw (← c.self.view_is) at c.requires in
    rw c.some-self-inside.ensures
    (IsOrdered-free c.self.invariant (apart-is c.self.invariant _ apart.not_listed apart.not_free)
    (taken-within c.self.invariant _ apart.not_free) c.release.ensures.items).ordered

pub returns : goal.returns
returns g c =
    let apart = rw (← c.self.view_is) at c.requires in
    let is = apart-is c.self.invariant _ apart.not_listed apart.not_free in
    let freed =
    IsOrdered-free c.self.invariant is (taken-within c.self.invariant _ apart.not_free) c.release.ensures.items in
    rw (← c.self.view_is) (record {
      relists = record {
        order_is = walk-kept c.self.invariant freed;
        states_are = search rules;
        links = search rules;
        capacity = search rules;
      };
      detached = omega (arith, apart-some c.self.invariant _ apart.not_listed apart.not_free);
      among = rw length-map (omega (arith, c.self.invariant.total));
      fits = rw length-map (omega (arith, c.self.inside.nodes.ok));
    })
