use Rattle.std.proofs.Common.{◌++◌, refl, arith}
use Rattle.multimap_slots.proofs.Nodes.OneField.{length-states}
use Rattle.multimap_slots.proofs.Nodes.Linked.{split_at, split_in, split_within, first-listed, listed-within}
use Rattle.multimap_slots.proofs.Nodes.Unlinked.{can_unlink, unlinked-states, unlinked-links}
use Rattle.multimap_slots.proofs.Nodes.Moved.{IsOrdered-first, first-others, others-listed, walk-first}
use Rattle.multimap_slots.proofs.order.Order.move_to_front.Goals as goal

pub unlink-requires : goal.unlink-requires
unlink-requires g c = can_unlink c.self.invariant (rw (← c.self.view_is) at c.requires)

pub some-end-requires : goal.some-end-requires
some-end-requires g c =
    omega (arith, c.self.inside.nodes.ok, listed-within c.self.invariant c.args.place (rw (← c.self.view_is) at c.requires))

pub set_previous-requires-clause-listed : goal.set_previous-requires-clause-listed
set_previous-requires-clause-listed g c =
    let s = split_at c.self.invariant c.args.place (rw (← c.self.view_is) at c.requires) in
    let within = split_within c.self.invariant s in
    let first = first-others c.self.invariant s c.unlink.ensures.items in
    let listed = others-listed c.self.invariant s c.unlink.ensures.items in
    rw (unlinked-states c.self.invariant s c.unlink.ensures.items)
    (first-listed c.self.invariant _ (s.front ++ s.back) first listed)

pub set_previous-requires-clause-low : goal.set_previous-requires-clause-low
set_previous-requires-clause-low g c =
    let within = listed-within c.self.invariant c.args.place (rw (← c.self.view_is) at c.requires) in
    rw c.some-end.ensures (omega (arith, c.self.inside.nodes.ok, within))

pub set_next-requires : goal.set_next-requires
set_next-requires g c =
    let s = split_at c.self.invariant c.args.place (rw (← c.self.view_is) at c.requires) in
    let within = split_within c.self.invariant s in
    rw c.some-end.ensures (omega (
      arith,
      within,
      length-states _ _ (unlinked-states c.self.invariant s c.unlink.ensures.items),
      length-states _ _ c.set_previous.ensures.items.states,
    ))

pub set_previous-requires-2-clause-listed : goal.set_previous-requires-2-clause-listed
set_previous-requires-2-clause-listed g c =
    let s = split_at c.self.invariant c.args.place (rw (← c.self.view_is) at c.requires) in
    rw (
      c.some-end.ensures,
      c.set_next.ensures.items.states,
      c.set_previous.ensures.items.states,
      unlinked-states c.self.invariant s c.unlink.ensures.items,
    )
    (c.self.invariant.listed c.args.place (split_in c.self.invariant s))

pub invariant_of-self : goal.invariant_of-self
invariant_of-self g c =
    let s = split_at c.self.invariant c.args.place (rw (← c.self.view_is) at c.requires) in
    let within = split_within c.self.invariant s in
    rw c.some-end.ensures
    (IsOrdered-first c.self.invariant s c.unlink.ensures.items
    (rw c.some-end.ensures at c.set_previous.ensures.items) (rw c.some-end.ensures at c.set_next.ensures.items)
    (rw (c.some-end.ensures, c.none.ensures) at c.set_previous-2.ensures.items)).ordered

pub returns : goal.returns
returns g c =
    let s = split_at c.self.invariant c.args.place (rw (← c.self.view_is) at c.requires) in
    let within = split_within c.self.invariant s in
    let moved = IsOrdered-first c.self.invariant s c.unlink.ensures.items
    (rw c.some-end.ensures at c.set_previous.ensures.items) (rw c.some-end.ensures at c.set_next.ensures.items)
    (rw (c.some-end.ensures, c.none.ensures) at c.set_previous-2.ensures.items) in
    let order_is = walk-first c.self.invariant s c.unlink.ensures.items moved in
    rw (← c.self.view_is) (rw (
      c.some-end.ensures,
      order_is,
      c.set_previous-2.ensures.items.states,
      c.set_next.ensures.items.states,
      c.set_previous.ensures.items.states,
      unlinked-states c.self.invariant s c.unlink.ensures.items,
      c.set_previous-2.ensures.items.links,
      c.set_next.ensures.items.links,
      c.set_previous.ensures.items.links,
      unlinked-links c.self.invariant s c.unlink.ensures.items,
      c.set_previous-2.ensures.capacity,
      c.set_next.ensures.capacity,
      c.set_previous.ensures.capacity,
      c.unlink.ensures.capacity,
    ) refl)
