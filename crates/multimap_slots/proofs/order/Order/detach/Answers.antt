use Rattle.std.proofs.Common.{ap, set, ◌∙◌, arith, rules}
use Rattle.std.proofs.lemmas.List.{length-map}
use Rattle.multimap_slots.specs.declared.order.node.State.TheVariants.{Detached}
use Rattle.multimap_slots.proofs.Nodes.Detached.{detached-apart}
use Rattle.multimap_slots.proofs.Nodes.OneField.{length-states}
use Rattle.multimap_slots.proofs.Nodes.Linked.{split_at, split_in, split_within, walk-length}
use Rattle.multimap_slots.proofs.Nodes.Unlinked.{IsOrdered-detach, walk-removed, length-walk_removed}
use Rattle.multimap_slots.proofs.Nodes.Unlinked.{can_unlink, unlinked-states}
use Rattle.multimap_slots.proofs.order.Order.detach.Goals as goal

pub unlink-requires : goal.unlink-requires
unlink-requires g c = can_unlink c.self.invariant (rw (← c.self.view_is) at c.requires)

pub set_detached-requires : goal.set_detached-requires
set_detached-requires g c =
    let s = split_at c.self.invariant c.args.place (rw (← c.self.view_is) at c.requires) in
    omega (arith, split_within c.self.invariant s, length-states _ _ (unlinked-states c.self.invariant s c.unlink.ensures.items))

pub invariant_of-self : goal.invariant_of-self
invariant_of-self g c =
    let s = split_at c.self.invariant c.args.place (rw (← c.self.view_is) at c.requires) in
    (IsOrdered-detach c.self.invariant s c.unlink.ensures.items c.set_detached.ensures.items).ordered

pub returns : goal.returns
returns g c =
    let s = split_at c.self.invariant c.args.place (rw (← c.self.view_is) at c.requires) in
    let removed = IsOrdered-detach c.self.invariant s c.unlink.ensures.items c.set_detached.ensures.items in
    let was = c.self.invariant.listed c.args.place (split_in c.self.invariant s) in
    let order_is = walk-removed c.self.invariant s removed in
    let states_are = c.set_detached.ensures.items.states
    ∙ ap (λ ss. set ss c.args.place Detached) (unlinked-states c.self.invariant s c.unlink.ensures.items) in
    let apart = detached-apart _ _ c.args.place was order_is states_are in
    rw (← c.self.view_is) (record {
      was_listed = was;
      apart = record { not_listed = apart.0; not_free = apart.1 };
      relists = record {
        order_is = order_is;
        states_are = states_are;
        links = search rules;
        capacity = search rules;
      };
      shorter = length-walk_removed c.self.invariant s removed;
      detached = omega arith;
      among = rw length-map (omega (
        arith,
        c.self.invariant.total,
        walk-length c.self.invariant,
        length-walk_removed c.self.invariant s
            removed,
      ));
      fits = rw length-map (omega (arith, c.self.inside.nodes.ok));
    })
