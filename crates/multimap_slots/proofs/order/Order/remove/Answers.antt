use Rattle.std.proofs.Common.{ap, set, ◌∙◌, arith, rules}
use Rattle.multimap_slots.specs.declared.order.node.State.TheVariants.{Free}
use Rattle.multimap_slots.proofs.Nodes.OneField.{length-states}
use Rattle.multimap_slots.proofs.Nodes.Linked.{split_at, split_within}
use Rattle.multimap_slots.proofs.Nodes.Unlinked.{IsOrdered-release, walk-removed, length-walk_removed}
use Rattle.multimap_slots.proofs.Nodes.Unlinked.{can_unlink, unlinked-states}
use Rattle.multimap_slots.proofs.order.Order.remove.Goals as goal

pub unlink-requires : goal.unlink-requires
unlink-requires g c = can_unlink c.self.invariant (rw (← c.self.view_is) at c.requires)

pub release-requires : goal.release-requires
release-requires g c =
    let s = split_at c.self.invariant c.args.place (rw (← c.self.view_is) at c.requires) in
    omega (arith, split_within c.self.invariant s, length-states _ _ (unlinked-states c.self.invariant s c.unlink.ensures.items))

pub invariant_of-self : goal.invariant_of-self
invariant_of-self g c =
    let s = split_at c.self.invariant c.args.place (rw (← c.self.view_is) at c.requires) in
    rw c.some-self-inside.ensures
    (IsOrdered-release c.self.invariant s c.unlink.ensures.items c.release.ensures.items).ordered

pub returns : goal.returns
returns g c =
    let s = split_at c.self.invariant c.args.place (rw (← c.self.view_is) at c.requires) in
    let removed = IsOrdered-release c.self.invariant s c.unlink.ensures.items c.release.ensures.items in
    rw (← c.self.view_is) (record {
      relists = record {
        order_is = walk-removed c.self.invariant s removed;
        states_are = c.release.ensures.items.states
            ∙ ap (λ ss. set ss c.args.place Free) (unlinked-states c.self.invariant s c.unlink.ensures.items);
        links = search rules;
        capacity = search rules;
      };
      shorter = length-walk_removed c.self.invariant s removed;
      detached = search rules;
    })

pub some-self-inside-requires : goal.some-self-inside-requires
some-self-inside-requires g c =
    let s = split_at c.self.invariant c.args.place (rw (← c.self.view_is) at c.requires) in
    omega (arith, split_within c.self.invariant s, c.self.inside.nodes.ok)
