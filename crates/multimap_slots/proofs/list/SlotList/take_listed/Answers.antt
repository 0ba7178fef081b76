use Rattle.std.proofs.Common.{None, ap, arith, refl, set, sym, ◌∙◌}
use Rattle.std.proofs.lemmas.List.{get_or_default}
use Rattle.multimap_slots.proofs.Changes.SlotLists.{Removes-set}
use Rattle.multimap_slots.proofs.Changes.Filled.{filled_within, IsFilled-remove}
use Rattle.multimap_slots.proofs.list.SlotList.take_listed.Goals as goal

pub index_mut-requires : goal.index_mut-requires
index_mut-requires g c =
    omega (arith, c.self.inside.items.ok, filled_within c.self.invariant c.args.place (rw (← c.self.view_is) at c.requires))

pub invariant_of-self : goal.invariant_of-self
invariant_of-self g c =
    let listed = rw (← c.self.view_is) at c.requires in
    rw (c.remove.ensures.relists.states_are, c.remove.ensures.relists.order_is, c.take.ensures.after)
    (IsFilled-remove c.self.invariant c.args.place listed)

pub returns-clause-removed : goal.returns-clause-removed
returns-clause-removed g c =
    let listed = rw (← c.self.view_is) at c.requires in
    let within = filled_within c.self.invariant c.args.place listed in
    let read = get_or_default c.self.inside.items.items c.args.place None c.index_mut.result.now within
    ∙ sym c.index_mut.ensures.value ∙ sym c.take.ensures.value in
    rw (← c.self.view_is) (Removes-set _ _ _ _ listed
    (read ∙ c.in-Some.is) within c.remove.ensures.relists.order_is c.remove.ensures.shorter
    (ap (set c.self.inside.items.items c.args.place) c.take.ensures.after) c.remove.ensures.relists.links
    (rw (c.remove.ensures.relists.capacity, c.remove.ensures.detached) refl))
