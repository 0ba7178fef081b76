use Rattle.std.proofs.Common.{refl}
use Rattle.multimap_slots.proofs.Changes.SlotLists.{Detaches-kept}
use Rattle.multimap_slots.proofs.Changes.Filled.{IsFilled-detach}
use Rattle.multimap_slots.proofs.list.SlotList.detach.Goals as goal

pub invariant_of-self : goal.invariant_of-self
invariant_of-self g c =
    rw (c.detach.ensures.relists.states_are, c.detach.ensures.relists.order_is)
    (IsFilled-detach c.self.invariant c.args.place (rw (← c.self.view_is) at c.requires))

pub returns-clause-detached : goal.returns-clause-detached
returns-clause-detached g c =
    rw (← c.self.view_is) (Detaches-kept _ _ _ c.detach.ensures.relists.order_is c.detach.ensures.shorter refl
    c.detach.ensures.relists.links)
