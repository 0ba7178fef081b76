use Rattle.multimap_slots.proofs.Callers.MovedPlaces.{IsIn-moved_first}
use Rattle.multimap_slots.proofs.Changes.Filled.{IsFilled-reorder}
use Rattle.multimap_slots.proofs.list.SlotList.move_to_front.Goals as goal

pub invariant_of-self : goal.invariant_of-self
invariant_of-self g c =
    let listed = rw (← c.self.view_is) at c.requires in
    rw c.move_to_front.ensures
    (IsFilled-reorder c.self.invariant _ (λ q. IsIn-moved_first q _ c.args.place listed))
