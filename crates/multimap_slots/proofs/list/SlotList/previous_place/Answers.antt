use Rattle.std.proofs.Common.{sym}
use Rattle.multimap_slots.proofs.Callers.PlaceLists.{previous_of-absent}
use Rattle.multimap_slots.proofs.list.SlotList.previous_place.Goals as goal

pub returns-else-is_listed : goal.returns-else-is_listed
returns-else-is_listed g c =
    rw (← c.self.view_is) (sym (previous_of-absent _ _ (λ i. let listed = c.is_listed.ensures.1 i in cc)))
