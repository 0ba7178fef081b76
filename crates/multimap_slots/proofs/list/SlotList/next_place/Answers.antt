use Rattle.std.proofs.Common.{sym}
use Rattle.multimap_slots.proofs.Callers.PlaceLists.{next_of-absent}
use Rattle.multimap_slots.proofs.list.SlotList.next_place.Goals as goal

pub returns-else-is_listed : goal.returns-else-is_listed
returns-else-is_listed g c =
    rw (← c.self.view_is) (sym (next_of-absent _ _ (λ i. let listed = c.is_listed.ensures.1 i in cc)))
