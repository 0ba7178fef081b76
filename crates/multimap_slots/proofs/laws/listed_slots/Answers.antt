use Rattle.multimap_slots.proofs.ListedSlots.{lists_slots}
use Rattle.multimap_slots.proofs.laws.listed_slots.Goals as goal

pub returns : goal.returns
returns g c = lists_slots
