use Rattle.std.proofs.Common.{rules}
use Rattle.multimap_slots.proofs.list.SlotList.get_mut.Goals as goal

pub returns-then-is_listed : goal.returns-then-is_listed
returns-then-is_listed g c = search rules
