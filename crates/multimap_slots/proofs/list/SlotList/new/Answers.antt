use Rattle.std.proofs.Common.{rules}
use Rattle.multimap_slots.proofs.list.SlotList.new.Goals as goal

pub returns-clause-capacity : goal.returns-clause-capacity
returns-clause-capacity g c = search rules
