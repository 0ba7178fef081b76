use Rattle.std.proofs.Common.{rules}
use Rattle.multimap_slots.proofs.list.SlotList.clear.Goals as goal

pub invariant_of-self : goal.invariant_of-self
invariant_of-self g c = search rules

pub returns-clause-empty : goal.returns-clause-empty
returns-clause-empty g c = search rules
