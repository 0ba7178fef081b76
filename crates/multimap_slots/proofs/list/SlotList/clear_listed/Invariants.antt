use Rattle.std.proofs.Common.{length}
use Rattle.multimap_slots.proofs.Changes.Cleared.{IsClearing}
use Rattle.multimap_slots.proofs.list.SlotList.clear_listed.Given as goal

abbrev pub invariant-loop-place : goal.invariant-loop-place
invariant-loop-place g l = IsClearing l.fn.self l.self

abbrev pub decreases-loop-place : goal.decreases-loop-place
decreases-loop-place g l = length l.self.order
