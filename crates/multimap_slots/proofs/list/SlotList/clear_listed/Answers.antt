use Rattle.multimap_slots.proofs.Changes.Cleared.{clearing-step}
use Rattle.multimap_slots.proofs.list.SlotList.clear_listed.Goals as goal

pub loop-place-preserved : goal.loop-place-preserved
loop-place-preserved g c = clearing-step c.loop-place.invariant c.take_listed.ensures.removed
