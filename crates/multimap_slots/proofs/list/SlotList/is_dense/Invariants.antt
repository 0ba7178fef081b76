use Rattle.multimap_slots.proofs.Callers.DensePlaces.{BeginsDense}
use Rattle.multimap_slots.proofs.list.SlotList.is_dense.Given as goal

abbrev pub invariant-loop-place : goal.invariant-loop-place
invariant-loop-place g l = record {
  begins : BeginsDense l.self.order l.place l.following;
}
