use Rattle.std.proofs.Common.{arith}
use Rattle.multimap_slots.proofs.list.SlotList.with_capacity.Goals as goal

pub returns-clause-room : goal.returns-clause-room
returns-clause-room g c = omega (
  arith,
  c.in_ok-items.ensures.capacity,
  c.in_ok-with_capacity.ensures.capacity,
  c.over-order.ensures.capacity_is,
  c.over-order.ensures.detached,
)
