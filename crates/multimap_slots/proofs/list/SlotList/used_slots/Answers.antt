use Rattle.std.proofs.Common.{arith}
use Rattle.multimap_slots.proofs.Changes.Filled.{filled_within}
use Rattle.multimap_slots.proofs.list.SlotList.used_slots.Goals as goal

pub returns : goal.returns
returns g c = rw (← c.self.view_is) (record {
  slots = omega (arith, c.len.ensures);
  above = λ place listed. omega (arith, c.len.ensures, filled_within c.self.invariant place listed);
})
