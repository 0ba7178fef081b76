use Rattle.multimap_slots.proofs.Callers.Permuted.{permuted_was_in}
use Rattle.multimap_slots.proofs.list.SlotList.set_order.Goals as goal

pub invariant_of-self : goal.invariant_of-self
invariant_of-self g c =
    let w = c.self.invariant in
    let same = rw (← c.self.view_is) at c.requires in
    rw c.set_order.ensures (record {
      same_length = w.same_length;
      filled = λ p i. w.filled p (permuted_was_in same p i);
      kept = w.kept;
      empty = w.empty;
    })
