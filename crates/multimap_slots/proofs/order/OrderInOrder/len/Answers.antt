use Rattle.std.proofs.Common.{arith, sym, subst, ◌∙◌}
use Rattle.std.proofs.lemmas.List.{length-map}
use Rattle.multimap_slots.specs.Lists.{IsIn, AreDistinct}
use Rattle.multimap_slots.proofs.Nodes.Detached.{count_detached-none}
use Rattle.multimap_slots.proofs.Nodes.Linked.{split_at, split_within, walk-length, walk-order}
use Rattle.multimap_slots.proofs.Changes.Put.{slice_get-IsSome}
use Rattle.multimap_slots.proofs.order.OrderInOrder.len.Goals as goal

pub returns-clause-len : goal.returns-clause-len
returns-clause-len g c = rw (← c.self.view_is) (sym (walk-length c.self.invariant))

pub returns-clause-sound : goal.returns-clause-sound
returns-clause-sound g c = rw (← c.self.view_is) (record {
  distinct = subst AreDistinct (sym (walk-order c.self.invariant)) c.self.invariant.distinct;
  listed = λ p i. c.self.invariant.listed p (subst (IsIn p) (walk-order c.self.invariant) i);
  all_in = λ p e. subst (IsIn p) (sym (walk-order c.self.invariant)) (c.self.invariant.all_in p e);
  linked = λ p i. slice_get-IsSome _ p (rw length-map (split_within c.self.invariant (split_at c.self.invariant p i)));
  none_detached = λ none. count_detached-none _ (sym c.self.invariant.apart ∙ none);
  among = rw length-map (omega (arith, c.self.invariant.total, walk-length c.self.invariant));
  fits = rw length-map (omega (arith, c.self.inside.nodes.ok));
})
