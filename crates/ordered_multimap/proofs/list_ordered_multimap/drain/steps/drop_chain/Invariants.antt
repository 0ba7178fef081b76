use Rattle.std.proofs.Common.{◌-◌}
use Rattle.ordered_multimap.specs.Private.Append.{KeepsTapeRoom}
use Rattle.ordered_multimap.specs.Detaches.{IsDrained, KeepsSlots}
use Rattle.ordered_multimap.proofs.Detach.DrainSteps.{AreLeftOrDropped}
use Rattle.ordered_multimap.proofs.list_ordered_multimap.drain.steps.drop_chain.Given as goal

abbrev pub invariant-loop : goal.invariant-loop
invariant-loop g l = record {
  left : IsDrained l.values.list (record { first = l.place; last = l.fn.ends.last; length = l.fn.ends.length - l.counter });
  dropped : AreLeftOrDropped l.fn.values.list l.fn.ends l.values.list (record {
    first = l.place;
    last = l.fn.ends.last;
    length = l.fn.ends.length - l.counter;
  });
  kept : KeepsSlots l.fn.values.list l.values.list;
  room : KeepsTapeRoom l.fn.values l.values;
}
