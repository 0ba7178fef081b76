use Rattle.std.proofs.Common.{◌≡◌, ◌≤◌, ◌+◌, length}
use Rattle.ordered_multimap.specs.Private.Relocations.{AreRelocated, AreDense, KeepsCapacities}
use Rattle.ordered_multimap.proofs.list_ordered_multimap.compact.close_holes.Given as goal

abbrev pub invariant-loop-to : goal.invariant-loop-to
invariant-loop-to g l = record {
  relocated : AreRelocated l.fn.keys l.keys l.fn.values.list l.values.list;
  dense : AreDense l.values.list.order l.to;
  same_length : length l.values.list.order ≡ length l.fn.values.list.order;
  moved : l.values.moved ≤ l.fn.values.moved + l.to;
  freed : l.values.freed ≡ l.fn.values.freed;
  holes : l.values.holes ≡ l.fn.values.holes;
  capacities : KeepsCapacities l.fn.keys l.keys l.fn.values l.values;
}
