use Rattle.std.proofs.Common.{◌≡◌, ◌+◌, ◌++◌, ◌≤◌, Some, length, map, vec_capacity}
use Rattle.ordered_multimap.specs.Drains.{drain_left, KeepsMap}
use Rattle.multimap_tool.proofs.run.change.drained.list_values.Given as goal

abbrev pub invariant-loop : goal.invariant-loop
invariant-loop g l = record {
  values : l.values.items ++ map Some (drain_left l.drain) ≡ l.fn.values.items ++ map Some (drain_left l.fn.drain);
  left : l.counter + length (drain_left l.drain) ≡ length (drain_left l.fn.drain);
  room : length l.values.items + length (drain_left l.drain) ≤ vec_capacity l.values;
  same : KeepsMap l.fn.drain l.drain;
}
