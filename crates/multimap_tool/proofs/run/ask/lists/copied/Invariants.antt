use Rattle.std.proofs.Common.{◌≡◌, ◌+◌, ◌++◌, ◌≤◌, length, vec_capacity}
use Rattle.multimap_tool.proofs.run.ask.lists.copied.Given as goal

abbrev pub invariant-loop-value : goal.invariant-loop-value
invariant-loop-value g l = record {
  values : l.values.items ++ l.value-iterator.left ≡ l.fn.left.left;
  room : length l.values.items + length l.value-iterator.left ≤ vec_capacity l.values;
}
