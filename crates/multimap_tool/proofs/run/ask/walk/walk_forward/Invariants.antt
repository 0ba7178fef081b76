use Rattle.std.proofs.Common.{◌≡◌, ◌+◌, ◌++◌, ◌≤◌, length, vec_len, vec_capacity}
use Rattle.ordered_multimap.specs.Walk.{answers_of_walk, forward}
use Rattle.multimap_tool.proofs.run.ask.walk.walk_forward.Given as goal

abbrev pub invariant-loop : goal.invariant-loop
invariant-loop g l = record {
  taken : let left = g.W.Copied.left l.rest in let all = g.W.Copied.left l.fn.walk in
      l.taken.items ++ answers_of_walk left (forward left) ≡ answers_of_walk all (forward all);
  left : l.counter + length (g.W.Copied.left l.rest) ≡ l.count;
  count : vec_len l.taken ≡ l.counter;
  room : l.count ≤ vec_capacity l.taken;
}
