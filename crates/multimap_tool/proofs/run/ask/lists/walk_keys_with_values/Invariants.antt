use Rattle.std.proofs.Common.{◌≡◌, ◌+◌, ◌++◌, ◌≤◌, List, length, map, vec_capacity}
use Rattle.multimap_tool.proofs.run.ask.lists.walk_keys_with_values.Given as goal

abbrev pub invariant-loop-key : goal.invariant-loop-key
invariant-loop-key g l = record {
  lists : map {B = g.row.K.Denot × List g.row.V.Denot} (λ p. (p.0, p.1.items)) l.lists.items
      ++ map (λ p. (p.0, p.1.left)) l.key-iterator ≡ map (λ p. (p.0, p.1.left)) l.fn.left;
  room : length l.lists.items + length l.key-iterator ≤ vec_capacity l.lists;
  fewer : length l.key-iterator ≤ length l.fn.left;
}
