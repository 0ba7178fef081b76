use Rattle.std.proofs.Common.{◌≡◌, ◌≤◌, length, drop, vec_capacity}
use Rattle.multimap_slots.proofs.Nodes.Reordered.{IsTail}
use Rattle.multimap_slots.proofs.order.reorder.link_in_order.Given as goal

abbrev pub invariant-loop-left : goal.invariant-loop-left
invariant-loop-left g l = record {
  tail : IsTail l.fn.nodes.items l.nodes.items l.front l.back l.first (drop l.left l.places);
  within : l.left ≤ length l.places;
  capacity : vec_capacity l.nodes ≡ vec_capacity l.fn.nodes;
}

abbrev pub decreases-loop-left : goal.decreases-loop-left
decreases-loop-left g l = l.left
