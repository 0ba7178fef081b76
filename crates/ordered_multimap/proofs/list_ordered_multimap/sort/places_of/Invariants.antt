use Rattle.std.proofs.Common.{◌≡◌, ◌≤◌, ◌+◌, ◌++◌, length, vec_capacity}
use Rattle.multimap_walks.specs.Along.{AreLeft, places_left}
use Rattle.ordered_multimap.proofs.list_ordered_multimap.sort.places_of.Given as goal

abbrev pub invariant-loop-place : goal.invariant-loop-place
invariant-loop-place g l = record {
  are_left : AreLeft (g.O.Ordered.order l.list) l.left;
  split : g.O.Ordered.order l.list ≡ l.places.items ++ places_left (g.O.Ordered.order l.list) l.left;
  room : length l.places.items + length (places_left (g.O.Ordered.order l.list) l.left) ≤ vec_capacity l.places;
}

abbrev pub decreases-loop-place : goal.decreases-loop-place
decreases-loop-place g l = length (places_left (g.O.Ordered.order l.list) l.left)
