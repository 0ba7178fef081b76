use Rattle.std.proofs.Common.{◌≡◌, ◌+◌, ◌-◌, slice_get, Some}
use Rattle.multimap_walks.specs.Chained.{chain_of}
use Rattle.ordered_multimap.proofs.list_ordered_multimap.remove.at.place_at.Given as goal

abbrev pub invariant-loop : goal.invariant-loop
invariant-loop g l = slice_get (chain_of l.values.list l.place) l.counter ≡ Some l.found

abbrev pub invariant-loop-2 : goal.invariant-loop-2
invariant-loop-2 g l = slice_get (chain_of l.values.list l.place) (l.index + (l.behind - l.counter)) ≡ Some l.found
