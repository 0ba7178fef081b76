use Rattle.std.proofs.Common.{◌≡◌, map}
use Rattle.ordered_multimap.specs.Extends.{GrowsForPairs, HasRoomForGiven}
use Rattle.set_ordered_multimap.specs.Set.{all_inserted}
use Rattle.set_ordered_multimap.proofs.set.SetOrderedMultimap.insert_all.Given as goal

-- the pairs of the items that the iterator has given were inserted, and no room grew where there was
-- enough
abbrev pub invariant-loop-item : goal.invariant-loop-item
invariant-loop-item g l =
    (l.self.lists ≡ all_inserted g.K.PartialEq.eq g.V.PartialEq.eq l.fn.self.lists (map g.X.IntoPair.pair_of l.yielded))
    × GrowsForPairs (HasRoomForGiven g.I.IntoIterator.into_iter_gives g.I.IntoIter.Iterator.next_gives l.fn.iter l.fn.self)
    (HasRoomForGiven g.I.IntoIterator.into_iter_gives g.I.IntoIter.Iterator.next_gives l.fn.iter l.fn.self) l.fn.self l.self
