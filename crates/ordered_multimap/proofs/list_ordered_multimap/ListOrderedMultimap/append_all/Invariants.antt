use Rattle.std.proofs.Common.{◌≡◌, ◌≤◌, ◌+◌, length, map}
use Rattle.ordered_multimap.specs.Changes.{all_appended}
use Rattle.ordered_multimap.specs.Extends.{GrowsForPairs, HasRoomForGiven, HasRoomForMost}
use Rattle.ordered_multimap.proofs.list_ordered_multimap.ListOrderedMultimap.append_all.Given as goal

-- the pairs of the items that the iterator has given were appended, and no room grew where there was
-- enough
abbrev pub invariant-loop-item : goal.invariant-loop-item
invariant-loop-item g l =
    (l.self.lists ≡ all_appended g.K.PartialEq.eq l.fn.self.lists (map g.X.IntoPair.pair_of l.yielded))
    × GrowsForPairs (HasRoomForGiven g.I.IntoIterator.into_iter_gives g.I.IntoIter.Iterator.next_gives l.fn.iter l.fn.self)
    (HasRoomForMost g.I.IntoIterator.into_iter_gives g.I.IntoIter.Iterator.remaining l.fn.iter l.fn.self) l.fn.self l.self
    × (length l.yielded + (goal.iterator-loop-item g).remaining l.item-iterator
    ≤ (goal.iterator-loop-item g).remaining l.initial.item-iterator)
