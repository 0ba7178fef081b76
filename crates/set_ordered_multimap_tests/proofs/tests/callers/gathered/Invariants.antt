use Rattle.std.proofs.Common.{◌≡◌}
use Rattle.ordered_multimap.specs.Lists.{empty_lists}
use Rattle.set_ordered_multimap.specs.Set.{IsSet, all_inserted}
use Rattle.set_ordered_multimap_tests.proofs.tests.callers.gathered.Given as goal

-- the pairs that the iterator has given were inserted, and no pair stands twice
abbrev pub invariant-loop-key : goal.invariant-loop-key
invariant-loop-key g l =
    (l.set.lists ≡ all_inserted g.K.PartialEq.eq g.V.PartialEq.eq empty_lists l.yielded)
    × IsSet g.K.PartialEq.eq g.V.PartialEq.eq l.set.lists
