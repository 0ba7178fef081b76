use Rattle.std.proofs.Common.{rules}
use Rattle.set_ordered_multimap.proofs.Reordered.{reorders_set}
use Rattle.set_ordered_multimap.proofs.set.sort.SetOrderedMultimap+K+V+S.sort_keys_by_cached_key.Goals as goal

pub returns-clause-stable : goal.returns-clause-stable
returns-clause-stable g c = rw (← c.self.view_is) c.sort_keys_by_cached_key.ensures.stable

pub returns-clause-reordered : goal.returns-clause-reordered
returns-clause-reordered g c =
    rw (← c.self.view_is) (reorders_set g.K.PartialEq.eq g.V.PartialEq.eq c.sort_keys_by_cached_key.ensures.reordered)

pub returns-clause-sorted : goal.returns-clause-sorted
returns-clause-sorted g c = search rules
