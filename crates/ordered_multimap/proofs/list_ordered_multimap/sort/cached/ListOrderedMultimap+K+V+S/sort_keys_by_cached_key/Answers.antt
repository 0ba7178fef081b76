use Rattle.std.proofs.Common.{rules}
use Rattle.ordered_multimap.proofs.list_ordered_multimap.sort.cached.ListOrderedMultimap+K+V+S.sort_keys_by_cached_key.Goals as goal

pub returns-clause-stable : goal.returns-clause-stable
returns-clause-stable g c = rw (c.set_key_order.ensures.lists, c.as_slice.ensures.value) c.in_ok-places.ensures.stable

pub returns-clause-sorted : goal.returns-clause-sorted
returns-clause-sorted g c = search rules

pub returns-in_default-clause-sorted : goal.returns-in_default-clause-sorted
returns-in_default-clause-sorted g c = search rules
