use Rattle.std.proofs.Common.{rules}
use Rattle.ordered_multimap.proofs.list_ordered_multimap.ListOrderedMultimap.pop_end_with.Goals as goal

pub f-requires : goal.f-requires
f-requires g c = search rules

pub returns-clause-popped : goal.returns-clause-popped
returns-clause-popped g c = search rules

pub returns-clause-result : goal.returns-clause-result
returns-clause-result g c = search rules
