use Rattle.std.proofs.Common.{rules}
use Rattle.ordered_multimap.proofs.list_ordered_multimap.ListOrderedMultimap.pop_front_with.Goals as goal

pub returns-clause-popped : goal.returns-clause-popped
returns-clause-popped g c = search rules
