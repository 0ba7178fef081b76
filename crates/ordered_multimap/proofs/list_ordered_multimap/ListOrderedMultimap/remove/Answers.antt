use Rattle.std.proofs.Common.{rules}
use Rattle.ordered_multimap.proofs.list_ordered_multimap.ListOrderedMultimap.remove.Goals as goal

pub returns-in-Some-clause-value : goal.returns-in-Some-clause-value
returns-in-Some-clause-value g c = search rules
