use Rattle.std.proofs.Common.{rules}
use Rattle.ordered_multimap.proofs.list_ordered_multimap.ListOrderedMultimap.insert_map.Goals as goal

pub returns-clause-ok : goal.returns-clause-ok
returns-clause-ok g c = search rules

pub returns-clause-refused : goal.returns-clause-refused
returns-clause-refused g c = search rules
