use Rattle.std.proofs.Common.{rules}
use Rattle.ordered_multimap.proofs.list_ordered_multimap.ListOrderedMultimap.from_iter.Goals as goal

pub returns-clause-built : goal.returns-clause-built
returns-clause-built g c = search rules

pub returns-clause-unused : goal.returns-clause-unused
returns-clause-unused g c = search rules

pub returns-in-Err-clause-refused : goal.returns-in-Err-clause-refused
returns-in-Err-clause-refused g c = search rules
