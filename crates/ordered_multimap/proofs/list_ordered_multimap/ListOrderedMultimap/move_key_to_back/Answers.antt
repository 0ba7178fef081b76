use Rattle.std.proofs.Common.{rules}
use Rattle.ordered_multimap.proofs.list_ordered_multimap.ListOrderedMultimap.move_key_to_back.Goals as goal

pub returns-clause-moved : goal.returns-clause-moved
returns-clause-moved g c = search rules
