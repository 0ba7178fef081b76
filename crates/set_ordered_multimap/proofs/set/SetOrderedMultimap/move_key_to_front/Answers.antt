use Rattle.std.proofs.Common.{rules}
use Rattle.set_ordered_multimap.proofs.set.SetOrderedMultimap.move_key_to_front.Goals as goal

pub returns-clause-moved : goal.returns-clause-moved
returns-clause-moved g c = search rules
