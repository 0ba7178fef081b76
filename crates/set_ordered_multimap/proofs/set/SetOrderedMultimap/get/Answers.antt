use Rattle.std.proofs.Common.{rules}
use Rattle.set_ordered_multimap.proofs.set.SetOrderedMultimap.get.Goals as goal

pub returns : goal.returns
returns g c = search rules
