use Rattle.std.proofs.Common.{rules}
use Rattle.multimap_walks.proofs.slots.key_values_of.Goals as goal

pub returns : goal.returns
returns g c = search rules
