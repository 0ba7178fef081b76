use Rattle.std.proofs.Common.{rules}
use Rattle.multimap_walks.proofs.key_values.KeyValues.new_between.Goals as goal

pub returns : goal.returns
returns g c = search rules
