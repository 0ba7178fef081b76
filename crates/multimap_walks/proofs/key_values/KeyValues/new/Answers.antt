use Rattle.std.proofs.Common.{rules}
use Rattle.multimap_walks.proofs.key_values.KeyValues.new.Goals as goal

pub along-requires-clause-left : goal.along-requires-clause-left
along-requires-clause-left g c = search rules

pub returns : goal.returns
returns g c = search rules
