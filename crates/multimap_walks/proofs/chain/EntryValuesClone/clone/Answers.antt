use Rattle.std.proofs.Common.{rules}
use Rattle.multimap_walks.proofs.chain.EntryValuesClone.clone.Goals as goal

pub returns : goal.returns
returns g c = search rules
