use Rattle.std.proofs.Common.{rules}
use Rattle.multimap_walks.proofs.pairs.IterClone.clone.Goals as goal

pub invariant_of-result : goal.invariant_of-result
invariant_of-result g c = search rules
