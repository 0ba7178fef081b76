use Rattle.std.proofs.Common.{rules}
use Rattle.multimap_walks.proofs.Callers.Along.{length_along}
use Rattle.multimap_walks.proofs.pairs.IterExactSizeIterator.len.Goals as goal

pub returns-clause-value : goal.returns-clause-value
returns-clause-value g c = search (rules, length_along)
