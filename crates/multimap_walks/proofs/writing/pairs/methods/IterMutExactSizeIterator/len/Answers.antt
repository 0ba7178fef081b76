use Rattle.multimap_walks.proofs.CountLemmas.{iter_mut_counted}
use Rattle.multimap_walks.proofs.writing.pairs.methods.IterMutExactSizeIterator.len.Goals as goal

pub returns-clause-value : goal.returns-clause-value
returns-clause-value g c = iter_mut_counted c.args.self.now
