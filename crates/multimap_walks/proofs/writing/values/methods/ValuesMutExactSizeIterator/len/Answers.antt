use Rattle.multimap_walks.proofs.CountLemmas.{values_mut_counted}
use Rattle.multimap_walks.proofs.writing.values.methods.ValuesMutExactSizeIterator.len.Goals as goal

pub returns-clause-value : goal.returns-clause-value
returns-clause-value g c = values_mut_counted c.args.self.now
