use Rattle.multimap_walks.proofs.CountLemmas.{entry_values_mut_counted}
use Rattle.multimap_walks.proofs.writing.chain.methods.EntryValuesMutExactSizeIterator.len.Goals as goal

pub returns-clause-value : goal.returns-clause-value
returns-clause-value g c = entry_values_mut_counted c.args.self.now
