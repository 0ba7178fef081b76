use Rattle.multimap_walks.proofs.CountLemmas.{entry_values_mut_counted, tells_length}
use Rattle.multimap_walks.proofs.writing.chain.methods.EntryValuesMutIterator.size_hint.Goals as goal

pub returns : goal.returns
returns g c = tells_length _ _ (entry_values_mut_counted c.args.self.now)
