use Rattle.multimap_walks.proofs.CountLemmas.{iter_mut_counted, tells_length}
use Rattle.multimap_walks.proofs.writing.pairs.methods.IterMutIterator.size_hint.Goals as goal

pub returns : goal.returns
returns g c = tells_length _ _ (iter_mut_counted c.args.self.now)
