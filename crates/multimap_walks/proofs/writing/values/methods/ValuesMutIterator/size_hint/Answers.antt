use Rattle.multimap_walks.proofs.CountLemmas.{values_mut_counted, tells_length}
use Rattle.multimap_walks.proofs.writing.values.methods.ValuesMutIterator.size_hint.Goals as goal

pub returns : goal.returns
returns g c = tells_length _ _ (values_mut_counted c.args.self.now)
