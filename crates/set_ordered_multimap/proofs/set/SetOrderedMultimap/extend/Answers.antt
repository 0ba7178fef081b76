use Rattle.set_ordered_multimap.proofs.Insertions.{inserts-own}
use Rattle.set_ordered_multimap.proofs.set.SetOrderedMultimap.extend.Goals as goal

pub returns-clause-inserts : goal.returns-clause-inserts
returns-clause-inserts g c =
    inserts-own g.K.PartialEq.eq g.V.PartialEq.eq g.I.IntoIterator.into_iter_gives g.I.IntoIter.Iterator.next_gives c.insert_all.result
    c.insert_all.ensures.inserts
