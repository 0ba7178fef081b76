use Rattle.ordered_multimap.proofs.Append.Extended.{extends-own}
use Rattle.ordered_multimap.proofs.list_ordered_multimap.ListOrderedMultimap.extend.Goals as goal

pub returns-clause-extends : goal.returns-clause-extends
returns-clause-extends g c =
    extends-own g.K.PartialEq.eq g.I.IntoIterator.into_iter_gives g.I.IntoIter.Iterator.next_gives c.append_all.result
    c.append_all.ensures.extends
