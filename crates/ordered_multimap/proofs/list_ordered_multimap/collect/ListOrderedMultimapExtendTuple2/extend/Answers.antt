use Rattle.ordered_multimap.proofs.Append.Extended.{extends_in_room-own, stopped-own}
use Rattle.ordered_multimap.proofs.list_ordered_multimap.collect.ListOrderedMultimapExtendTuple2.extend.Goals as goal

pub returns-clause-extends : goal.returns-clause-extends
returns-clause-extends g c = extends_in_room-own g.K.PartialEq.eq c.extend_in_room.ensures.extends

pub returns-clause-stopped : goal.returns-clause-stopped
returns-clause-stopped g c = stopped-own g.K.PartialEq.eq g.I.IntoIterator.into_iter_gives g.I.IntoIter.Iterator.next_gives c.args.iter
    c.args.self.now c.extend_in_room.new.self c.extend_in_room.result
    c.extend_in_room.ensures.stopped
