use Rattle.set_ordered_multimap.proofs.Reordered.{reorders_set}
use Rattle.set_ordered_multimap.proofs.set.SetOrderedMultimap.sort_keys_by.Goals as goal

pub returns-clause-reordered : goal.returns-clause-reordered
returns-clause-reordered g c =
    rw (← c.self.view_is) (reorders_set g.K.PartialEq.eq g.V.PartialEq.eq c.sort_keys_by.ensures.reordered)
