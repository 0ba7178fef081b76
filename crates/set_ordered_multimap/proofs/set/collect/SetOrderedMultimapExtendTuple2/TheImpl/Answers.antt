use Rattle.set_ordered_multimap.proofs.set.collect.SetOrderedMultimapExtendTuple2.TheImpl.Goals as goal

pub extend-asks : goal.extend-asks
extend-asks g c = λ it becomes. let asked = c.requires it becomes in (asked.0, asked.1)

pub extend-tells : goal.extend-tells
extend-tells g c = record { ran = c.ensures.ran }
