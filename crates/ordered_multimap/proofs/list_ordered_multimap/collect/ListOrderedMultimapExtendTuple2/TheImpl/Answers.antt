use Rattle.ordered_multimap.proofs.list_ordered_multimap.collect.ListOrderedMultimapExtendTuple2.TheImpl.Goals as goal

pub extend-asks : goal.extend-asks
extend-asks g c = λ it becomes. let asked = c.requires it becomes in (asked.0, asked.1)

pub extend-tells : goal.extend-tells
extend-tells g c = record { ran = c.ensures.extends.ran }
