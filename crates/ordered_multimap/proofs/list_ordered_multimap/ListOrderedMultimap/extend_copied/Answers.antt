use Rattle.ordered_multimap.proofs.list_ordered_multimap.ListOrderedMultimap.extend_copied.Goals as goal

pub returns-clause-extends : goal.returns-clause-extends
returns-clause-extends g c = c.append_all.ensures.extends
