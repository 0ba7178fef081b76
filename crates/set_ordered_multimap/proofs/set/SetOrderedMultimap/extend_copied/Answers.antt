use Rattle.set_ordered_multimap.proofs.set.SetOrderedMultimap.extend_copied.Goals as goal

pub returns-clause-inserts : goal.returns-clause-inserts
returns-clause-inserts g c = c.insert_all.ensures.inserts
