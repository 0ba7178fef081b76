use Rattle.ordered_multimap.proofs.list_ordered_multimap.into_values.IntoValuesIterator.next.Goals as goal

pub returns-clause-steps : goal.returns-clause-steps
returns-clause-steps g c = c.take_out.ensures
