use Rattle.ordered_multimap.proofs.Remove.ValueByValue.{among_in}
use Rattle.ordered_multimap.proofs.list_ordered_multimap.entry.OccupiedEntry.remove_at.Goals as goal

pub invariant_of-self : goal.invariant_of-self
invariant_of-self g c = record {
  listed = among_in c.take_value_at-value.new.self.slots.keys.order c.args.self.now.place c.take_value_at-value.ensures.stays.place_stays.listed;
  begins = c.first_place-self.ensures;
}

pub returns-clause-value : goal.returns-clause-value
returns-clause-value g c = λ k is. c.take_value_at-value.ensures.value k is

pub returns-clause-lists : goal.returns-clause-lists
returns-clause-lists g c = λ k is. c.take_value_at-value.ensures.lists k is
