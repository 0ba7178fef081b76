use Rattle.ordered_multimap.proofs.Remove.ValueByValue.{among_in}
use Rattle.ordered_multimap.proofs.list_ordered_multimap.entry.VacantEntry.insert_made_entry.Goals as goal

pub invariant_of-self : goal.invariant_of-self
invariant_of-self g c = record {
  listed = among_in c.append_new.new.self.slots.keys.order c.in-Ok-append_new.place c.in-Ok-append_new.ensures.found.listed;
  begins = c.first_place-first.ensures;
}
