use Rattle.ordered_multimap.proofs.Remove.ValueByValue.{among_in}
use Rattle.ordered_multimap.proofs.list_ordered_multimap.entry.OccupiedEntry.set.Goals as goal

pub invariant_of-self : goal.invariant_of-self
invariant_of-self g c = record {
  listed = among_in c.set_at-old.new.self.slots.keys.order c.args.self.now.place c.set_at-old.ensures.stays.place_stays.listed;
  begins = c.first_place-self.ensures;
}
