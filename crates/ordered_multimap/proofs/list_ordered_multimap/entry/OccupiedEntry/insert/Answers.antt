use Rattle.ordered_multimap.proofs.Remove.ValueByValue.{among_in}
use Rattle.ordered_multimap.proofs.list_ordered_multimap.entry.OccupiedEntry.insert.Goals as goal

pub invariant_of-self : goal.invariant_of-self
invariant_of-self g c = record {
  listed = among_in c.insert_at-old_first.new.self.slots.keys.order c.args.self.now.place c.insert_at-old_first.ensures.stays.place_stays.listed;
  begins = c.first_place-self.ensures;
}
