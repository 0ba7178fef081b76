use Rattle.ordered_multimap.proofs.Remove.ValueByValue.{among_in}
use Rattle.ordered_multimap.proofs.list_ordered_multimap.entry.OccupiedEntry.append.Goals as goal

pub invariant_of-self : goal.invariant_of-self
invariant_of-self g c = record {
  listed = among_in c.append_at-result.new.self.slots.keys.order c.args.self.now.place c.append_at-result.ensures.stays.listed;
  begins = c.first_place-self.ensures;
}
