use Rattle.std.proofs.Common.{rules}
use Rattle.ordered_multimap.proofs.Remove.ValueByValue.{among_in}
use Rattle.ordered_multimap.proofs.list_ordered_multimap.ListOrderedMultimap.entry.Goals as goal

pub invariant_of-result : goal.invariant_of-result
invariant_of-result g c = record {
  listed = among_in c.args.self.now.slots.keys.order c.in-Some.place
      (rw c.in-Some.is at c.look_up-hash.ensures.found).listed;
  begins = c.first_place-first.ensures;
}

pub invariant_of-result-in-None : goal.invariant_of-result-in-None
invariant_of-result-in-None g c = search rules
