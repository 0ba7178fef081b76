use Rattle.std.proofs.Common.{rules}
use Rattle.multimap_slots.proofs.tape.Tape.widen.Goals as goal

pub invariant_of-self-2 : goal.invariant_of-self-2
invariant_of-self-2 g c = search rules

pub returns-clause-capacity : goal.returns-clause-capacity
returns-clause-capacity g c = search rules
