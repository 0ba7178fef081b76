use Rattle.std.proofs.Common.{rules}
use Rattle.multimap_slots.proofs.tape.Tape.push_place.Goals as goal

pub returns-clause-within : goal.returns-clause-within
returns-clause-within g c = rw (← c.self.view_is) c.used.ensures.within

pub returns-clause-end : goal.returns-clause-end
returns-clause-end g c = search rules
