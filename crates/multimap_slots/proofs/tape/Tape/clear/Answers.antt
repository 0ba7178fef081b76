use Rattle.std.proofs.Common.{arith}
use Rattle.multimap_slots.proofs.tape.Tape.clear.Goals as goal

pub returns-clause-freed : goal.returns-clause-freed
returns-clause-freed g c = rw (← c.self.view_is) (omega (arith, c.count_more.ensures, c.len.ensures.len))
