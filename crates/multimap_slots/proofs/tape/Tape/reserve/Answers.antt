use Rattle.std.proofs.Common.{arith}
use Rattle.multimap_slots.proofs.tape.Tape.reserve.Goals as goal

pub returns-then-items-capacity-clause-room : goal.returns-then-items-capacity-clause-room
returns-then-items-capacity-clause-room g c =
    rw (← c.self.view_is) (omega (
      arith,
      c.if-items-capacity.true,
      rw (← c.self.view_is) at c.capacity.ensures,
      c.in-Some.ensures,
      rw
          (← c.self.view_is) at c.len.ensures.len,
    ))
