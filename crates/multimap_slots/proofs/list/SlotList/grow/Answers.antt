use Rattle.std.proofs.Common.{rules, arith}
use Rattle.multimap_slots.proofs.list.SlotList.grow.Goals as goal

pub overflow_sub-missing : goal.overflow_sub-missing
overflow_sub-missing g c =
    omega (
      arith,
      rw (← c.self.view_is)
          at c.requires,
      c.vacant.ensures.vacant,
      c.vacant.ensures.fits,
      c.self.invariant.same_length,
      c.self.inside.items.ok,
    )

pub returns-in_ok-grow_to : goal.returns-in_ok-grow_to
returns-in_ok-grow_to g c = search rules

pub returns-in_ok-grow_to-2 : goal.returns-in_ok-grow_to-2
returns-in_ok-grow_to-2 g c = search rules
