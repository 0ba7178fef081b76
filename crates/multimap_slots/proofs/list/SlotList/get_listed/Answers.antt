use Rattle.std.proofs.Common.{rules, arith}
use Rattle.multimap_slots.proofs.Changes.Filled.{filled_within}
use Rattle.multimap_slots.proofs.list.SlotList.get_listed.Goals as goal

pub index-requires : goal.index-requires
index-requires g c =
    omega (arith, c.self.inside.items.ok, filled_within c.self.invariant c.args.place (rw (← c.self.view_is) at c.requires))

pub returns-clause-counted : goal.returns-clause-counted
returns-clause-counted g c = search rules
