use Rattle.std.proofs.Common.{arith, rules}
use Rattle.multimap_slots.proofs.Callers.Tapes.{listed_used}
use Rattle.multimap_slots.proofs.tape.Tape.set_listed_link.Goals as goal

pub index_mut-requires : goal.index_mut-requires
index_mut-requires g c =
    let within = listed_used c.self.invariant c.args.place (rw (← c.self.view_is) at c.requires.listed) in
    omega (arith, within, c.self.invariant.links_used, c.self.inside.links.ok)

pub returns : goal.returns
returns g c = search rules
