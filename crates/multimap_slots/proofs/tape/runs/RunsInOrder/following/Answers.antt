use Rattle.std.proofs.Common.{arith, ap, Some, ◌∙◌}
use Rattle.multimap_slots.proofs.RunLengths.Hops.{leads_on}
use Rattle.multimap_slots.proofs.tape.runs.RunsInOrder.following.Goals as goal

pub overflow_add-behind : goal.overflow_add-behind
overflow_add-behind g c =
    let leads = leads_on _ _ c.self.invariant.are (rw (← c.self.view_is) at c.requires.listed)
    (rw (← c.self.view_is) at c.requires.more) in
    omega (arith, leads.within, c.self.inside.numbers.ok)

pub number_in-requires : goal.number_in-requires
number_in-requires g c =
    let leads = leads_on _ _ c.self.invariant.are (rw (← c.self.view_is) at c.requires.listed)
    (rw (← c.self.view_is) at c.requires.more) in
    omega (arith, leads.within)

pub overflow_add-result : goal.overflow_add-result
overflow_add-result g c =
    let leads = leads_on _ _ c.self.invariant.are (rw (← c.self.view_is) at c.requires.listed)
    (rw (← c.self.view_is) at c.requires.more) in
    omega (arith, leads.within, c.number_in.ensures, c.self.inside.numbers.ok)

pub returns : goal.returns
returns g c =
    let leads = leads_on _ _ c.self.invariant.are (rw (← c.self.view_is) at c.requires.listed)
    (rw (← c.self.view_is) at c.requires.more) in
    rw (← c.self.view_is) (leads.next ∙ ap Some (omega (arith, c.number_in.ensures)))
