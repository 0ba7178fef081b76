use Rattle.std.proofs.Common.{arith, ap, Some, ◌∙◌}
use Rattle.multimap_slots.proofs.RunLengths.Hops.{leads_back}
use Rattle.multimap_slots.proofs.tape.runs.RunsInOrder.preceding.Goals as goal

pub overflow_sub-before : goal.overflow_sub-before
overflow_sub-before g c =
    let leads = leads_back _ _ c.self.invariant.are (rw (← c.self.view_is) at c.requires.listed)
    (rw (← c.self.view_is) at c.requires.more) in
    omega (arith, leads.some)

pub number_in-requires : goal.number_in-requires
number_in-requires g c =
    let leads = leads_back _ _ c.self.invariant.are (rw (← c.self.view_is) at c.requires.listed)
    (rw (← c.self.view_is) at c.requires.more) in
    omega (arith, leads.some, leads.within)

pub overflow_sub-result : goal.overflow_sub-result
overflow_sub-result g c =
    let leads = leads_back _ _ c.self.invariant.are (rw (← c.self.view_is) at c.requires.listed)
    (rw (← c.self.view_is) at c.requires.more) in
    omega (arith, leads.fits, c.number_in.ensures)

pub returns : goal.returns
returns g c =
    let leads = leads_back _ _ c.self.invariant.are (rw (← c.self.view_is) at c.requires.listed)
    (rw (← c.self.view_is) at c.requires.more) in
    rw (← c.self.view_is) (leads.previous ∙ ap Some (omega (arith, c.number_in.ensures)))
