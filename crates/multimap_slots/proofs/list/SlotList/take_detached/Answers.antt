use Rattle.std.proofs.Common.{None, ap, set, subst, sym, ◌∙◌}
use Rattle.std.proofs.lemmas.List.{get_or_default}
use Rattle.multimap_slots.specs.Lists.{IsIn}
use Rattle.multimap_slots.proofs.Changes.SlotLists.{TakesDetached-set}
use Rattle.multimap_slots.proofs.Changes.Filled.{some_within, IsFilled-free}
use Rattle.multimap_slots.proofs.list.SlotList.take_detached.Goals as goal

pub invariant_of-self : goal.invariant_of-self
invariant_of-self g c =
    let apart = rw (← c.self.view_is) at c.requires in
    let within = some_within c.self.invariant c.args.place apart.has_item in
    rw (c.free_detached.ensures.relists.states_are, c.free_detached.ensures.relists.order_is, c.take.ensures.after)
    (IsFilled-free c.self.invariant c.args.place c.self.inside.order.order within
    (λ p i. (i, λ same. apart.not_listed (subst (λ q. IsIn q c.self.inside.order.order) same i))))

pub returns-clause-taken : goal.returns-clause-taken
returns-clause-taken g c =
    let apart = rw (← c.self.view_is) at c.requires in
    let within = some_within c.self.invariant c.args.place apart.has_item in
    let read = get_or_default c.self.inside.items.items c.args.place None c.index_mut.result.now within ∙ sym c.index_mut.ensures.value
    ∙ sym c.take.ensures.value in
    rw (← c.self.view_is)
    (TakesDetached-set _ _ _ _ apart.not_listed (read ∙ c.in-Some.is) within c.free_detached.ensures.relists.order_is
    (ap (set c.self.inside.items.items c.args.place) c.take.ensures.after) c.free_detached.ensures.relists.links)
