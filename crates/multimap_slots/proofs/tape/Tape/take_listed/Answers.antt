use Rattle.std.proofs.Common.{rules, None, Some, ap, arith, refl, length, min, vec_capacity, set, sym, ◌<◌, ◌∙◌}
use Rattle.std.proofs.lemmas.List.{get_or_default}
use Rattle.std.proofs.lemmas.Option.{slice_get-get_or}
use Rattle.multimap_slots.proofs.Changes.SlotLists.{Removes-set}
use Rattle.multimap_slots.proofs.Callers.Tapes.{IsTape-remove, listed_used}
use Rattle.multimap_slots.proofs.tape.Tape.take_listed.Goals as goal

pub index-requires : goal.index-requires
index-requires g c =
    let within = listed_used c.self.invariant c.args.place (rw (← c.self.view_is) at c.requires) in
    omega (arith, within, c.self.invariant.links_used, c.self.inside.links.ok)

pub index_mut-requires : goal.index_mut-requires
index_mut-requires g c =
    let within = listed_used c.self.invariant c.args.place (rw (← c.self.view_is) at c.requires) in
    omega (arith, within, c.self.invariant.items_used, c.self.inside.items.ok)

pub invariant_of-self : goal.invariant_of-self
invariant_of-self g c =
    rw c.take.ensures.after (IsTape-remove c.self.invariant c.remove.new.self c.args.place (ap (λ s. s.order) c.remove.ensures.removed)
    (ap (λ s. s.used) c.remove.ensures.removed)
    (omega (arith, c.self.invariant.items_fit, ap (λ s. s.capacity) c.remove.ensures.removed))
    (omega (arith, c.self.invariant.links_fit, ap (λ s. s.capacity) c.remove.ensures.removed)))

pub returns-clause-removed : goal.returns-clause-removed
returns-clause-removed g c =
    let listed = rw (← c.self.view_is) at c.requires in
    let within = listed_used c.self.invariant c.args.place listed in
    let in_items : c.args.place < length c.self.inside.items.items = omega (arith, within, c.self.invariant.items_used) in
    let read = get_or_default c.self.inside.items.items c.args.place None c.index_mut.result.now in_items
    ∙ sym c.index_mut.ensures.value ∙ sym c.take.ensures.value in
    rw (← c.self.view_is) (Removes-set _ _ _ _ listed (read ∙ c.in-Some.is) in_items
    (ap (λ s. s.order) c.remove.ensures.removed) c.remove.ensures.shorter
    (ap (set c.self.inside.items.items c.args.place) c.take.ensures.after) refl
    (ap (λ s. min (vec_capacity c.self.inside.items) (min (vec_capacity c.self.inside.links) s.capacity)) c.remove.ensures.removed))

pub returns-clause-link : goal.returns-clause-link
returns-clause-link g c =
    let within = listed_used c.self.invariant c.args.place (rw (← c.self.view_is) at c.requires) in
    rw (← c.self.view_is) (slice_get-get_or c.self.inside.links.items c.args.place c.index.result.now
    (omega (arith, within, c.self.invariant.links_used)) ∙ ap Some (sym (c.link-link.ensures.link ∙ c.index.ensures)))

pub returns-clause-freed : goal.returns-clause-freed
returns-clause-freed g c = search rules
