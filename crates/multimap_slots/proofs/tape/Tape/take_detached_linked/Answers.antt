use Rattle.std.proofs.Common.{None, Some, ap, arith, set, refl, sym, ◌∙◌}
use Rattle.std.proofs.lemmas.List.{get_or_default}
use Rattle.std.proofs.lemmas.Option.{slice_get-get_or}
use Rattle.multimap_slots.proofs.Changes.SlotLists.{TakesDetached-set}
use Rattle.multimap_slots.proofs.Callers.Tapes.{IsSome-within}
use Rattle.multimap_slots.proofs.tape.Tape.take_detached_linked.Goals as goal

pub returns-clause-taken : goal.returns-clause-taken
returns-clause-taken g c =
    let some = rw (← c.self.view_is) at c.requires.has_item in
    let within = IsSome-within c.self.inside.items.items c.args.place some in
    let read = get_or_default c.self.inside.items.items c.args.place None c.index_mut.result.now within ∙ sym c.index_mut.ensures.value
    ∙ sym c.take.ensures.value in
    rw (← c.self.view_is) (TakesDetached-set _ _ c.args.place c.in-Some.item (rw (← c.self.view_is) at c.requires.not_listed)
    (read ∙ c.in-Some.is) within
    refl (ap (set c.self.inside.items.items c.args.place) c.take.ensures.after) refl)

pub returns-clause-counts : goal.returns-clause-counts
returns-clause-counts g c = rw (← c.self.view_is) (record { moved = refl; freed = refl; holes = refl })

pub index-requires : goal.index-requires
index-requires g c =
    let within = IsSome-within c.self.inside.items.items c.args.place (rw (← c.self.view_is) at c.requires.has_item) in
    omega (arith, within, c.self.invariant.items_used, c.self.invariant.links_used, c.self.inside.links.ok)

pub returns-clause-link : goal.returns-clause-link
returns-clause-link g c =
    let within = IsSome-within c.self.inside.items.items c.args.place (rw (← c.self.view_is) at c.requires.has_item) in
    rw (← c.self.view_is) (slice_get-get_or c.self.inside.links.items c.args.place c.index.result.now
    (omega (arith, within, c.self.invariant.items_used, c.self.invariant.links_used)) ∙ ap Some (sym (c.link.ensures.link ∙ c.index.ensures)))
