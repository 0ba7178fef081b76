use Rattle.std.proofs.Common.{◌≡◌, ◌≤◌, length, None, Some, ap, arith, sym, ◌∙◌}
use Rattle.std.proofs.lemmas.List.{get_or_past}
use Rattle.std.proofs.lemmas.Option.{slice_get-get_or}
use Rattle.multimap_slots.proofs.Changes.SlotLists.{PushesBack-put}
use Rattle.multimap_slots.proofs.Changes.Put.{put-push}
use Rattle.multimap_slots.proofs.Callers.Tapes.{IsTape-push, listed_used}
use Rattle.multimap_slots.proofs.tape.Tape.push_linked.Goals as goal

pub index-requires : goal.index-requires
index-requires g c =
    let within = listed_used c.other.invariant c.args.place (rw (← c.other.view_is) at c.requires.listed) in
    omega (arith, within, c.other.invariant.links_used, c.other.inside.links.ok)

pub invariant_of-self : goal.invariant_of-self
invariant_of-self g c =
    let pushed = c.push.ensures.pushed in
    let order = ap (λ s. s.order) pushed in
    let capacity = ap (λ s. s.capacity) pushed in
    rw (c.push_reserved.ensures.items, c.push_reserved-2.ensures.items)
    (IsTape-push c.self.invariant c.push.new.self c.args.item c.copied.result (rw c.push.ensures.place at order)
    (ap (λ s. s.used) pushed)
    (omega (arith, c.self.invariant.items_fit, c.push_reserved.ensures.capacity, capacity))
    (omega (arith, c.self.invariant.links_fit, c.push_reserved-2.ensures.capacity, capacity)))

pub returns-clause-pushed : goal.returns-clause-pushed
returns-clause-pushed g c =
    let place = c.push.ensures.place in
    let items = c.self.inside.items.items in
    let behind : length items ≤ c.push.result = omega (arith, place, c.self.invariant.items_used) in
    let links_behind : length c.self.inside.links.items ≤ c.push.result = omega (arith, place, c.self.invariant.links_used) in
    let within = listed_used c.other.invariant c.args.place (rw (← c.other.view_is) at c.requires.listed) in
    rw (← c.self.view_is, ← c.other.view_is) (λ link is.
    let both : Some c.copied.result ≡ Some link =
    ap Some (c.copied.ensures ∙ c.index.ensures)
    ∙ sym (slice_get-get_or c.other.inside.links.items c.args.place c.index.result.now
    (omega (arith, within, c.other.invariant.links_used))) ∙ is in
    let same : c.copied.result ≡ link = cc in
    PushesBack-put _ _ _ _ _ (get_or_past items c.push.result None behind)
    (λ i. omega (arith, place, c.used-used.ensures.within c.push.result i))
    (omega (arith, place, c.self.invariant.items_used)) (omega (arith, place, c.self.invariant.links_used))
    (ap (λ s. s.order) c.push.ensures.pushed)
    (c.push_reserved.ensures.items ∙ sym (put-push items c.push.result (Some c.args.item) behind))
    ((rw same at c.push_reserved-2.ensures.items) ∙ sym (put-push c.self.inside.links.items c.push.result link links_behind)))

pub returns-clause-behind : goal.returns-clause-behind
returns-clause-behind g c = rw (← c.self.view_is) (omega (arith, c.push.ensures.place, c.used-used.ensures.among))
