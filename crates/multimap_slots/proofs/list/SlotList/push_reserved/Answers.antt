use Rattle.std.proofs.Common.{◌≤◌, Some, ap, arith, length, length-append, ◌∷◌, []}
use Rattle.multimap_slots.proofs.Changes.Put.{put-push}
use Rattle.multimap_slots.proofs.Changes.SlotLists.{PushesBack-put}
use Rattle.multimap_slots.proofs.Changes.Filled.{IsFilled-push, empty_absent}
use Rattle.multimap_slots.proofs.list.SlotList.push_reserved.Goals as goal

pub invariant_of-self : goal.invariant_of-self
invariant_of-self g c = rw c.put_item.ensures.items (IsFilled-push c.args.item c.self.invariant c.push_back-place.ensures)

pub returns-clause-pushed : goal.returns-clause-pushed
returns-clause-pushed g c =
    let adds = c.push_back-place.ensures in
    let empty = c.self.invariant.empty c.push_back-place.result adds.was_free in
    rw (← c.self.view_is)
    (PushesBack-put _ _ _ _ _ empty (empty_absent c.self.invariant _ empty)
    (omega (arith, adds.within, c.self.invariant.same_length)) adds.within_links adds.order c.put_item.ensures.items adds.links)

pub returns-clause-behind : goal.returns-clause-behind
returns-clause-behind g c =
    rw (← c.self.view_is) (λ no_hole.
    let full = c.self.invariant.same_length in
    omega (arith, no_hole, full, c.push_back-place.ensures.behind (omega (arith, no_hole, full))))

pub returns-clause-no_hole : goal.returns-clause-no_hole
returns-clause-no_hole g c =
    let adds = c.push_back-place.ensures in
    let full = c.self.invariant.same_length in
    let items = c.self.inside.items.items in
    rw (← c.self.view_is) (λ no_hole.
    let past : length items ≤ c.push_back-place.result = omega (arith, no_hole, full, adds.behind (omega (arith, no_hole, full))) in
    omega (
      arith,
      no_hole,
      ap length c.put_item.ensures.items,
      ap length (put-push items c.push_back-place.result (Some c.args.item) past),
      length-append items (Some c.args.item ∷ []),
      ap length adds.order,
      length-append c.self.inside.order.order (c.push_back-place.result ∷ []),
    ))
