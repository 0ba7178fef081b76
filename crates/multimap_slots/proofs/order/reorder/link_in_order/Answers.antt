use Rattle.std.proofs.Common.{◌≡◌, get_or, ◌∙◌, arith}
use Rattle.multimap_slots.specs.declared.order.node.State.TheVariants.{Free, Listed}
use Rattle.multimap_slots.specs.Private.ListLayout.{states}
use Rattle.multimap_slots.proofs.Nodes.OneField.{within_listed, length-states}
use Rattle.multimap_slots.proofs.Nodes.Reordered.{tail_more, tail_whole, drop_at, IsIn-at, AreDistinct-at, first_so}
use Rattle.multimap_slots.proofs.order.reorder.link_in_order.Goals as goal

pub some-place-requires : goal.some-place-requires
some-place-requires g c =
    let within = within_listed c.args.nodes.now.items _
    (c.requires.listed _ (IsIn-at c.args.places.now c.loop-left.left c.loop-left-test.true c.loop-left.invariant.within)) in
    omega (arith, within, c.args.nodes.now.ok)

pub set_next-requires : goal.set_next-requires
set_next-requires g c =
    let within = within_listed c.args.nodes.now.items _
    (c.requires.listed _ (IsIn-at c.args.places.now c.loop-left.left c.loop-left-test.true c.loop-left.invariant.within)) in
    rw c.some-place.ensures (omega (arith, within, length-states _ _ c.loop-left.invariant.tail.states))

pub set_previous-requires-clause-listed : goal.set_previous-requires-clause-listed
set_previous-requires-clause-listed g c =
    first_so (λ p. get_or (states c.set_next.new.nodes.items) p Free ≡ Listed) c.args.places.now c.loop-left.left c.loop-left.first
    c.loop-left.invariant.tail.first_is
    (λ x i. rw (c.set_next.ensures.items.states, c.loop-left.invariant.tail.states) (c.requires.listed x i))

pub set_previous-requires-clause-low : goal.set_previous-requires-clause-low
set_previous-requires-clause-low g c =
    let within = within_listed c.args.nodes.now.items _
    (c.requires.listed _ (IsIn-at c.args.places.now c.loop-left.left c.loop-left-test.true c.loop-left.invariant.within)) in
    rw c.some-place.ensures (omega (arith, within, c.args.nodes.now.ok))

pub loop-left-preserved : goal.loop-left-preserved
loop-left-preserved g c =
    let w = c.loop-left.invariant in
    let distinct = AreDistinct-at c.args.places.now c.loop-left.left c.loop-left-test.true w.within c.requires.distinct in
    let more = tail_more _ distinct.0 distinct.1 w.tail (rw c.some-place.ensures at c.set_next.ensures.items)
    (rw c.some-place.ensures at c.set_previous.ensures.items) in
    record {
      tail = rw (c.some-place.ensures, drop_at c.args.places.now c.loop-left.left c.loop-left-test.true w.within) more;
      within = omega (arith, w.within);
      capacity = c.set_previous.ensures.capacity ∙ c.set_next.ensures.capacity ∙ w.capacity;
    }

pub returns : goal.returns
returns g c =
    let w = c.loop-left.invariant in
    let none_left : c.loop-left.left ≡ 0 = omega (arith, c.loop-left-test.false) in
    let whole = tail_whole c.requires.distinct (rw none_left at w.tail) (rw c.none-end.ensures at c.set_next-2.ensures.items)
    (rw c.none-end.ensures at c.set_previous-2.ensures.items) in
    record {
      items = whole;
      capacity = c.set_previous-2.ensures.capacity ∙ c.set_next-2.ensures.capacity ∙ w.capacity;
    }
