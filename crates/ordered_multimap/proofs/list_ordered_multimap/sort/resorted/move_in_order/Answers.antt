use Rattle.std.proofs.Common.{◌<◌, length, add-one, arith}
use Rattle.std.proofs.lemmas.List.Sorted.{length_permutation}
use Rattle.ordered_multimap.proofs.Append.Steps.{room_on, room_same}
use Rattle.ordered_multimap.proofs.PairSorts.Resorting.{next_begun, next_listed, next_place, resorting-end, resorting-start, resorting-step}
use Rattle.ordered_multimap.proofs.list_ordered_multimap.sort.resorted.move_in_order.Goals as goal

pub loop-index-init : goal.loop-index-init
loop-index-init g c = record {
  resorting = resorting-start _ _ _ _ c.requires.chains c.requires.same c.requires.no_value;
  room = room_same;
}

pub take_listed-value-requires : goal.take_listed-value-requires
take_listed-value-requires g c =
    let w = c.loop-index.invariant.resorting in
    let more : c.loop-index.index < length c.args.places.now = omega (arith, c.loop-index-test.true) in
    next_listed c.requires.chains c.requires.same w _ (next_place c.requires.chains c.requires.same w more)

pub push_next-requires-clause-begun : goal.push_next-requires-clause-begun
push_next-requires-clause-begun g c =
    let w = c.loop-index.invariant.resorting in
    let more : c.loop-index.index < length c.args.places.now = omega (arith, c.loop-index-test.true) in
    next_begun c.requires.chains c.requires.same w _ (next_place c.requires.chains c.requires.same w more) c.take_listed-value.result.1
    c.take_listed-value.ensures.link

pub push_next-requires-clause-room : goal.push_next-requires-clause-room
push_next-requires-clause-room g c =
    let w = c.loop-index.invariant in
    omega (
      arith,
      w.resorting.come,
      w.room.counts.holes,
      w.room.capacity,
      c.requires.no_hole,
      c.requires.room,
      length_permutation _ _ c.requires.same,
      c.loop-index-test.true,
    )

pub loop-index-preserved : goal.loop-index-preserved
loop-index-preserved g c =
    let w = c.loop-index.invariant.resorting in
    let more : c.loop-index.index < length c.args.places.now = omega (arith, c.loop-index-test.true) in
    let t = c.take_listed-value.ensures in
    rw add-one (record {
      resorting = resorting-step c.requires.chains c.requires.same w _ (next_place c.requires.chains c.requires.same w more)
          c.take_listed-value.result.1 t.link t.removed c.push_next.ensures.pushed;
      room = room_on c.loop-index.invariant.room c.push_next.ensures.room.counts c.push_next.ensures.room.capacity;
    })

pub returns-clause-resorted : goal.returns-clause-resorted
returns-clause-resorted g c =
    resorting-end c.requires.chains c.requires.same c.loop-index.invariant.resorting (omega (arith, c.loop-index-test.false))
