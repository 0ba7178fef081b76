use Rattle.std.proofs.Common.{◌<◌, length, arith}
use Rattle.ordered_multimap.proofs.Agreement.NewPlaces.{places-start}
use Rattle.ordered_multimap.proofs.Append.Steps.{room_on, room_same}
use Rattle.ordered_multimap.proofs.Clone.InPlace.{in_place-end, in_place-length, in_place-listed, in_place-step}
use Rattle.ordered_multimap.proofs.list_ordered_multimap.clone.in_place.clone_values_in_place.Goals as goal

pub loop-place-init : goal.loop-place-init
loop-place-init g c = record { have = places-start _ _ c.requires.no_value; room = room_same }

pub clone_value_in_place-requires : goal.clone_value_in_place-requires
clone_value_in_place-requires g c =
    let w = c.loop-place.invariant in
    let order = c.args.values.now.list.order in
    let more : c.loop-place.place < length order = omega (arith, c.len-place-end.ensures.len, c.loop-place-test.true) in
    record {
      listed = in_place-listed order c.loop-place.place c.requires.dense more;
      end_room = omega (
        arith,
        more,
        in_place-length {place = c.loop-place.place} w.have,
        w.room.counts.holes,
        w.room.capacity,
        c.requires.no_hole,
        c.requires.room,
      );
    }

pub loop-place-preserved : goal.loop-place-preserved
loop-place-preserved g c =
    let w = c.loop-place.invariant in
    let m = c.in_ok-clone_value_in_place.ensures.copied in
    record {
      have = in_place-step w.have m.pushed m.stands (omega (arith, w.room.counts.holes, c.requires.no_hole));
      room = room_on w.room c.clone_value_in_place.ensures.room.counts c.clone_value_in_place.ensures.room.capacity;
    }

pub returns-clause-copied : goal.returns-clause-copied
returns-clause-copied g c =
    in_place-end {place = c.loop-place.place} c.loop-place.invariant.have c.requires.dense
    (omega (arith, c.len-place-end.ensures.len, c.loop-place-test.false, c.loop-place.auto.place-end))
