use Rattle.std.proofs.Common.{◌<◌, length, refl, ◌∙◌, arith}
use Rattle.ordered_multimap.proofs.Agreement.NewPlaces.{places-start}
use Rattle.ordered_multimap.proofs.Agreement.Rows.{rows-start, rows-step}
use Rattle.ordered_multimap.proofs.Clone.InPlace.{in_place-end, in_place-length, in_place-listed, in_place-step, no_hole-start}
use Rattle.ordered_multimap.proofs.list_ordered_multimap.clone.in_place.clone_keys_in_place.Goals as goal

pub loop-place-init : goal.loop-place-init
loop-place-init g c = record {
  have = places-start _ _ c.requires.no_key;
  rows = rows-start _ _ c.requires.no_key c.requires.no_row;
  no_hole = no_hole-start c.requires.no_key;
  rooms = record { key_room = refl; row_room = refl };
}

pub clone_key_in_place-requires : goal.clone_key_in_place-requires
clone_key_in_place-requires g c =
    let w = c.loop-place.invariant in
    let order = c.args.keys.now.order in
    let more : c.loop-place.place < length order = omega (arith, c.len-place-end.ensures.len, c.loop-place-test.true) in
    let made = in_place-length {place = c.loop-place.place} w.have in
    record {
      listed = in_place-listed order c.loop-place.place c.requires.dense more;
      rows = w.rows.listed;
      key_room = omega (arith, more, made, w.rooms.key_room, c.requires.room);
      row_room = omega (arith, more, made, w.rows.counted, w.rooms.row_room, c.requires.room);
      no_hole = w.no_hole;
    }

pub loop-place-preserved : goal.loop-place-preserved
loop-place-preserved g c =
    let w = c.loop-place.invariant in
    let m = c.in_ok-clone_key_in_place.ensures.copied in
    record {
      have = in_place-step w.have m.pushed m.stands refl;
      rows = rows-step m.pushed m.rows_are w.rows;
      no_hole = c.in_ok-clone_key_in_place.ensures.no_hole;
      rooms = record {
        key_room = c.clone_key_in_place.ensures.rooms.key_room ∙ w.rooms.key_room;
        row_room = c.clone_key_in_place.ensures.rooms.row_room ∙ w.rooms.row_room;
      };
    }

pub returns-clause-copied : goal.returns-clause-copied
returns-clause-copied g c =
    in_place-end {place = c.loop-place.place} c.loop-place.invariant.have c.requires.dense
    (omega (arith, c.len-place-end.ensures.len, c.loop-place-test.false, c.loop-place.auto.place-end))
