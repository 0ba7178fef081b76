use Rattle.std.proofs.Common.{rules}
use Rattle.std.proofs.Common.{length, refl, sym, ◌∙◌, ap, arith}
use Rattle.std.proofs.lemmas.List.{length-set}
use Rattle.ordered_multimap.proofs.Pack.Packing.{going-start, going-step, going-listed}
use Rattle.ordered_multimap.proofs.Agreement.Rows.{rows-start, rows-step}
use Rattle.ordered_multimap.proofs.Callers.Places.{begins}
use Rattle.ordered_multimap.proofs.list_ordered_multimap.pack.move_keys.Goals as goal

pub loop-place-init : goal.loop-place-init
loop-place-init g c = record {
  going = going-start _ _ _ c.requires.no_key;
  rows = rows-start _ _ c.requires.no_key c.requires.no_row;
  new_places = refl;
  rooms = record { key_room = refl; row_room = refl };
}

pub move_key-requires-clause-within : goal.move_key-requires-clause-within
move_key-requires-clause-within g c =
    let w = c.loop-place.invariant in
    omega (arith, w.new_places, c.requires.within c.in-Some.place (going-listed w.going (sym c.front_place.ensures ∙ c.in-Some.is)))

pub loop-place-preserved : goal.loop-place-preserved
loop-place-preserved g c =
    let w = c.loop-place.invariant in
    let m = c.move_key.ensures in
    let first = sym c.front_place.ensures ∙ c.in-Some.is in
    record {
      going =
          going-step m.moved c.len-len.ensures.sound w.going (begins _ _ first)
          (omega (arith, w.new_places, c.requires.within c.in-Some.place (going-listed w.going first)));
      rows = rows-step m.moved.pushed m.moved.rows_are w.rows;
      new_places = ap length m.moved.new_places_are ∙ length-set _ _ _ ∙ w.new_places;
      rooms = record { key_room = m.rooms.key_room ∙ w.rooms.key_room; row_room = m.rooms.row_room ∙ w.rooms.row_room };
    }

pub returns-clause-gone : goal.returns-clause-gone
returns-clause-gone g c = search rules
