use Rattle.std.proofs.Common.{◌≡◌, ◌<◌, length, get_or, add-one, sym, ◌∙◌, subst, arith}
use Rattle.std.proofs.lemmas.List.{get_or_default}
use Rattle.multimap_slots.specs.Slots.{PushesBack}
use Rattle.multimap_walks.specs.declared.links.ValueLink.{ValueLink}
use Rattle.ordered_multimap.proofs.Pack.Packing.{coming-start, coming-step, come_length, coming-end, next_there, was_there}
use Rattle.ordered_multimap.proofs.Append.Steps.{room_on, room_same}
use Rattle.ordered_multimap.proofs.list_ordered_multimap.pack.move_values.Goals as goal

pub loop-place-init : goal.loop-place-init
loop-place-init g c = record {
  coming = coming-start _ _ _ c.requires.no_value;
  room = room_same;
}

pub take_listed-value-requires : goal.take_listed-value-requires
take_listed-value-requires g c =
    let w = c.loop-place.invariant in
    next_there w.coming c.requires.dense (omega (arith, c.loop-place-test.true, c.loop-place.auto.place-end, c.len-place-end.ensures.len))

pub index-key-requires : goal.index-key-requires
index-key-requires g c =
    let w = c.loop-place.invariant in
    let t = c.take_listed-value.ensures in
    let more : c.loop-place.place < length c.args.values.now.list.order = omega
    (arith, c.loop-place-test.true, c.loop-place.auto.place-end, c.len-place-end.ensures.len) in
    let was = sym (w.coming.left_links c.loop-place.place (next_there w.coming c.requires.dense more)) ∙ t.link in
    omega (
      arith,
      c.args.new_places.now.ok,
      c.requires.within c.loop-place.place c.take_listed-value.result.1
          (was_there w.coming c.requires.dense more) was,
    )

pub push_reserved-requires-clause-room : goal.push_reserved-requires-clause-room
push_reserved-requires-clause-room g c =
    let w = c.loop-place.invariant in
    omega (
      arith,
      come_length w.coming
          c.requires.dense,
      w.room.counts.holes,
      c.requires.no_hole,
      w.room.capacity,
      c.requires.room,
      c.loop-place-test.true,
      c.loop-place.auto.place-end,
      c.len-place-end.ensures.len,
    )

pub push_reserved-requires-clause-fits : goal.push_reserved-requires-clause-fits
push_reserved-requires-clause-fits g c =
    let small = c.take_listed-value.ensures.fits in λ _. record { previous = small.previous; next = small.next }

pub loop-place-preserved : goal.loop-place-preserved
loop-place-preserved g c =
    let w = c.loop-place.invariant in
    let t = c.take_listed-value.ensures in
    let p = c.push_reserved.ensures in
    let new_places = c.args.new_places.now.items in
    let link : ValueLink = c.take_listed-value.result.1 in
    let more : c.loop-place.place < length c.args.values.now.list.order = omega
    (arith, c.loop-place-test.true, c.loop-place.auto.place-end, c.len-place-end.ensures.len) in
    let was = sym (w.coming.left_links c.loop-place.place (next_there w.coming c.requires.dense more)) ∙ t.link in
    let key_is : c.index-key.result.now ≡ get_or new_places link.key 0 =
    c.index-key.ensures ∙ sym (get_or_default new_places link.key 0 c.index-key.result.now
    (c.requires.within c.loop-place.place link (was_there w.coming c.requires.dense more) was)) in
    rw add-one (record {
      coming =
          coming-step w.coming c.requires.dense t.removed t.link
          (subst (λ k. PushesBack c.loop-place.packed.list c.push_reserved.new.self.list c.push_reserved.result c.take_listed-value.result.0
          (record link { key = k })) key_is p.pushed)
          (omega (arith, p.behind, come_length w.coming c.requires.dense, w.room.counts.holes, c.requires.no_hole));
      room = room_on w.room p.counts p.capacity;
    })

pub returns-clause-come : goal.returns-clause-come
returns-clause-come g c =
    coming-end c.loop-place.invariant.coming c.requires.dense
    (omega (arith, c.loop-place-test.false, c.loop-place.auto.place-end, c.len-place-end.ensures.len))
