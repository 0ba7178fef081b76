use Rattle.std.proofs.Common.{[], ◌∷◌, ◌++◌, ap, append_assoc, arith, length, length-append, sym, ◌∙◌}
use Rattle.std.proofs.lemmas.List.{append-nil}
use Rattle.ordered_multimap.proofs.list_ordered_multimap.sort.places_of.Goals as goal

pub loop-place-init : goal.loop-place-init
loop-place-init g c =
    let all = c.all-left.ensures in
    record {
      are_left = all.are_left;
      split = rw c.in_ok-places.ensures.items (sym all.whole);
      room = omega (
        arith,
        ap length all.whole,
        ap (λ ends. ends.length) all.all,
        ap length c.in_ok-places.ensures.items,
        c.in_ok-places.ensures.capacity,
      );
    }

pub loop-place-smaller : goal.loop-place-smaller
loop-place-smaller g c = omega (arith, ap length c.in-Some.ensures.taken)

pub loop-place-preserved : goal.loop-place-preserved
loop-place-preserved g c =
    let w = c.loop-place.invariant in
    let places = c.loop-place.places.items in
    let taken = c.in-Some.ensures.taken in
    let items = c.push_reserved.ensures.items in
    record {
      are_left = c.take.ensures.are_left;
      split = rw items (w.split ∙ ap (λ ps. places ++ ps) taken ∙ sym (append_assoc places (c.in-Some.place ∷ []) _));
      room = omega (
        arith,
        w.room,
        ap length taken,
        ap length items,
        length-append places (c.in-Some.place ∷ []),
        c.push_reserved.ensures.capacity,
      );
    }

pub returns : goal.returns
returns g c =
    let places = c.loop-place.places.items in
    sym (c.loop-place.invariant.split ∙ ap (λ ps. places ++ ps) (c.in_default.ensures {u = tt}).taken.0 ∙ append-nil places)
