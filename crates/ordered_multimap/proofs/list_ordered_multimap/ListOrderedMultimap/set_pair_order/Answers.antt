use Rattle.std.proofs.Common.{refl, ap, arith}
use Rattle.std.proofs.lemmas.List.Sorted.{length_permutation}
use Rattle.multimap_walks.specs.declared.links.KeyLink.{KeyLink}
use Rattle.multimap_slots.specs.Slots.{Slots}
use Rattle.ordered_multimap.proofs.PairSorts.Resorted.{agrees-resorted, lists_of-resorted, pairs-permuted}
use Rattle.ordered_multimap.proofs.list_ordered_multimap.ListOrderedMultimap.set_pair_order.Goals as goal

pub invariant_of-self : goal.invariant_of-self
invariant_of-self g c =
    let r = c.move_in_order.ensures.resorted in
    let room = c.move_in_order.ensures.room in
    let same = rw (← c.self.view_is) at c.requires.same in
    let slots = rw (← c.self.view_is) at c.requires.slots in
    record {
      agrees = agrees-resorted c.self.invariant.agrees r;
      fits = omega (arith, c.self.invariant.fits, r.count, length_permutation _ _ same, room.capacity, slots);
      paid = omega (arith, room.counts.moved, room.counts.holes, c.requires.unused.moved, c.requires.unused.holes);
    }

pub returns-clause-reordered : goal.returns-clause-reordered
returns-clause-reordered g c =
    let r = c.move_in_order.ensures.resorted in
    let same = rw (← c.self.view_is) at c.requires.same in
    let slots = rw (← c.self.view_is) at c.requires.slots in
    let capacity = c.move_in_order.ensures.room.capacity in
    let keys_capacity = ap (λ (ks : Slots g.row.K.Denot KeyLink). ks.capacity) r.kept.rest in
    rw (← c.self.view_is) (record {
      keys = ap (λ m. m.keys) (lists_of-resorted c.self.invariant.agrees r);
      pairs = pairs-permuted c.self.invariant.agrees r same;
      rooms = record {
        keys = omega (arith, keys_capacity);
        values = omega (arith, capacity, slots);
        hasher = refl;
      };
      key_room = omega (arith, keys_capacity);
      slots = omega (arith, capacity, slots);
    })
