use Rattle.std.proofs.Common.{◌/◌, length, ap, ◌∙◌, arith}
use Rattle.ordered_multimap.proofs.Agreement.Agreed.{length-keys, length-pairs}
use Rattle.ordered_multimap.proofs.Remove.OnePair.{are_chained}
use Rattle.ordered_multimap.proofs.Pack.RelocatedKeys.{agrees-packed, lists_of-packed, packed_length}
use Rattle.ordered_multimap.proofs.list_ordered_multimap.ListOrderedMultimap.pack_to.Goals as goal

pub pack-requires : goal.pack-requires
pack-requires g c =
    let agrees = c.self.invariant.agrees in
    let s = c.in_ok-storage.ensures in
    let keys = ap (λ m. length m.lists.keys) c.self.view_is in
    record {
      chains = are_chained agrees;
      empty = s.empty;
      key_room = omega (arith, c.requires.keys, keys, length-keys agrees, s.key_room);
      row_room = omega (arith, c.requires.keys, keys, length-keys agrees, s.row_room);
      value_room = omega (arith, c.requires.values, ap (λ m. length m.lists.pairs) c.self.view_is, length-pairs agrees, s.value_room);
      new_places = λ q listed. omega (arith, c.used_slots-places.ensures.above q listed, s.new_places);
    }

pub invariant_of-self : goal.invariant_of-self
invariant_of-self g c =
    let p = c.pack.ensures in
    record {
      agrees = agrees-packed c.self.invariant.agrees p.packed;
      fits =
          omega (
            arith,
            packed_length c.self.invariant.agrees p.packed,
            p.rooms.value_room,
            c.in_ok-storage.ensures.value_room,
            c.requires.values,
            ap (λ m. length m.lists.pairs) c.self.view_is,
            length-pairs c.self.invariant.agrees,
          );
      paid = omega (arith, p.unused.moved, p.unused.holes);
    }

pub returns : goal.returns
returns g c =
    let r = c.pack.ensures.rooms in let s = c.in_ok-storage.ensures in
    record {
      ok = record {
        lists = lists_of-packed c.self.invariant.agrees c.pack.ensures.packed ∙ ap (λ m. m.lists) c.self.view_is;
        hasher = ap (λ m. m.hasher) c.self.view_is;
        key_room = omega (arith, r.key_room, r.row_room, s.key_room, s.row_room);
        value_room = omega (arith, ap (λ n. n / 2) r.value_room, s.value_room);
        unused = c.pack.ensures.unused;
      };
      refused = tt;
    }
