use Rattle.std.proofs.Common.{refl}
use Rattle.multimap_slots.specs.Slots.{item_at}
use Rattle.ordered_multimap.proofs.KeySorts.Reordered.{agrees-in_order, permuted-found}
use Rattle.ordered_multimap.proofs.list_ordered_multimap.ListOrderedMultimap.set_key_order.Goals as goal

pub invariant_of-self : goal.invariant_of-self
invariant_of-self g c =
    let same = rw (← c.self.view_is) at c.requires in
    rw c.set_order.ensures (record {
      agrees = agrees-in_order g.met.K.Eq.laws c.self.invariant.agrees c.args.places.now same;
      fits = c.self.invariant.fits;
      paid = c.self.invariant.paid;
    })

pub returns-clause-reordered : goal.returns-clause-reordered
returns-clause-reordered g c =
    let same = rw (← c.self.view_is) at c.requires in
    rw (← c.self.view_is, c.set_order.ensures) (record {
      keys = permuted-found (item_at c.self.inside.keys) c.self.inside.keys.order c.self.invariant.agrees.keys_sound.filled same;
      pairs = refl;
      numbers = record {
        rooms = record {
          keys = refl;
          values = refl;
          slots = refl;
          hasher = refl;
        };
        tape = refl;
      };
    })
