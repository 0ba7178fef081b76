use Rattle.std.proofs.Common.{rules}
use Rattle.std.proofs.Common.{◌≤◌, length, subst, arith}
use Rattle.ordered_multimap.proofs.Agreement.Agreed.{length-keys}
use Rattle.ordered_multimap.proofs.list_ordered_multimap.ListOrderedMultimap.keys_capacity.Goals as goal

pub returns-clause-fits : goal.returns-clause-fits
returns-clause-fits g c =
    subst (λ m. length m.lists.keys ≤ m.key_room) c.self.view_is
    (omega (
      arith,
      length-keys
          c.self.invariant.agrees,
      c.self.invariant.agrees.keys_sound.fits,
      c.self.invariant.agrees.counted,
      c.capacity-2.ensures.fits,
    ))

pub returns-clause-capacity : goal.returns-clause-capacity
returns-clause-capacity g c = search rules
