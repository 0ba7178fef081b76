use Rattle.std.proofs.Common.{◌≡◌, ◌≤◌, ◌/◌, length, subst, refl, arith}
use Rattle.ordered_multimap.specs.TapeNumbers.{ArePaid}
use Rattle.ordered_multimap.proofs.Agreement.Agreed.{length-pairs}
use Rattle.ordered_multimap.proofs.list_ordered_multimap.ListOrderedMultimap.values_capacity.Goals as goal

pub returns-clause-fits : goal.returns-clause-fits
returns-clause-fits g c =
    subst (λ m. length m.lists.pairs ≤ m.value_room) c.self.view_is
    (omega (arith, length-pairs c.self.invariant.agrees, c.self.invariant.fits))

pub returns-clause-half : goal.returns-clause-half
returns-clause-half g c = subst (λ m. m.value_room ≡ m.tape.slots / 2) c.self.view_is refl

pub returns-clause-paid : goal.returns-clause-paid
returns-clause-paid g c = subst (λ m. ArePaid m.tape) c.self.view_is c.self.invariant.paid
