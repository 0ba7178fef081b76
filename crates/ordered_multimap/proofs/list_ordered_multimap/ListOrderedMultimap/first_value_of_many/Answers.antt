use Rattle.std.proofs.Common.{arith}
use Rattle.ordered_multimap.proofs.Agreement.Agreed.{length-pairs}
use Rattle.ordered_multimap.proofs.KeySorts.Reordered.{first-listed}
use Rattle.ordered_multimap.proofs.list_ordered_multimap.ListOrderedMultimap.first_value_of_many.Goals as goal

pub returns-then-len-le1-clause-few : goal.returns-then-len-le1-clause-few
returns-then-len-le1-clause-few g c =
    rw (← c.self.view_is) (omega (arith, length-pairs c.self.invariant.agrees, c.len.ensures.len, c.if-len-le1.true))

pub returns-clause-many : goal.returns-clause-many
returns-clause-many g c =
    rw (← c.self.view_is, c.front_place.ensures)
    (first-listed c.self.inside.values.list.order (omega (arith, length-pairs c.self.invariant.agrees, c.len.ensures.len, c.if-len-le1.false)))
