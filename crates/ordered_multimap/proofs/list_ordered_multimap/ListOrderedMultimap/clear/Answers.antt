use Rattle.std.proofs.Common.{length, ap, subst, arith}
use Rattle.ordered_multimap.specs.TapeNumbers.{TakesOut, numbers_of}
use Rattle.ordered_multimap.proofs.Agreement.Agreed.{agrees_empty, length-pairs}
use Rattle.ordered_multimap.proofs.list_ordered_multimap.ListOrderedMultimap.clear.Goals as goal

pub invariant_of-self : goal.invariant_of-self
invariant_of-self g c =
    let keys = c.clear_listed.ensures in
    let values = c.clear-2.ensures in
    record {
      agrees = agrees_empty c.clear_listed.new.self c.clear-2.new.self.list keys.order values.empty.order _ _ _ c.clear.ensures.empty;
      fits = omega (arith, ap length values.empty.order);
      paid = omega (arith, values.moved, values.freed, values.holes, c.self.invariant.paid);
    }

pub returns-clause-taken : goal.returns-clause-taken
returns-clause-taken g c =
    let values = c.clear-2.ensures in
    subst (λ m. TakesOut (length m.lists.pairs) m.tape (numbers_of c.clear-2.new.self)) c.self.view_is (record {
      freed = omega (arith, values.freed, length-pairs c.self.invariant.agrees);
      paid = omega (arith, values.moved, values.holes);
    })
