use Rattle.std.proofs.Common.{◌-◌, length, ap, ◌∙◌, subst, arith}
use Rattle.std.specs.Map.Calls.{CalledAtPair}
use Rattle.multimap_walks.specs.Chained.{pairs_of}
use Rattle.ordered_multimap.specs.TapeNumbers.{TakesOut, numbers_of}
use Rattle.ordered_multimap.specs.Retain.{kept_stepwise}
use Rattle.ordered_multimap.proofs.Callers.Retained.{retained_stepwise}
use Rattle.ordered_multimap.proofs.Remove.SomePairs.{map_fewer, pairs_fewer, pairs_taken}
use Rattle.ordered_multimap.proofs.list_ordered_multimap.ListOrderedMultimap.retain.Goals as goal

pub invariant_of-self : goal.invariant_of-self
invariant_of-self g c = map_fewer c.self.invariant c.retain_pairs.ensures.loses

pub returns-clause-taken : goal.returns-clause-taken
returns-clause-taken g c =
    subst (λ m. TakesOut (length m.lists.pairs - length (pairs_of c.retain_pairs.new.keys c.retain_pairs.new.values.list)) m.tape
    (numbers_of c.retain_pairs.new.values)) c.self.view_is (pairs_taken c.self.invariant c.retain_pairs.ensures.loses)

pub returns-clause-fewer : goal.returns-clause-fewer
returns-clause-fewer g c =
    omega (arith, pairs_fewer c.self.invariant c.retain_pairs.ensures.loses, ap (λ m. length m.lists.pairs) c.self.view_is)

pub returns-clause-stepwise : goal.returns-clause-stepwise
returns-clause-stepwise g c =
    let r = c.retain_pairs.ensures.retained in
    λ keep step always. retained_stepwise (CalledAtPair g.F.FnMut) keep step _ always _ _ r.0 r.1
    ∙ ap (λ m. kept_stepwise keep step m.lists.pairs) c.self.view_is
