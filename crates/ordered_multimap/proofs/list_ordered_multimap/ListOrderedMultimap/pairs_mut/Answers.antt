use Rattle.std.proofs.Common.{arith, rules}
use Rattle.std.proofs.lemmas.Grind.{common_steps}
use Rattle.ordered_multimap.proofs.list_ordered_multimap.ListOrderedMultimap.pairs_mut.Goals as goal

pub returns-clause-keys : goal.returns-clause-keys
returns-clause-keys g c = search rules

pub invariant_of-result : goal.invariant_of-result
invariant_of-result g c = grind (arith, common_steps) steps 2000000
