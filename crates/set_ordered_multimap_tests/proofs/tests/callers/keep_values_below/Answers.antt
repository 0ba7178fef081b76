use Rattle.std.proofs.Common.{ltb, rules}
use Rattle.set_ordered_multimap_tests.proofs.tests.callers.keep_values_below.Goals as goal

pub returns-clause-pairs : goal.returns-clause-pairs
returns-clause-pairs g c = c.retain_all.ensures.stepwise (λ v. ltb v c.args.limit) (λ v b next t. search rules)
