use Rattle.std.proofs.Common.{rules}
use Rattle.ordered_multimap_callers.proofs.changed.fill_with.Goals as goal

pub returns : goal.returns
returns g c = c.update_values.ensures.stepwise (λ k v. c.args.value) (λ p q left f' called. (search rules, search rules))
