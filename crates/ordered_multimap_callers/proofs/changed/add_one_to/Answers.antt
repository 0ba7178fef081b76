use Rattle.std.proofs.Common.{◌+◌, ◌%◌, ◌^◌, rules}
use Rattle.ordered_multimap_callers.proofs.changed.add_one_to.Goals as goal

pub returns : goal.returns
returns g c = c.update_all.ensures.stepwise (λ v. (v + 1) % 2 ^ 32) (λ q left f' called. (search rules, search rules))
