use Rattle.std.proofs.Common.{sym, ap, ◌∙◌}
use Rattle.ordered_multimap.specs.Pairs.{all_values}
use Rattle.ordered_multimap.proofs.Walks.WalkedLists.{all_values-listed}
use Rattle.ordered_multimap.proofs.list_ordered_multimap.ListOrderedMultimap.into_values.Goals as goal

pub returns : goal.returns
returns g c = sym (all_values-listed c.self.invariant.agrees) ∙ ap (λ m. all_values m.lists.pairs) c.self.view_is
