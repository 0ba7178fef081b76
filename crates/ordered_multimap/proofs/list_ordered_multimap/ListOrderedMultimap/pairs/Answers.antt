use Rattle.std.proofs.Common.{ap, ◌∙◌}
use Rattle.ordered_multimap.specs.KeyLists.{keys_with_values}
use Rattle.ordered_multimap.proofs.Walks.WalkedLists.{keys_with_values-listed}
use Rattle.ordered_multimap.proofs.list_ordered_multimap.ListOrderedMultimap.pairs.Goals as goal

pub returns : goal.returns
returns g c = c.new.ensures.keys ∙ keys_with_values-listed c.self.invariant.agrees g.met.K.Eq.laws
    ∙ ap (λ m. keys_with_values g.K.PartialEq.eq m.lists) c.self.view_is
