use Rattle.std.proofs.Common.{length, sym, ap, ◌∙◌}
use Rattle.ordered_multimap.proofs.Agreement.Agreed.{length-pairs}
use Rattle.ordered_multimap.proofs.list_ordered_multimap.ListOrderedMultimap.values_len.Goals as goal

pub returns : goal.returns
returns g c = c.len.ensures.len ∙ sym (length-pairs c.self.invariant.agrees) ∙ ap (λ m. length m.lists.pairs) c.self.view_is
