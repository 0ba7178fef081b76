use Rattle.std.proofs.Common.{length, sym, ap, ◌∙◌, subst}
use Rattle.ordered_multimap.specs.Lists.{IsWellFormed}
use Rattle.ordered_multimap.proofs.Agreement.Agreed.{length-keys, well_formed}
use Rattle.ordered_multimap.proofs.list_ordered_multimap.ListOrderedMultimap.keys_len.Goals as goal

pub returns-clause-len : goal.returns-clause-len
returns-clause-len g c = c.len.ensures.len ∙ sym (length-keys c.self.invariant.agrees) ∙ ap (λ m. length m.lists.keys) c.self.view_is

pub returns-clause-well_formed : goal.returns-clause-well_formed
returns-clause-well_formed g c =
    subst (λ m. IsWellFormed g.K.PartialEq.eq m.lists) c.self.view_is (well_formed c.self.invariant.agrees)
