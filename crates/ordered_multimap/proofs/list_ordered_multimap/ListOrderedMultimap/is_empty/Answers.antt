use Rattle.std.proofs.Common.{◌≡◌, ◌↔◌, IsTrue, [], subst}
use Rattle.ordered_multimap.specs.Lists.{IsWellFormed}
use Rattle.ordered_multimap.proofs.Agreement.Agreed.{no_pairs, well_formed}
use Rattle.ordered_multimap.proofs.list_ordered_multimap.ListOrderedMultimap.is_empty.Goals as goal

pub returns-clause-empty : goal.returns-clause-empty
returns-clause-empty g c =
    subst (λ m. IsTrue c.is_empty.result ↔ (m.lists.pairs ≡ [])) c.self.view_is
    (let order = no_pairs c.self.invariant.agrees in
    (λ yes. order.0 (c.is_empty.ensures.0 yes), λ none. c.is_empty.ensures.1 (order.1 none)))

pub returns-clause-well_formed : goal.returns-clause-well_formed
returns-clause-well_formed g c =
    subst (λ m. IsWellFormed g.K.PartialEq.eq m.lists) c.self.view_is (well_formed c.self.invariant.agrees)
