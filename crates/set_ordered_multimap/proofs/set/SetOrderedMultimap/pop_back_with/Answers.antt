use Rattle.std.proofs.Common.{subst}
use Rattle.ordered_multimap.specs.End.TheVariants.{Back}
use Rattle.set_ordered_multimap.proofs.Ends.{loses-end}
use Rattle.set_ordered_multimap.specs.SetChanges.{LosesEnd}
use Rattle.set_ordered_multimap.proofs.set.SetOrderedMultimap.pop_back_with.Goals as goal

pub returns-clause-popped : goal.returns-clause-popped
returns-clause-popped g c =
    subst (λ m. LosesEnd g.K.PartialEq.eq g.V.PartialEq.eq m c.pop_back_with.new.self Back) c.self.view_is
    (loses-end g.met.K.Eq.laws g.met.V.Eq.laws Back c.self.inside.map c.pop_back_with.new.self c.pop_back_with.ensures.popped)
