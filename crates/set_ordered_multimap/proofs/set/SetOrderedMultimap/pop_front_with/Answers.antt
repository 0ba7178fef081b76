use Rattle.std.proofs.Common.{subst}
use Rattle.ordered_multimap.specs.End.TheVariants.{Front}
use Rattle.set_ordered_multimap.proofs.Ends.{loses-end}
use Rattle.set_ordered_multimap.specs.SetChanges.{LosesEnd}
use Rattle.set_ordered_multimap.proofs.set.SetOrderedMultimap.pop_front_with.Goals as goal

pub returns-clause-popped : goal.returns-clause-popped
returns-clause-popped g c =
    subst (λ m. LosesEnd g.K.PartialEq.eq g.V.PartialEq.eq m c.pop_front_with.new.self Front) c.self.view_is
    (loses-end g.met.K.Eq.laws g.met.V.Eq.laws Front c.self.inside.map c.pop_front_with.new.self c.pop_front_with.ensures.popped)
