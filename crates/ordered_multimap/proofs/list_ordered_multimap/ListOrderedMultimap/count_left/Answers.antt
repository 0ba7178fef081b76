use Rattle.std.proofs.Common.{length, sym, ap, ◌∙◌, subst}
use Rattle.ordered_multimap.specs.Detaches.{HoldsDrain, left_of}
use Rattle.ordered_multimap.proofs.Detach.DrainSteps.{length-drained}
use Rattle.ordered_multimap.proofs.list_ordered_multimap.ListOrderedMultimap.count_left.Goals as goal

pub returns : goal.returns
returns g c =
    let i = c.self.inside in
    sym (length-drained i.values.list i.left (subst HoldsDrain (sym c.self.view_is) c.requires))
    ∙ ap (λ m. length (left_of m)) c.self.view_is
