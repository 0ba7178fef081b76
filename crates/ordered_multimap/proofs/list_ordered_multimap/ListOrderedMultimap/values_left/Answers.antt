use Rattle.std.proofs.Common.{rules}
use Rattle.std.proofs.Common.{sym, subst}
use Rattle.ordered_multimap.specs.Detaches.{HoldsDrain}
use Rattle.ordered_multimap.proofs.Detach.DrainSteps.{chain_of-drained}
use Rattle.ordered_multimap.proofs.list_ordered_multimap.ListOrderedMultimap.values_left.Goals as goal

pub new_detached-requires : goal.new_detached-requires
new_detached-requires g c = let i = c.self.inside in
    chain_of-drained i.values.list i.left (subst HoldsDrain (sym c.self.view_is) c.requires)

pub returns : goal.returns
returns g c = search rules
