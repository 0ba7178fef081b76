use Rattle.ordered_multimap.proofs.Detach.Dropped.{filters_chains}
use Rattle.ordered_multimap.proofs.laws.chain_is_filter.Goals as goal

pub returns : goal.returns
returns g c = filters_chains g.K.PartialEq.eq
