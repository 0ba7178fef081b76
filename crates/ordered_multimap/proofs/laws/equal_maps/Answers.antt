use Rattle.ordered_multimap.proofs.Walks.EqualPairs.{compares_pairs}
use Rattle.ordered_multimap.proofs.laws.equal_maps.Goals as goal

pub returns : goal.returns
returns g c = compares_pairs g.met.K.Eq.laws g.met.V.Eq.laws
