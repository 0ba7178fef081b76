use Rattle.set_ordered_multimap.proofs.Callers.FirstPairs.{keeps_first_pairs}
use Rattle.set_ordered_multimap.proofs.laws.insertions_keep_first_pairs.Goals as goal

pub returns : goal.returns
returns g c = keeps_first_pairs g.met.K.Eq.laws g.met.V.Eq.laws
