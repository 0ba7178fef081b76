use Rattle.set_ordered_multimap.proofs.Callers.Sets.{changes_keep_sets}
use Rattle.set_ordered_multimap.proofs.laws.changes_keep_sets.Goals as goal

pub returns : goal.returns
returns g c = changes_keep_sets g.met.K.Eq.laws g.met.V.Eq.laws
