use Rattle.ordered_multimap.proofs.Callers.Laws.{rebuilt}
use Rattle.ordered_multimap.proofs.laws.json_first_occurrence.Goals as goal

pub returns : goal.returns
returns g c = rebuilt g.met.K.Eq.laws
