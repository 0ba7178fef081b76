use Rattle.ordered_multimap.proofs.Callers.Laws.{rebuilt_of_both}
use Rattle.ordered_multimap.proofs.laws.json_two_lists.Goals as goal

pub returns : goal.returns
returns g c = rebuilt_of_both g.met.K.Eq.laws
