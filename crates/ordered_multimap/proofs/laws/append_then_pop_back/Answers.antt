use Rattle.ordered_multimap.proofs.Callers.Laws.{pop_undoes_append}
use Rattle.ordered_multimap.proofs.laws.append_then_pop_back.Goals as goal

pub returns : goal.returns
returns g c = pop_undoes_append g.met.K.Eq.laws
