use Rattle.std.proofs.Common.{subst}
use Rattle.multimap_walks.specs.Walk.{TellsLength}
use Rattle.ordered_multimap.proofs.list_ordered_multimap.into_iter.IntoIterIterator.size_hint.Goals as goal

pub returns : goal.returns
returns g c = subst (TellsLength c.size_hint-2.result) c.iter.ensures c.size_hint-2.ensures
