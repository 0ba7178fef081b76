use Rattle.std.proofs.Common.{◌∙◌, length, ap}
use Rattle.ordered_multimap.proofs.list_ordered_multimap.into_iter.IntoIterExactSizeIterator.len.Goals as goal

pub returns-clause-value : goal.returns-clause-value
returns-clause-value g c = c.len-2.ensures.value ∙ ap length c.iter.ensures
