use Rattle.std.proofs.Common.{rules}
use Rattle.ordered_multimap.proofs.list_ordered_multimap.equal.ListOrderedMultimapPartialEq.eq.Goals as goal

pub returns-then-values_len : goal.returns-then-values_len
returns-then-values_len g c = search rules
