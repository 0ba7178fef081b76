use Rattle.std.proofs.Common.{rules}
use Rattle.ordered_multimap.proofs.list_ordered_multimap.remove.value.index_of.Goals as goal

pub returns : goal.returns
returns g c = search rules

pub returns-then-eq : goal.returns-then-eq
returns-then-eq g c = search rules
