use Rattle.std.proofs.Common.{rules}
use Rattle.ordered_multimap.proofs.list_ordered_multimap.ListOrderedMultimap.put_at_reserved.Goals as goal

pub returns-then-replaces : goal.returns-then-replaces
returns-then-replaces g c = search rules
