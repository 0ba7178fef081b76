use Rattle.std.proofs.Common.{rules}
use Rattle.ordered_multimap.proofs.list_ordered_multimap.ListOrderedMultimap.wrapped_one.Goals as goal

pub returns-in-Kept : goal.returns-in-Kept
returns-in-Kept g c = search rules
