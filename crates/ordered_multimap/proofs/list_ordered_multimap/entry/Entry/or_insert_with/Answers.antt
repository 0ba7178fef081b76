use Rattle.std.proofs.Common.{rules}
use Rattle.ordered_multimap.proofs.list_ordered_multimap.entry.Entry.or_insert_with.Goals as goal

pub f-requires : goal.f-requires
f-requires g c = search rules
