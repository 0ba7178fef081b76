use Rattle.std.proofs.Common.{rules}
use Rattle.ordered_multimap.proofs.list_ordered_multimap.entry.Entry.or_default.Goals as goal

pub returns-in-Occupied : goal.returns-in-Occupied
returns-in-Occupied g c = search rules
