use Rattle.std.proofs.Common.{rules}
use Rattle.ordered_multimap.proofs.list_ordered_multimap.remove.chain.unlink_entry.Goals as goal

pub returns : goal.returns
returns g c = search rules
