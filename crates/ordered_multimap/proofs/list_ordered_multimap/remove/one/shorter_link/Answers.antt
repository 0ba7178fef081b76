use Rattle.std.proofs.Common.{rules}
use Rattle.ordered_multimap.proofs.list_ordered_multimap.remove.one.shorter_link.Goals as goal

pub returns : goal.returns
returns c = search rules
