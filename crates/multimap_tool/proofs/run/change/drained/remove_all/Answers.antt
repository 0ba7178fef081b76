use Rattle.std.proofs.Common.{rules}
use Rattle.multimap_tool.proofs.run.change.drained.remove_all.Goals as goal

pub returns : goal.returns
returns g c = search rules
