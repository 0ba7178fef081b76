use Rattle.std.proofs.Common.{rules}
use Rattle.multimap_tool.proofs.run.change.drained.insert_all.Goals as goal

pub returns-in_default : goal.returns-in_default
returns-in_default g c = search rules
