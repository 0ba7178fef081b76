use Rattle.std.proofs.Common.{rules}
use Rattle.multimap_tool.proofs.faults.ToolFault.status.Goals as goal

pub returns-in-Read : goal.returns-in-Read
returns-in-Read c = search rules
