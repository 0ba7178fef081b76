use Rattle.std.proofs.Common.{rules}
use Rattle.multimap_tool.proofs.faults.ToolFaultDisplay.fmt.Goals as goal

pub returns-in-Read-clause-writes : goal.returns-in-Read-clause-writes
returns-in-Read-clause-writes g c = search rules
