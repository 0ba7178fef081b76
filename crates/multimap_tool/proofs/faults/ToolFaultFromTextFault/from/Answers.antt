use Rattle.std.proofs.Common.{rules}
use Rattle.multimap_tool.proofs.faults.ToolFaultFromTextFault.from.Goals as goal

pub returns-in-BadLine : goal.returns-in-BadLine
returns-in-BadLine c = search rules
