use Rattle.std.proofs.Common.{rules}
use Rattle.multimap_tool.proofs.execute.write_text.Goals as goal

pub returns-in-Err-clause-fault : goal.returns-in-Err-clause-fault
returns-in-Err-clause-fault g c = search rules
