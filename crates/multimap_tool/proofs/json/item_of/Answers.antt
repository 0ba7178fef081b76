use Rattle.std.proofs.Common.{rules}
use Rattle.multimap_tool.proofs.json.item_of.Goals as goal

pub returns-clause-written : goal.returns-clause-written
returns-clause-written g c = search rules

pub returns-clause-accepted : goal.returns-clause-accepted
returns-clause-accepted g c = search rules
