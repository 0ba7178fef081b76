use Rattle.std.proofs.Common.{rules}
use Rattle.multimap_tool.proofs.json.lists.read_with_value.Goals as goal

pub returns-in-Ok : goal.returns-in-Ok
returns-in-Ok g c = search rules
