use Rattle.std.proofs.Common.{rules}
use Rattle.multimap_tool.proofs.run.room.reserve.Goals as goal

pub returns-in-Ok-clause-value_room : goal.returns-in-Ok-clause-value_room
returns-in-Ok-clause-value_room g c = search rules
