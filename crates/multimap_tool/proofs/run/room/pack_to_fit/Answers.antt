use Rattle.std.proofs.Common.{rules}
use Rattle.multimap_tool.proofs.run.room.pack_to_fit.Goals as goal

pub returns-in-Ok-clause-packed : goal.returns-in-Ok-clause-packed
returns-in-Ok-clause-packed g c = search rules
