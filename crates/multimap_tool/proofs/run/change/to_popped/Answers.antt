use Rattle.std.proofs.Common.{rules}
use Rattle.multimap_tool.proofs.run.change.to_popped.Goals as goal

pub returns-in-Some-Borrowed-default : goal.returns-in-Some-Borrowed-default
returns-in-Some-Borrowed-default g c = search rules
