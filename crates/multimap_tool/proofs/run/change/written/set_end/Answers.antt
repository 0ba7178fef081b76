use Rattle.std.proofs.Common.{arith}
use Rattle.std.proofs.lemmas.Grind.{common_steps}
use Rattle.multimap_tool.proofs.run.change.written.set_end.Goals as goal

pub returns-in-Front : goal.returns-in-Front
returns-in-Front g c = grind (arith, common_steps)
