use Rattle.std.proofs.Common.{arith}
use Rattle.std.proofs.lemmas.Grind.{common_steps}
use Rattle.config_reader.proofs.section.Section.add_line.Goals as goal

pub returns : goal.returns
returns c = grind (arith, common_steps)
