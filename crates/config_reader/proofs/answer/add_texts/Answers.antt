use Rattle.std.proofs.Common.{arith}
use Rattle.std.proofs.lemmas.Grind.{common_steps}
use Rattle.config_reader.proofs.answer.add_texts.Goals as goal

pub loop-lines-preserved : goal.loop-lines-preserved
loop-lines-preserved c = grind (arith, common_steps)
