use Rattle.std.proofs.Common.{rules}
use Rattle.config_reader.proofs.change.indent_in.Goals as goal

pub loop-name-preserved-then-lines-rank : goal.loop-name-preserved-then-lines-rank
loop-name-preserved-then-lines-rank c = search rules
