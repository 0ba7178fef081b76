use Rattle.std.proofs.Common.{rules}
use Rattle.config_reader.proofs.change.set_lines.Goals as goal

pub returns : goal.returns
returns c = search rules
