use Rattle.std.proofs.Common.{rules}
use Rattle.config_reader.proofs.change.settings_rank.Goals as goal

pub returns : goal.returns
returns c = search rules
