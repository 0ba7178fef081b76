use Rattle.std.proofs.Common.{rules}
use Rattle.config_reader.proofs.section.is_outside_sub.Goals as goal

pub returns-in_default : goal.returns-in_default
returns-in_default c = search rules
