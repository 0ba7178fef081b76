use Rattle.std.proofs.Common.{rules}
use Rattle.config_reader.proofs.name.is_outside_key.Goals as goal

pub returns-in_default-2 : goal.returns-in_default-2
returns-in_default-2 c = search rules
