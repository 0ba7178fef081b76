use Rattle.std.proofs.Common.{rules}
use Rattle.config_reader.proofs.name.Name.is_setting_of.Goals as goal

pub returns-then-eq : goal.returns-then-eq
returns-then-eq c = search rules
