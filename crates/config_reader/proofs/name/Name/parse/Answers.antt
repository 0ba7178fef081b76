use Rattle.std.proofs.Common.{rules}
use Rattle.config_reader.proofs.name.Name.parse.Goals as goal

pub returns-clause-dot : goal.returns-clause-dot
returns-clause-dot c = search rules
