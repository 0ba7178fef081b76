use Rattle.std.proofs.Common.{rules}
use Rattle.config_reader.proofs.reader.Reader.add_item.Goals as goal

pub returns-clause-added : goal.returns-clause-added
returns-clause-added c = search rules
