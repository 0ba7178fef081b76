use Rattle.std.proofs.Common.{rules}
use Rattle.config_reader.proofs.answer.add_last.Goals as goal

pub returns-clause-shown : goal.returns-clause-shown
returns-clause-shown c = search rules
