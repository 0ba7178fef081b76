use Rattle.std.proofs.Common.{rules}
use Rattle.config_reader.proofs.answer.show.Goals as goal

pub returns-in-Get-clause-shown : goal.returns-in-Get-clause-shown
returns-in-Get-clause-shown c = search rules
