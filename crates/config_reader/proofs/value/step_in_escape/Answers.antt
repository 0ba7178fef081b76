use Rattle.std.proofs.Common.{rules}
use Rattle.config_reader.proofs.value.step_in_escape.Goals as goal

pub returns-in-98-clause-step : goal.returns-in-98-clause-step
returns-in-98-clause-step c = search rules
