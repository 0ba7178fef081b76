use Rattle.std.proofs.Common.{rules}
use Rattle.config_reader.proofs.value.step.Goals as goal

pub returns-in-WordEscape-2-clause-step : goal.returns-in-WordEscape-2-clause-step
returns-in-WordEscape-2-clause-step c = search rules
