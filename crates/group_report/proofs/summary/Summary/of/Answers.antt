use Rattle.std.proofs.Common.{rules}
use Rattle.group_report.proofs.summary.Summary.of.Goals as goal

pub returns-clause-count : goal.returns-clause-count
returns-clause-count c = search rules
