use Rattle.std.proofs.Common.{rules}
use Rattle.config_reader.proofs.WholeLines.{texts_behind}
use Rattle.config_reader.proofs.config.append_lines.Goals as goal

pub returns-clause-texts : goal.returns-clause-texts
returns-clause-texts c = search (rules, texts_behind)

pub returns-clause-lists : goal.returns-clause-lists
returns-clause-lists c = search rules
