use Rattle.std.proofs.Common.{rules}
use Rattle.config_reader.proofs.change.rank_of.Goals as goal

pub returns : goal.returns
returns c = search rules

pub returns-then-eq : goal.returns-then-eq
returns-then-eq c = search rules
