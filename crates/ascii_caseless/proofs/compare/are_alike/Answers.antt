use Rattle.std.proofs.Common.{rules}
use Rattle.ascii_caseless.proofs.compare.are_alike.Goals as goal

pub returns : goal.returns
returns c = search rules
