use Rattle.std.proofs.Common.{rules}
use Rattle.ascii_caseless.proofs.compare.AsciiCaselessPartialEq.eq.Goals as goal

pub returns : goal.returns
returns g c = search rules
