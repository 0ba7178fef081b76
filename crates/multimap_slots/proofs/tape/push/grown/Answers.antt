use Rattle.std.proofs.Common.{rules}
use Rattle.multimap_slots.proofs.tape.push.grown.Goals as goal

pub returns-clause-doubles : goal.returns-clause-doubles
returns-clause-doubles c = search rules
