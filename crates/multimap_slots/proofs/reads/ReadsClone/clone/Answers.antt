use Rattle.std.proofs.Common.{rules}
use Rattle.multimap_slots.proofs.reads.ReadsClone.clone.Goals as goal

pub returns : goal.returns
returns c = search rules
