use Rattle.std.proofs.Common.{rules}
use Rattle.multimap_walks.proofs.writing.values.methods.ValuesMutIterator.next.Goals as goal

pub returns-clause-steps : goal.returns-clause-steps
returns-clause-steps g c = search rules
