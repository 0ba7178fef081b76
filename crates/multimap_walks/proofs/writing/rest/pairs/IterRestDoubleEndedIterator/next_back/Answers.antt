use Rattle.std.proofs.Common.{rules}
use Rattle.multimap_walks.proofs.writing.rest.pairs.IterRestDoubleEndedIterator.next_back.Goals as goal

pub returns-clause-steps : goal.returns-clause-steps
returns-clause-steps g c = search rules
