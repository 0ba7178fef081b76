use Rattle.std.proofs.Common.{rules}
use Rattle.multimap_walks.proofs.slots.chained_at.Goals as goal

pub returns-then-detached-clause-counted : goal.returns-then-detached-clause-counted
returns-then-detached-clause-counted g c = search rules
