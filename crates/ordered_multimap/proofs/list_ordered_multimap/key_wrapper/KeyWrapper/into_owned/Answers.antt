use Rattle.std.proofs.Common.{rules}
use Rattle.ordered_multimap.proofs.list_ordered_multimap.key_wrapper.KeyWrapper.into_owned.Goals as goal

pub returns-in-Owned-clause-ok : goal.returns-in-Owned-clause-ok
returns-in-Owned-clause-ok g c = search rules

pub returns-in-Owned-clause-succeeds : goal.returns-in-Owned-clause-succeeds
returns-in-Owned-clause-succeeds g c = search rules
