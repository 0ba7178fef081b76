use Rattle.std.proofs.Common.{sym}
use Rattle.ordered_multimap.proofs.Agreement.Queries.{found_at}
use Rattle.ordered_multimap.proofs.Callers.ListedKeys.{find_none}
use Rattle.ordered_multimap.proofs.list_ordered_multimap.ListOrderedMultimap.get_key_value.Goals as goal

pub returns-in-Some-clause-key : goal.returns-in-Some-clause-key
returns-in-Some-clause-key g c =
    found_at (rw c.in-Some.is at c.look_up.ensures.stored) _ (rw c.in-Some.is at c.look_up.ensures.listed) c.key_at.ensures.stored

pub returns-in-None-clause-key : goal.returns-in-None-clause-key
returns-in-None-clause-key g c =
    sym (find_none (g.Q.KeyQuery.equivalent c.args.key) c.args.self.now.lists.keys (rw c.in-None.is at c.look_up.ensures.absent).unlisted)
