use Rattle.ordered_multimap.proofs.Walks.TakenApart.{pair_handed, value_handed}
use Rattle.ordered_multimap.proofs.list_ordered_multimap.into_iter.give_pair.Goals as goal

pub returns-in-Some-clause-handed : goal.returns-in-Some-clause-handed
returns-in-Some-clause-handed g c =
    pair_handed c.requires c.take_listed-value.ensures.removed c.take_listed-value.ensures.link c.give_key.ensures c.in-Some.key c.in-Some.is

pub returns-in-None-clause-handed : goal.returns-in-None-clause-handed
returns-in-None-clause-handed g c =
    value_handed c.requires c.take_listed-value.ensures.removed c.take_listed-value.ensures.link c.give_key.ensures c.in-None.is
