use Rattle.std.proofs.lemmas.Iterator.{items_from_collect}
use Rattle.std.proofs.lemmas.Iterator.Consumers.{YieldsList-from_rest}
use Rattle.ordered_multimap_callers.proofs.taken.keys_of.Goals as goal

pub returns : goal.returns
returns g c = record { keys = items_from_collect _ c.collect.ensures.ran (YieldsList-from_rest _ c.into_keys.ensures) }
