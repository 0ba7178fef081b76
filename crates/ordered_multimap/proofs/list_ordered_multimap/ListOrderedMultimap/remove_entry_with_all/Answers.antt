use Rattle.std.proofs.Common.{rules, refl}
use Rattle.ordered_multimap.proofs.Detach.Drains.{drains_entry}
use Rattle.ordered_multimap.proofs.list_ordered_multimap.ListOrderedMultimap.remove_entry_with_all.Goals as goal

pub returns-clause-drain : goal.returns-clause-drain
returns-clause-drain g c = drains_entry _ c.detach_all.ensures.detached c.detach_all.ensures.holds.rooms refl

pub returns-clause-found : goal.returns-clause-found
returns-clause-found g c = search rules

pub returns-clause-key : goal.returns-clause-key
returns-clause-key g c = search rules
