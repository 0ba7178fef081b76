use Rattle.ordered_multimap.proofs.Append.Entries.{entry_parts}
use Rattle.ordered_multimap.proofs.list_ordered_multimap.entry.OccupiedEntry.remove.Goals as goal

pub returns-clause-value : goal.returns-clause-value
returns-clause-value g c = λ k is. (entry_parts _ _ _ (c.take_entry_at-stored.ensures.entry k is)).1
