use Rattle.ordered_multimap.proofs.Detach.Drains.{drains_entry}
use Rattle.ordered_multimap.proofs.list_ordered_multimap.entry.OccupiedEntry.remove_entry_all.Goals as goal

pub returns-clause-drain : goal.returns-clause-drain
returns-clause-drain g c = λ k is. drains_entry _
    (c.detach_at-stored.ensures.detached k is) c.detach_at-stored.ensures.holds.rooms c.lend_to_drain.ensures.same
