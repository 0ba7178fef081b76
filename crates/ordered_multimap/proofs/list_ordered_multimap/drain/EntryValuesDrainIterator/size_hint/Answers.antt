use Rattle.ordered_multimap.proofs.Detach.DrainSteps.{drains}
use Rattle.ordered_multimap.proofs.list_ordered_multimap.drain.EntryValuesDrainIterator.size_hint.Goals as goal

pub count_left-left-requires : goal.count_left-left-requires
count_left-left-requires g c = let m = c.args.self.now.map.now in drains m.slots.values m.slots.left c.args.self.now.chain
