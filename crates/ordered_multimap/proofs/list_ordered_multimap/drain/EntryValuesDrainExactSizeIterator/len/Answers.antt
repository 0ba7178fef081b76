use Rattle.ordered_multimap.proofs.Detach.DrainSteps.{drains}
use Rattle.ordered_multimap.proofs.list_ordered_multimap.drain.EntryValuesDrainExactSizeIterator.len.Goals as goal

pub count_left-requires : goal.count_left-requires
count_left-requires g c = let m = c.args.self.now.map.now in drains m.slots.values m.slots.left c.args.self.now.chain
