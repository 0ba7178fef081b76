use Rattle.ordered_multimap.proofs.Detach.DrainSteps.{drains}
use Rattle.ordered_multimap.proofs.list_ordered_multimap.drain.EntryValuesDrainIterator.next.Goals as goal

pub take_left-requires : goal.take_left-requires
take_left-requires g c = let m = c.args.self.now.map.now in drains m.slots.values m.slots.left c.args.self.now.chain
