use Rattle.ordered_multimap.proofs.Detach.DrainSteps.{drains}
use Rattle.ordered_multimap.proofs.list_ordered_multimap.drain.EntryValuesDrain.iter.Goals as goal

pub values_left-requires : goal.values_left-requires
values_left-requires g c = let m = c.args.self.now.map.now in drains m.slots.values m.slots.left c.args.self.now.chain
