use Rattle.std.proofs.Common.{rules}
use Rattle.ordered_multimap.proofs.Detach.DrainSteps.{drains}
use Rattle.ordered_multimap.proofs.list_ordered_multimap.drain.EntryValuesDrain.drop.Goals as goal

pub drop_left-requires : goal.drop_left-requires
drop_left-requires g c = let m = c.args.self.map.now in drains m.slots.values m.slots.left c.args.self.chain

pub returns-clause-none_left : goal.returns-clause-none_left
returns-clause-none_left g c = search rules
