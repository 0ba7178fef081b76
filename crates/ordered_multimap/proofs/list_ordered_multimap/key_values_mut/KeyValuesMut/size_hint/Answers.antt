use Rattle.std.proofs.Common.{rules}
use Rattle.multimap_walks.proofs.Callers.Squashed.{read_left}
use Rattle.ordered_multimap.proofs.list_ordered_multimap.key_values_mut.KeyValuesMut.size_hint.Goals as goal

pub keys_between-left-requires : goal.keys_between-left-requires
keys_between-left-requires g c = read_left c.args.self.now.map.now.slots.keys.order c.args.self.now.left c.args.self.now.are_left

pub returns-clause-least : goal.returns-clause-least
returns-clause-least g c = search rules
