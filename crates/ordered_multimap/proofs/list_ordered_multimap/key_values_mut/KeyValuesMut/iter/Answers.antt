use Rattle.multimap_walks.proofs.Callers.Squashed.{read_left}
use Rattle.ordered_multimap.proofs.list_ordered_multimap.key_values_mut.KeyValuesMut.iter.Goals as goal

pub key_values_between-requires : goal.key_values_between-requires
key_values_between-requires g c = read_left c.args.self.now.map.now.slots.keys.order c.args.self.now.left c.args.self.now.are_left
