use Rattle.std.proofs.Common.{rules}
use Rattle.ordered_multimap.proofs.list_ordered_multimap.room.make_value_room.Goals as goal

pub make_end_room-requires-clause-chains : goal.make_end_room-requires-clause-chains
make_end_room-requires-clause-chains g c = search rules

pub returns : goal.returns
returns g c = search rules
