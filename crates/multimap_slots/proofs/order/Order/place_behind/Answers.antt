use Rattle.std.proofs.Common.{rules}
use Rattle.multimap_slots.proofs.order.Order.place_behind.Goals as goal

pub returns : goal.returns
returns g c = search rules
