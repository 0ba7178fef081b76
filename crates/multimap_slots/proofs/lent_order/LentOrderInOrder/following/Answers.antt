use Rattle.std.proofs.Common.{rules}
use Rattle.multimap_slots.proofs.lent_order.LentOrderInOrder.following.Goals as goal

pub returns-in-Tape : goal.returns-in-Tape
returns-in-Tape g c = search rules
