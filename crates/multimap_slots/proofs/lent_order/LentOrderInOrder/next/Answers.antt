use Rattle.std.proofs.Common.{rules}
use Rattle.multimap_slots.proofs.lent_order.LentOrderInOrder.next.Goals as goal

pub returns-in-List : goal.returns-in-List
returns-in-List g c = search rules
