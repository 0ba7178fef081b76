use Rattle.std.proofs.Common.{rules}
use Rattle.multimap_slots.proofs.order.node.Standing.state.Goals as goal

pub returns-in-18446744073709551615 : goal.returns-in-18446744073709551615
returns-in-18446744073709551615 c = search rules
